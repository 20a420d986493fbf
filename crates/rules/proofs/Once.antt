-- No packet is taken twice.
use Rattle.std.proofs.Common.{◌≡◌, ℕ, ◌<◌, Bool, true, false, eqb, ◌⊎◌, List, [], ◌∷◌, ◌++◌, Some, None, Ok, Err, Option, Result, sym, refl, ap, ◌∙◌, subst, inl, inr, arith}
use Rattle.std.proofs.lemmas.List.{get_or-set_same}
use Rattle.std.proofs.lemmas.Bool.{eq-eqb, eqb-true}
use Rattle.fault.specs.declared.Fault.{Fault}
use Rattle.memory.specs.declared.supply.Supply.TheVariants.{Steps}
use Rattle.rules.specs.declared.Event.{Event}
use Rattle.memory.specs.declared.held.Held.{Held}
use Rattle.memory.specs.declared.held.KeyRecord.{KeyRecord}
use Rattle.memory.specs.Held.{slot_place}
use Rattle.memory.specs.Meaning.{Contents, apply}
use Rattle.memory.specs.Meaning.Step.{set_key}
use Rattle.rules.specs.Memory.{key_record, no_key, data_key, kek}
use Rattle.cipher.specs.Cipher.{Cipher, Lawful}
use Rattle.rules.specs.Board.{run, State, Call, Outcome, Deed, turns, clears, erases, stores, rekeys, powers, no_packet, Packet, KeyPacket, on_data, on_key, judge_data}
use Rattle.rules.specs.Board.{judge_key, call, step, decide, enact, history, slot, fields, key_fields}
use Rattle.rules.specs.Words.{Any, here, later, Each, version, Arrives, Begins, Taken, Refused, Passes, Opens, Opening, Takes, Delivery, Packets, end, another, one, skip}
use Rattle.rules.specs.Promises.{start, OneOf, InAFinishedUpdate, NoPacketIsTakenTwice}
use Rattle.rules.proofs.Steps.{written}
use Rattle.rules.proofs.Deeds.{next_fits, data_passed, key_passed, data_decides, key_decides, passes_stores}
use Rattle.rules.proofs.Deeds.{stores_passes}
use Rattle.rules.proofs.Runs.{split, run_append, Stored, unpowered, cut, whole, stored, Rekeyed, key_cut, key_set, rekeyed, erased}
use Rattle.rules.proofs.Kept.{Sound, sound_start, sound_step, sound_run, fits, Past, passed_above, past_run, KeyPast, key_past_run, slot_small}

pub some_none : {A : Type 0} (o : Option Fault) (f : Fault) → o ≡ Some f → o ≡ None → A
some_none o f e q = let z : ◌≡◌ {A = ℕ} 0 1 = cc in absurd (omega arith)

-- the second time: a packet that a check refuses changes nothing
module _ (C : Cipher) (s : State) (e : Event) where
  turned_down : (f : Fault) → decide C s e ≡ no_packet f → Refused (call C s e) × ((step C s e).state.contents ≡ s.contents)
  unfolding step enact
  turned_down f q = ((f, ap (λ (d : Deed). (enact d s).answer.refusal) q), ap (λ (d : Deed). (enact d s).state.contents) q)

  data_turned_down : (core : List ℕ) (j : Result Packet Fault) → Arrives (call C s e) core → Begins 0x30 core → judge_data C s core ≡ j
      → ((p : Packet) → judge_data C s core ≡ Ok p → ⊥) → Refused (call C s e) × ((step C s e).state.contents ≡ s.contents)
  unfolding on_data
  data_turned_down core (Err f) a b q n = turned_down f (data_decides C (call C s e) core a b ∙ ap on_data q)
  data_turned_down core (Ok p) a b q n = absurd (n p q)

  key_turned_down : (core : List ℕ) (j : Result KeyPacket Fault) → Arrives (call C s e) core → Begins 0x31 core → judge_key C s core ≡ j
      → ((p : KeyPacket) → judge_key C s core ≡ Ok p → ⊥) → Refused (call C s e) × ((step C s e).state.contents ≡ s.contents)
  unfolding on_key
  key_turned_down core (Err f) a b q n = turned_down f (key_decides C (call C s e) core a b ∙ ap on_key q)
  key_turned_down core (Ok p) a b q n = absurd (n p q)

-- the first time, of a key packet: its key record is set
module _ (C : Cipher) (s : State) (e : Event) where
  abbrev Sets : KeyPacket → Contents → Type 0
  Sets p c = c ≡ apply (set_key (slot p.kt) (record { key = p.key; version = p.kv })) s.contents

  taken_sets : (p : KeyPacket) (o : Outcome) → Rekeyed s p o → o.answer.refusal ≡ None → Sets p o.state.contents
  taken_sets p o (key_cut r x c) t = some_none _ _ r t
  taken_sets p o (key_set r x c) t = c

  pub key_taken : (core : List ℕ) (j : Result KeyPacket Fault) → judge_key C s core ≡ j → decide C s e ≡ on_key j → (step C s e).answer.refusal ≡ None
      → (p : KeyPacket) × (judge_key C s core ≡ Ok p) × Sets p (step C s e).state.contents
  unfolding on_key step enact
  key_taken core (Err f) q d t = some_none (step C s e).answer.refusal f (ap (λ (x : Deed). (enact x s).answer.refusal) d) t
  key_taken core (Ok p) q d t = (p, q, taken_sets p (step C s e) (subst (λ (x : Deed). Rekeyed s p (enact x s)) (sym d) (rekeyed s p)) t)

  -- and so its version is held
  version_held : Sound s → (p : KeyPacket) (c : Contents) → Sets p c → KeyPast (slot_place (slot p.kt)) p.kv c.held
  version_held g p c i =
      let small = slot_small p.kt in
      let there = get_or-set_same s.contents.held.keys (slot_place (slot p.kt)) (record { key = p.key; version = p.kv }) no_key (omega (arith, g.two)) in
      let is : (key_record c.held (slot_place (slot p.kt))).version ≡ p.kv =
      ap (λ (d : Contents). (key_record d.held (slot_place (slot p.kt))).version) i ∙ ap (λ (r : KeyRecord). r.version) there in
      omega arith

-- one packet opened twice under one key value
same_packet : (C : Cipher) (s t : State) (core : List ℕ) (p q : Packet) → data_key s.contents.held ≡ data_key t.contents.held → judge_data C s core ≡ Ok p
    → judge_data C t core ≡ Ok q → p ≡ q
same_packet C s t core p q k a b =
    let x = data_passed C s core p a in
    let y = data_passed C t core q b in
    let m : x.contents ≡ y.contents = cc (x.opens, y.opens) in
    sym x.holds ∙ (ap fields m ∙ y.holds)

same_key_packet : (C : Cipher) (s t : State) (core : List ℕ) (p q : KeyPacket) → kek s.contents.held ≡ kek t.contents.held → judge_key C s core ≡ Ok p
    → judge_key C t core ≡ Ok q → p ≡ q
same_key_packet C s t core p q k a b =
    let x = key_passed C s core p a in
    let y = key_passed C t core q b in
    let m : x.contents ≡ y.contents = cc (x.opens, y.opens) in
    sym x.holds ∙ (ap key_fields m ∙ y.holds)

-- the firmware version stays until an update opens
module _ (C : Cipher) (s : State) (e : Event) where
  pub written_version : (a b : Bool) (v : ℕ) (h : Held) → (a ≡ true → ⊥) → v ≡ h.version → (written a b v h).version ≡ h.version
  written_version a true v h n q = q
  written_version true false v h n q = absurd (n refl)
  written_version false false v h n q = refl

  -- a data packet that passed, and opened none
  pub not_first : (p : Packet) → decide C s e ≡ stores p → (Opening C (call C s e) → ⊥) → (s.supply ≡ Steps 0 → ⊥) → p.pn ≡ 1 → ⊥
  not_first p q n u i = n (p, record { passes = stores_passes C (call C s e) p q; first = i; powered = u })

  version_stored : (p : Packet) (o : Outcome) → decide C s e ≡ stores p → (Opening C (call C s e) → ⊥) → Stored s p o → version o.state ≡ version s
  version_stored p o q n (unpowered i z r x c) = ap (λ (d : Contents). d.held.version) c
  version_stored p o q n (cut u r x c) =
      let no_first : eqb p.pn 1 ≡ true → ⊥ = λ k. not_first p q n (u (eqb-true _ _ k)) (eqb-true _ _ k) in
      ap (λ (d : Held). d.version) c ∙ written_version (eqb p.pn 1) false p.ver s.contents.held no_first
      (next_fits s p (fits C s e p q) (λ k. no_first (eq-eqb _ _ k))).1
  version_stored p o q n (whole u r x c) =
      let no_first : eqb p.pn 1 ≡ true → ⊥ = λ k. not_first p q n (u (eqb-true _ _ k)) (eqb-true _ _ k) in
      ap (λ (d : Contents). d.held.version) c ∙ written_version (eqb p.pn 1) (eqb p.pn p.np) p.ver s.contents.held no_first
      (next_fits s p (fits C s e p q) (λ k. no_first (eq-eqb _ _ k))).1

  version_rekeyed : (p : KeyPacket) (o : Outcome) → Rekeyed s p o → version o.state ≡ version s
  version_rekeyed p o (key_cut r x c) = ap (λ (d : Contents). d.held.version) c
  version_rekeyed p o (key_set r x c) = ap (λ (d : Contents). d.held.version) c

  version_deed : (d : Deed) → decide C s e ≡ d → (Opening C (call C s e) → ⊥) → version (enact d s).state ≡ version s
  unfolding enact
  version_deed (turns r a) q n = refl
  version_deed clears q n = refl
  version_deed erases q n = ap (λ (d : Held). d.version) (erased s).held_same
  version_deed (stores p) q n = version_stored p _ q n (stored s p)
  version_deed (rekeys p) q n = version_rekeyed p _ (rekeyed s p)
  version_deed (powers u) q n = refl

  pub version_kept : (Opening C (call C s e) → ⊥) → version (step C s e).state ≡ version s
  unfolding step
  version_kept n = version_deed (decide C s e) refl n

  -- a data packet passed: what the step left
  pub step_stored : (p : Packet) → Passes C (call C s e) p → Stored s p (step C s e)
  unfolding step
  step_stored p h = subst (λ (d : Deed). Stored s p (enact d s)) (sym (passes_stores C (call C s e) p h)) (stored s p)

  -- it was the last of its update: the version is held, with no mark
  pub finished_held : (p : Packet) (o : Outcome) → Stored s p o → o.answer.refusal ≡ None → p.pn ≡ p.np → Past p.ver o.state.contents.held
  finished_held p o (unpowered i z r x c) t l = some_none _ _ r t
  finished_held p o (cut u r x c) t l = some_none _ _ r t
  finished_held p o (whole u r x c) t l =
      subst (λ (d : Contents). Past p.ver d.held) (sym c)
      (subst (λ (b : Bool). Past p.ver (written (eqb p.pn 1) b p.ver s.contents.held)) (sym (eq-eqb _ _ l)) (inl (refl, refl)))

  -- it opened its update: the version is its own
  pub opened_version : (p : Packet) (o : Outcome) → Stored s p o → p.pn ≡ 1 → (s.supply ≡ Steps 0 → ⊥) → version o.state ≡ p.ver
  opened_version p o (unpowered i z r x c) f u = absurd (u z)
  opened_version p o (cut k r x c) f u =
      ap (λ (d : Held). d.version) c ∙ subst (λ (a : Bool). (written a false p.ver s.contents.held).version ≡ p.ver) (sym (eq-eqb _ _ f)) refl
  opened_version p o (whole k r x c) f u =
      ap (λ (d : Contents). d.held.version) c ∙ subst (λ (a : Bool). (written a (eqb p.pn p.np) p.ver s.contents.held).version ≡ p.ver) (sym (eq-eqb _ _ f))
      (both (eqb p.pn p.np))
    where
      both : (b : Bool) → (written true b p.ver s.contents.held).version ≡ p.ver
      both true = refl
      both false = refl

-- a packet of the update is of its version, and once one of them finished it the version is past
abbrev Finishes : Delivery → Type 0
Finishes d = Taken d.at × (d.packet.pn ≡ d.packet.np)

abbrev Of : Cipher → ℕ → Delivery → Type 0
Of C v d = Passes C d.at d.packet × (d.packet.ver ≡ v)

pub record Course (C : Cipher) (v : ℕ) (s : State) (ds : List Delivery) : Type 0 where
  pub all : Each (Of C v) ds
  pub finished : Any Finishes ds → Past v s.contents.held

none_finishes : {A : Type 0} → Any Finishes [] → A
none_finishes a = elim a [ ]

pub any_cons : {A : Type 0} {P : A → Type 0} {x : A} {xs : List A} → Any P (x ∷ xs) → P x ⊎ Any P xs
any_cons (here h) = inl h
any_cons (later a) = inr a

-- a data packet that was taken and opened no update is of the held version
pub taken_version : (C : Cipher) (s : State) (e : Event) (p : Packet) → Takes C (call C s e) p → (Opening C (call C s e) → ⊥) → (o : Outcome) → Stored s p o
    → o.answer.refusal ≡ None → p.ver ≡ version s
taken_version C s e p t n o (unpowered i z r x c) k = some_none _ _ r k
taken_version C s e p t n o (cut u r x c) k = some_none _ _ r k
taken_version C s e p t n o (whole u r x c) k =
    let q = passes_stores C (call C s e) p t.passes in
    (next_fits s p (fits C s e p q) (λ i. not_first C s e p q n (u i) i)).1

course : (C : Cipher) → Lawful C → (v : ℕ) (s : State) (es : List Event) (ds : List Delivery) → Sound s → version s ≡ v → Packets C (history C s es) ds → Course C v (run C s es) ds
unfolding history run
course C L v s [] ds g e end = record { all = tt; finished = λ a. none_finishes a }
course C L v s (x ∷ es) ds g e (another o) = record { all = tt; finished = λ a. none_finishes a }
course C L v s (x ∷ es) ds g e (one {p = p} {ds = others} t n r) =
    let rest = course C L v (step C s x).state es others (sound_step C s x L g) (version_kept C s x n ∙ e) r in
    let kept = step_stored C s x p t.passes in
    let ver_is : p.ver ≡ v = taken_version C s x p t n (step C s x) kept t.taken ∙ e in
    record {
      all = ((t.passes, ver_is), rest.all);
      finished = λ a. elim (any_cons a) [
        | inl h ↦ past_run C L (step C s x).state es v (sound_step C s x L g)
            (subst (λ (w : ℕ). Past w (step C s x).state.contents.held) ver_is (finished_held C s x p (step C s x) kept h.0 h.1))
        | inr b ↦ rest.finished b
      ];
    }
course C L v s (x ∷ es) ds g e (skip t n r) = course C L v (step C s x).state es ds (sound_step C s x L g) (version_kept C s x n ∙ e) r

-- one of the packets, with its contents
one_passes : (C : Cipher) (v : ℕ) (c : Call) (ds : List Delivery) → Each (Of C v) ds → OneOf c ds → (p : Packet) × Passes C c p × (p.ver ≡ v)
one_passes C v c [] h a = elim a [ ]
one_passes C v c (d ∷ ds) h (here e) = (d.packet, subst (λ (x : Call). Passes C x d.packet) e h.0.0, h.0.1)
one_passes C v c (d ∷ ds) h (later a) = one_passes C v c ds h.1 a

module _ (C : Cipher) (L : Lawful C) (s : State) (es : List Event) (g : Sound s) (c : Call) (core : List ℕ) (e : Event) where
  abbrev last : State
  last = run C s es

  abbrev Down : Type 0
  Down = Refused (call C last e) × ((step C last e).state.contents ≡ last.contents)

  -- a data packet of a finished update
  again_data : InAFinishedUpdate C (history C s es) c → Arrives c core → Begins 0x30 core → Arrives (call C last e) core
      → data_key c.before.contents.held ≡ data_key last.contents.held → Down
  unfolding run
  again_data u a b a' k =
      let v = u.packet.ver in
      let sp = split C s es u.before u.first u.behind u.split in
      let t = run C s sp.front in
      let gt = sound_run C L s sp.front g in
      let t' = (step C t sp.event).state in
      let gt' = sound_step C t sp.event L gt in
      let opens : Opens C (call C t sp.event) u.packet = subst (λ (x : Call). Opens C x u.packet) (sym sp.call_is) u.opens in
      let kept = step_stored C t sp.event u.packet opens.passes in
      let v_is = opened_version C t sp.event u.packet (step C t sp.event) kept opens.first opens.powered in
      let there : last ≡ run C t' sp.back = ap (run C s) (sym sp.events_are) ∙ run_append C s sp.front (sp.event ∷ sp.back) in
      let co = course C L v t' sp.back u.others gt' v_is (subst (λ (l : List Call). Packets C l u.others) (sym sp.back_is) u.packets) in
      let past : Past v last.contents.held =
      subst (λ (x : State). Past v x.contents.held) (sym there)
      (elim (any_cons u.finished) [
        | inl h ↦ past_run C L t' sp.back v gt' (finished_held C t sp.event u.packet (step C t sp.event) kept (subst Taken (sym sp.call_is) h.0) h.1)
        | inr f ↦ co.finished f
      ]) in
      let first_time = one_passes C v c (record { at = u.first; packet = u.packet } ∷ u.others) ((u.opens.passes, refl), co.all) u.one_of in
      let p = first_time.0 in
      let h = first_time.1 in
      let same_core : h.core ≡ core = cc (h.arrives, a) in
      data_turned_down C last e core (judge_data C last core) a' b refl
      (λ q j.
      let is : p ≡ q = same_packet C c.before last core p q k (subst (λ (l : List ℕ). judge_data C c.before l ≡ Ok p) same_core h.unrefused) j in
      let above = passed_above v last q (sound_run C L s es g) past (data_passed C last core q j).fits in
      let ver_q : q.ver ≡ v = sym (ap (λ (x : Packet). x.ver) is) ∙ first_time.2 in
      omega arith)

  -- a key packet
  again_key : (x y : List Call) → history C s es ≡ x ++ c ∷ y → Taken c → Arrives c core → Begins 0x31 core → Arrives (call C last e) core
      → kek c.before.contents.held ≡ kek last.contents.held → Down
  unfolding run
  again_key x y sp_is tk a b a' k =
      let sp = split C s es x c y sp_is in
      let t = run C s sp.front in
      let gt = sound_run C L s sp.front g in
      let t' = (step C t sp.event).state in
      let there : last ≡ run C t' sp.back = ap (run C s) (sym sp.events_are) ∙ run_append C s sp.front (sp.event ∷ sp.back) in
      let a₁ : Arrives (call C t sp.event) core = subst (λ (z : Call). Arrives z core) (sym sp.call_is) a in
      let k₁ : kek t.contents.held ≡ kek last.contents.held = subst (λ (z : Call). kek z.before.contents.held ≡ kek last.contents.held) (sym sp.call_is) k in
      let first_time = key_taken C t sp.event core (judge_key C t core) refl (key_decides C (call C t sp.event) core a₁ b) (subst Taken (sym sp.call_is) tk) in
      let p = first_time.0 in
      let past : KeyPast (slot_place (slot p.kt)) p.kv last.contents.held =
      subst (λ (z : State). KeyPast (slot_place (slot p.kt)) p.kv z.contents.held) (sym there)
      (key_past_run C L t' sp.back (slot_place (slot p.kt)) p.kv (sound_step C t sp.event L gt) (version_held C t sp.event gt p t'.contents first_time.2)) in
      key_turned_down C last e core (judge_key C last core) a' b refl
      (λ q j.
      let is : p ≡ q = same_key_packet C t last core p q k₁ first_time.1 j in
      let above : (key_record last.contents.held (slot_place (slot p.kt))).version < p.kv =
      subst (λ (z : KeyPacket). (key_record last.contents.held (slot_place (slot z.kt))).version < z.kv) (sym is) (key_passed C last core q j).above in
      omega arith)

pub no_packet_is_taken_twice : NoPacketIsTakenTwice
no_packet_is_taken_twice C L g es x y z c d core h a b k u =
    let sp = split C (start g) es (x ++ c ∷ y) d z h in
    let gs = sound_start g in
    let b₁ : Arrives (call C (run C (start g) sp.front) sp.event) core = subst (λ (w : Call). Arrives w core) (sym sp.call_is) b in
    subst (λ (w : Call). Refused w × (w.after.contents ≡ w.before.contents)) sp.call_is
    (elim u.1 [
      | inl key ↦ again_key C L (start g) sp.front gs c core sp.event x y sp.front_is u.0 a key b₁
          (k.1 key ∙ ap (λ (w : Call). kek w.before.contents.held) (sym sp.call_is))
      | inr dat ↦ again_data C L (start g) sp.front gs c core sp.event (subst (λ (l : List Call). InAFinishedUpdate C l c) (sym sp.front_is) dat.1) a
          dat.0 b₁ (k.0 dat.0 ∙ ap (λ (w : Call). data_key w.before.contents.held) (sym sp.call_is))
    ])
