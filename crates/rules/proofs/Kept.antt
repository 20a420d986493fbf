-- What every call keeps: an open session has its mark, versions never fall, nor do the versions of keys.
use Rattle.std.proofs.Common.{◌≡◌, ℕ, zero, suc, ◌<◌, ◌≤◌, Bool, true, false, cond, eqb, ◌⊎◌, List, [], ◌∷◌, length, get_or, set, sym, refl, ap, ◌∙◌, subst, inl, inr, true≢false, arith}
use Rattle.std.proofs.lemmas.List.{get_or-set_same, get_or-set_other}
use Rattle.std.proofs.lemmas.Bool.{cases_eq, eqb-false}
use Rattle.memory.specs.declared.supply.Supply.{Supply}
use Rattle.rules.specs.declared.Event.{Event}
use Rattle.memory.specs.declared.held.Held.{Held}
use Rattle.memory.specs.declared.held.KeyRecord.{KeyRecord}
use Rattle.memory.specs.declared.held.KeySlot.{KeySlot}
use Rattle.memory.specs.declared.held.KeySlot.TheVariants.{Data, Kek}
use Rattle.memory.specs.Held.{slot_place}
use Rattle.memory.specs.Meaning.{Contents, Step}
use Rattle.memory.specs.Steps.{erase_steps}
use Rattle.rules.specs.Memory.{key_record, no_key}
use Rattle.memory.specs.Areas.{map_size}
use Rattle.cipher.specs.Cipher.{Cipher, Lawful}
use Rattle.rules.specs.Board.{run, State, Outcome, Deed, turns, clears, erases, stores, rekeys, powers, Packet, KeyPacket}
use Rattle.rules.specs.Board.{call, step, decide, enact, carry_out}
use Rattle.rules.specs.Board.{ended, data_steps, session_after, key_steps, slot, fresh}
use Rattle.rules.specs.declared.Session.{Session}
use Rattle.rules.specs.declared.Session.TheVariants.{Closed as closed, Expects as expects}
use Rattle.rules.specs.Words.{Each}
use Rattle.rules.specs.Promises.{Given, start}
use Rattle.rules.proofs.Steps.{written, image_long, table_long}
use Rattle.rules.proofs.Deeds.{Fits, first_fits, next_fits, stores_passes, passes_fits, rekeys_passes, key_passed, key_bytes}
use Rattle.rules.proofs.Runs.{Stored, unpowered, cut, whole, stored, Rekeyed, key_cut, key_set, rekeyed, erased}

abbrev pub Sixteen : KeyRecord → Type 0
Sixteen r = length r.key ≡ 16

-- an open session has its mark, and what is held is as long as it was
pub record Sound (s : State) : Type 0 where
  pub marked : (n m : ℕ) → s.session ≡ expects n m → s.contents.held.unfinished ≡ true
  pub long : length s.contents.image ≡ map_size
  pub two : length s.contents.held.keys ≡ 2
  pub sixteen : Each Sixteen s.contents.held.keys

pub sound_start : (g : Given) → Sound (start g)
unfolding fresh
sound_start g = record { marked = λ n m e. let z : ◌≡◌ {A = ℕ} 0 1 = cc in absurd (omega arith); long = g.map_long; two = refl; sixteen = (g.data_key_long, (g.kek_long, tt)) }

ended_contents : (n : Session) (c : Contents) (u : Supply) (d : Bool) → (ended n c u d).state.contents ≡ c
unfolding ended
ended_contents n c u true = refl
ended_contents n c u false = refl

carried_long : (xs : List Step) (n : Session) (s : State) (m : ℕ) → length s.contents.image ≡ m → length (carry_out xs n s).state.contents.image ≡ m
unfolding carry_out
carried_long xs n s m e = ap (λ (c : Contents). length c.image) (ended_contents n _ _ _) ∙ image_long m xs s.supply s.contents e

carried_table : (xs : List Step) (n : Session) (s : State) (m : ℕ) → length s.contents.held.keys ≡ m → length (carry_out xs n s).state.contents.held.keys ≡ m
unfolding carry_out
carried_table xs n s m e = ap (λ (c : Contents). length c.held.keys) (ended_contents n _ _ _) ∙ table_long m xs s.supply s.contents e

not_open : {A : Type 0} (t : Session) (n m : ℕ) → t ≡ closed → t ≡ expects n m → A
not_open t n m e q = let z : ◌≡◌ {A = ℕ} 0 1 = cc in absurd (omega arith)

after_open : (b : Bool) (x y n m : ℕ) → cond b closed (expects x y) ≡ expects n m → b ≡ false
after_open true x y n m e = not_open _ n m refl e
after_open false x y n m e = refl

marks : (a b : Bool) (v : ℕ) (h : Held) → b ≡ false → (a ≡ false → h.unfinished ≡ true) → (written a b v h).unfinished ≡ true
marks a true v h e k = absurd (true≢false e)
marks true false v h e k = refl
marks false false v h e k = k refl

written_keys : (a b : Bool) (v : ℕ) (h : Held) → (written a b v h).keys ≡ h.keys
written_keys a true v h = refl
written_keys true false v h = refl
written_keys false false v h = refl

each_set : (ks : List KeyRecord) (i : ℕ) (r : KeyRecord) → Sixteen r → Each Sixteen ks → Each Sixteen (set ks i r)
each_set [] i r k h = tt
each_set (x ∷ xs) zero r k h = (k, h.1)
each_set (x ∷ xs) (suc i) r k h = (h.0, each_set xs i r k h.1)

pub each_at : (ks : List KeyRecord) (i : ℕ) → Each Sixteen ks → i < length ks → Sixteen (get_or ks i no_key)
each_at [] i h l = absurd (omega arith)
each_at (x ∷ xs) zero h l = h.0
each_at (x ∷ xs) (suc i) h l = each_at xs i h.1 (omega arith)

-- the deed is what the call decided
module _ (C : Cipher) (s : State) (e : Event) where
  pub fits : (p : Packet) → decide C s e ≡ stores p → Fits s p
  fits p q = passes_fits C (call C s e) p (stores_passes C (call C s e) p q)

  stored_marked : (p : Packet) (o : Outcome) → Fits s p → Sound s → Stored s p o → (n m : ℕ) → o.state.session ≡ expects n m → o.state.contents.held.unfinished ≡ true
  unfolding session_after
  stored_marked p o f g (unpowered i z r x c) n m w = not_open _ n m x w
  stored_marked p o f g (cut i r x h) n m w = not_open _ n m x w
  stored_marked p o f g (whole i r x c) n m w =
      ap (λ (d : Contents). d.held.unfinished) c
      ∙ marks (eqb p.pn 1) (eqb p.pn p.np) p.ver s.contents.held (after_open (eqb p.pn p.np) _ _ n m (sym x ∙ w))
      (λ k. g.marked p.pn p.np (next_fits s p f (eqb-false _ _ k)).0)

  rekeyed_marked : (p : KeyPacket) (o : Outcome) → Sound s → Rekeyed s p o → (n m : ℕ) → o.state.session ≡ expects n m → o.state.contents.held.unfinished ≡ true
  rekeyed_marked p o g (key_cut r x c) n m w = not_open _ n m x w
  rekeyed_marked p o g (key_set r x c) n m w = ap (λ (d : Contents). d.held.unfinished) c ∙ g.marked n m (sym x ∙ w)

  sixteen_stored : (p : Packet) (o : Outcome) → Sound s → Stored s p o → Each Sixteen o.state.contents.held.keys
  sixteen_stored p o g (unpowered i z r x c) = subst (λ (d : Contents). Each Sixteen d.held.keys) (sym c) g.sixteen
  sixteen_stored p o g (cut u r x c) = subst (Each Sixteen) (sym (ap (λ (d : Held). d.keys) c ∙ written_keys (eqb p.pn 1) false p.ver s.contents.held)) g.sixteen
  sixteen_stored p o g (whole u r x c) =
      subst (Each Sixteen) (sym (ap (λ (d : Contents). d.held.keys) c ∙ written_keys (eqb p.pn 1) (eqb p.pn p.np) p.ver s.contents.held)) g.sixteen

  sixteen_rekeyed : (p : KeyPacket) (o : Outcome) → Sound s → length p.key ≡ 16 → Rekeyed s p o → Each Sixteen o.state.contents.held.keys
  sixteen_rekeyed p o g k (key_cut r x c) = subst (λ (d : Contents). Each Sixteen d.held.keys) (sym c) g.sixteen
  sixteen_rekeyed p o g k (key_set r x c) =
      subst (λ (d : Contents). Each Sixteen d.held.keys) (sym c)
      (each_set s.contents.held.keys (slot_place (slot p.kt)) (record { key = p.key; version = p.kv }) k g.sixteen)

  sound_deed : Lawful C → (d : Deed) → decide C s e ≡ d → Sound s → Sound (enact d s).state
  unfolding enact
  sound_deed L (turns r a) q g = record { marked = g.marked; long = g.long; two = g.two; sixteen = g.sixteen }
  sound_deed L clears q g = record { marked = λ n m. not_open _ n m refl; long = g.long; two = g.two; sixteen = g.sixteen }
  sound_deed L erases q g =
      record {
        marked = λ n m. not_open _ n m (erased s).over;
        long = carried_long erase_steps closed s _ g.long;
        two = carried_table erase_steps closed s _ g.two;
        sixteen = subst (λ (h : Held). Each Sixteen h.keys) (sym (erased s).held_same) g.sixteen;
      }
  sound_deed L (stores p) q g =
      record {
        marked = stored_marked p _ (fits p q) g (stored s p);
        long = carried_long (data_steps p) (session_after p) s _ g.long;
        two = carried_table (data_steps p) (session_after p) s _ g.two;
        sixteen = sixteen_stored p _ g (stored s p);
      }
  sound_deed L (rekeys p) q g =
      record {
        marked = rekeyed_marked p _ g (rekeyed s p);
        long = carried_long (key_steps p) s.session s _ g.long;
        two = carried_table (key_steps p) s.session s _ g.two;
        sixteen = let k = rekeys_passes C (call C s e) p q in sixteen_rekeyed p _ g
            (key_bytes C L s k.0 p (each_at s.contents.held.keys 1 g.sixteen (omega (arith, g.two))) (key_passed C s k.0 p k.1)) (rekeyed s p);
      }
  sound_deed L (powers u) q g = record { marked = λ n m. not_open _ n m refl; long = g.long; two = g.two; sixteen = g.sixteen }

  pub sound_step : Lawful C → Sound s → Sound (step C s e).state
  unfolding step
  sound_step L g = sound_deed L (decide C s e) refl g

-- Of version v no update can open any more: it is held with no mark, or passed.
abbrev pub Past : ℕ → Held → Type 0
Past v h = ((h.version ≡ v) × (h.unfinished ≡ false)) ⊎ (v < h.version)

-- so a packet that passes is of a later version
pub passed_above : (v : ℕ) (s : State) (p : Packet) → Sound s → Past v s.contents.held → Fits s p → v < p.ver
passed_above v s p g h f =
    elim (cases_eq p.pn 1) [
      | inl one ↦ elim (first_fits s p f one) [
        | inl up ↦ elim h [ inl k ↦ omega arith | inr k ↦ omega arith ]
        | inr same ↦ elim h [ inl k ↦ absurd (true≢false (sym same.1 ∙ k.1)) | inr k ↦ omega arith ]
      ]
      | inr other ↦
          let n = next_fits s p f other in
          elim h [ inl k ↦ absurd (true≢false (sym (g.marked p.pn p.np n.0) ∙ k.1)) | inr k ↦ omega (arith, n.1) ]
    ]

past_written : (v : ℕ) (a b : Bool) (w : ℕ) (h : Held) → v < w → Past v h → Past v (written a b w h)
past_written v a true w h l k = inr l
past_written v true false w h l k = inr l
past_written v false false w h l k = k

module _ (C : Cipher) (s : State) (e : Event) (v : ℕ) (g : Sound s) (h : Past v s.contents.held) where
  past_stored : (p : Packet) (o : Outcome) → Fits s p → Stored s p o → Past v o.state.contents.held
  past_stored p o f (unpowered i z r x c) = subst (λ (d : Contents). Past v d.held) (sym c) h
  past_stored p o f (cut i r x c) = subst (Past v) (sym c) (past_written v (eqb p.pn 1) false p.ver s.contents.held (passed_above v s p g h f) h)
  past_stored p o f (whole i r x c) =
      subst (λ (d : Contents). Past v d.held) (sym c) (past_written v (eqb p.pn 1) (eqb p.pn p.np) p.ver s.contents.held (passed_above v s p g h f) h)

  past_rekeyed : (p : KeyPacket) (o : Outcome) → Rekeyed s p o → Past v o.state.contents.held
  past_rekeyed p o (key_cut r x c) = subst (λ (d : Contents). Past v d.held) (sym c) h
  past_rekeyed p o (key_set r x c) = subst (λ (d : Contents). Past v d.held) (sym c) h

  past_deed : (d : Deed) → decide C s e ≡ d → Past v (enact d s).state.contents.held
  unfolding enact
  past_deed (turns r a) q = h
  past_deed clears q = h
  past_deed erases q = subst (Past v) (sym (erased s).held_same) h
  past_deed (stores p) q = past_stored p _ (fits C s e p q) (stored s p)
  past_deed (rekeys p) q = past_rekeyed p _ (rekeyed s p)
  past_deed (powers u) q = h

  pub past_step : Past v (step C s e).state.contents.held
  unfolding step
  past_step = past_deed (decide C s e) refl

pub sound_run : (C : Cipher) → Lawful C → (s : State) (es : List Event) → Sound s → Sound (run C s es)
unfolding run
sound_run C L s [] g = g
sound_run C L s (e ∷ es) g = sound_run C L (step C s e).state es (sound_step C s e L g)

pub past_run : (C : Cipher) → Lawful C → (s : State) (es : List Event) (v : ℕ) → Sound s → Past v s.contents.held → Past v (run C s es).contents.held
unfolding run
past_run C L s [] v g h = h
past_run C L s (e ∷ es) v g h = past_run C L (step C s e).state es v (sound_step C s e L g) (past_step C s e v g h)

-- The version of a key never falls.
abbrev pub KeyPast : ℕ → ℕ → Held → Type 0
KeyPast i v h = v ≤ (key_record h i).version

pub slot_small : (kt : ℕ) → slot_place (slot kt) < 2
slot_small kt = small (slot kt)
  where
    small : (k : KeySlot) → slot_place k < 2
    small Data = omega arith
    small Kek = omega arith

module _ (C : Cipher) (s : State) (e : Event) (i v : ℕ) (g : Sound s) (h : KeyPast i v s.contents.held) where
  abbrev At : List KeyRecord → Type 0
  At ks = v ≤ (get_or ks i no_key).version

  key_past_stored : (p : Packet) (o : Outcome) → Stored s p o → KeyPast i v o.state.contents.held
  key_past_stored p o (unpowered j z r x c) = subst (λ (d : Contents). KeyPast i v d.held) (sym c) h
  key_past_stored p o (cut j r x c) = subst At (sym (ap (λ (d : Held). d.keys) c ∙ written_keys (eqb p.pn 1) false p.ver s.contents.held)) h
  key_past_stored p o (whole j r x c) = subst At (sym (ap (λ (d : Contents). d.held.keys) c ∙ written_keys (eqb p.pn 1) (eqb p.pn p.np) p.ver s.contents.held)) h

  key_past_rekeyed : (p : KeyPacket) (o : Outcome) → (key_record s.contents.held (slot_place (slot p.kt))).version < p.kv → Rekeyed s p o
      → KeyPast i v o.state.contents.held
  key_past_rekeyed p o up (key_cut r x c) = subst (λ (d : Contents). KeyPast i v d.held) (sym c) h
  key_past_rekeyed p o up (key_set r x c) =
      subst (λ (d : Contents). KeyPast i v d.held) (sym c)
      (elim (cases_eq i (slot_place (slot p.kt))) [
        | inl same ↦
            let small = slot_small p.kt in
            let set_there = get_or-set_same s.contents.held.keys (slot_place (slot p.kt)) (record { key = p.key; version = p.kv }) no_key (omega (arith, g.two)) in
            let was : v ≤ (key_record s.contents.held (slot_place (slot p.kt))).version = subst (λ (j : ℕ). v ≤ (key_record s.contents.held j).version) same h in
            let up' : v ≤ p.kv = omega arith in
            subst (λ (j : ℕ). v ≤ (get_or (set s.contents.held.keys (slot_place (slot p.kt)) (record { key = p.key; version = p.kv })) j no_key).version) (sym same)
            (subst (λ (r : KeyRecord). v ≤ r.version) (sym set_there) up')
        | inr apart ↦ subst (λ (r : KeyRecord). v ≤ r.version) (sym (get_or-set_other s.contents.held.keys (slot_place (slot p.kt)) i _ no_key apart)) h
      ])

  key_past_deed : (d : Deed) → decide C s e ≡ d → KeyPast i v (enact d s).state.contents.held
  unfolding enact
  key_past_deed (turns r a) q = h
  key_past_deed clears q = h
  key_past_deed erases q = subst (KeyPast i v) (sym (erased s).held_same) h
  key_past_deed (stores p) q = key_past_stored p _ (stored s p)
  key_past_deed (rekeys p) q = let k = rekeys_passes C (call C s e) p q in key_past_rekeyed p _ (key_passed C s k.0 p k.1).above (rekeyed s p)
  key_past_deed (powers u) q = h

  pub key_past_step : KeyPast i v (step C s e).state.contents.held
  unfolding step
  key_past_step = key_past_deed (decide C s e) refl

pub key_past_run : (C : Cipher) → Lawful C → (s : State) (es : List Event) (i v : ℕ) → Sound s → KeyPast i v s.contents.held → KeyPast i v (run C s es).contents.held
unfolding run
key_past_run C L s [] i v g h = h
key_past_run C L s (e ∷ es) i v g h = key_past_run C L (step C s e).state es i v (sound_step C s e L g) (key_past_step C s e i v g h)
