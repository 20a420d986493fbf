-- What a call decides, against what arrives at it; and what a packet that no check refuses satisfies.
use Rattle.std.proofs.Common.{◌≡◌, ℕ, ◌+◌, ◌-◌, ◌<◌, ◌≤◌, Bool, true, false, cond, eqb, ltb, ◌⊎◌, List, [], ◌∷◌, ◌++◌, length, Some, None, Ok, Err, Option, Result, sym, refl, ap, ◌∙◌, subst, inl, inr, arith, length-drop, take-append-drop}
use mathlib.Core.Bool.{false≢true}
use Rattle.std.proofs.lemmas.List.{length-take-le}
use Rattle.std.proofs.lemmas.Bool.{and_parts, or_cases, eqb-true, eqb-false, ltb-true, leb-true, not-true, cond-true, cond-false, eq-eqb, ne_eqb}
use Rattle.fault.specs.declared.Fault.{Fault}
use Rattle.fault.specs.Checks.{then}
use Rattle.memory.specs.declared.supply.Supply.{Supply}
use Rattle.rules.specs.declared.Event.TheVariants.{PowerUp}
use Rattle.memory.specs.declared.held.Held.{Held}
use Rattle.memory.specs.Held.{slot_place}
use Rattle.rules.specs.Memory.{data_key, kek, key_record}
use Rattle.memory.specs.Areas.{first_outside, refused_at}
use Rattle.rules.specs.declared.Command.{Command}
use Rattle.rules.specs.declared.Command.TheVariants.{MassErase as mass_erase, Version as tell_version, Reset as reset, Data as data_packet, Key as key_packet, Unknown as unknown}
use Rattle.rules.specs.Commands.{command}
use Rattle.cipher.specs.Cipher.{Cipher, Lawful, Usable}
use Rattle.rules.specs.Board.{State, Call, Deed, turns, clears, erases, stores, rekeys, powers, Heard, turned_away, part, garbled, framed, silence}
use Rattle.rules.specs.Board.{question, power_up, heard, Packet, KeyPacket, fields, key_fields, slot, may_open, may_follow, in_order, judge_fields, judge_key_fields}
use Rattle.rules.specs.Board.{on_opened, judge_data, judge_key, on_data, on_key, obey, respond, decide}
use Rattle.rules.specs.declared.Session.{Session}
use Rattle.rules.specs.declared.Session.TheVariants.{Closed as closed, Expects as expects}
use Rattle.rules.specs.Packets.{iv_of, body_of}
use Rattle.rules.specs.Words.{Arrives, Begins, Passes, Undisturbed, SealedAs, Sealed, Delivery}
use Rattle.rules.proofs.Frames.{data_begins, key_begins, begins_data}

-- a list of checks that passed
check_passed : {A : Type 0} (b : Bool) (f : Fault) (j : Result A Fault) (a : A) → then (cond b (Ok tt) (Err f)) j ≡ Ok a → (b ≡ true) × (j ≡ Ok a)
check_passed true f j a e = (refl, e)
check_passed false f j a e = let z : ◌≡◌ {A = ℕ} 0 1 = cc in absurd (omega arith)

opened_passed : {A : Type 0} (f : List ℕ → Result A Fault) (o : Option (List ℕ)) (a : A) → on_opened f o ≡ Ok a → (c : List ℕ) × (o ≡ Some c) × (f c ≡ Ok a)
unfolding on_opened
opened_passed f None a e = let z : ◌≡◌ {A = ℕ} 0 1 = cc in absurd (omega arith)
opened_passed f (Some c) a e = (c, refl, e)

inside_passed : (p q : Packet) (o : Option ℕ) → then (refused_at o) (Ok p) ≡ Ok q → (p ≡ q) × (o ≡ None)
inside_passed p q None e = (cc, refl)
inside_passed p q (Some a) e = let z : ◌≡◌ {A = ℕ} 0 1 = cc in absurd (omega arith)

-- what the fields of a data packet satisfy that no check refuses
pub record Fits (s : State) (p : Packet) : Type 0 where
  pub positive : p.pn ≡ 0 → ⊥
  pub not_above : p.pn ≤ p.np
  pub in_map : first_outside p.address (length p.bytes) ≡ None
  pub order : in_order s p ≡ true

pub fields_passed : (s : State) (p q : Packet) → judge_fields s p ≡ Ok q → (p ≡ q) × Fits s p
unfolding judge_fields
fields_passed s p q e =
    let a = check_passed _ _ _ q e in
    let b = check_passed _ _ _ q a.1 in
    let n = and_parts _ _ a.0 in
    let m = and_parts _ _ n.1 in
    let i = inside_passed p q (first_outside p.address (length p.bytes)) b.1 in
    (i.0, record { positive = eqb-false _ _ (not-true _ n.0); not_above = leb-true _ _ m.1; in_map = i.1; order = b.0 })

pub record OpenedPacket (C : Cipher) (s : State) (core : List ℕ) (p : Packet) : Type 0 where
  pub long : 44 ≤ length core
  pub well_formed : C.well_formed (iv_of core) ≡ true
  pub contents : List ℕ
  pub opens : C.opened (data_key s.contents.held) (iv_of core) (body_of core) ≡ Some contents
  pub holds : fields contents ≡ p
  pub fits : Fits s p

pub data_passed : (C : Cipher) (s : State) (core : List ℕ) (p : Packet) → judge_data C s core ≡ Ok p → OpenedPacket C s core p
unfolding judge_data
data_passed C s core p e =
    let a = check_passed _ _ _ p e in
    let b = check_passed _ _ _ p a.1 in
    let c = opened_passed _ _ p b.1 in
    let f = fields_passed s (fields c.0) p c.2 in
    record {
      long = leb-true _ _ (and_parts _ _ a.0).0;
      well_formed = b.0;
      contents = c.0;
      opens = c.1;
      holds = f.0;
      fits = subst (Fits s) f.0 f.1;
    }

pub first_fits : (s : State) (p : Packet) → Fits s p → p.pn ≡ 1
    → (s.contents.held.version < p.ver) ⊎ ((p.ver ≡ s.contents.held.version) × (s.contents.held.unfinished ≡ true))
unfolding may_open
first_fits s p f e =
    let o : may_open s.contents.held p ≡ true = sym (cond-true (eqb p.pn 1) _ _ (eq-eqb _ _ e)) ∙ f.order in
    elim (or_cases _ _ o) [
      | inl h ↦ inl (ltb-true _ _ h)
      | inr h ↦ let k = and_parts _ _ h in inr (eqb-true _ _ k.0, k.1)
    ]

follow_parts : (n : Session) (h : Held) (p : Packet) → may_follow n h p ≡ true → (n ≡ expects p.pn p.np) × (p.ver ≡ h.version)
unfolding may_follow
follow_parts closed h p e = absurd (false≢true e)
follow_parts (expects n m) h p e =
    let a = and_parts _ _ e in
    let b = and_parts _ _ a.1 in
    let x : p.pn ≡ n = eqb-true _ _ a.0 in
    let y : p.np ≡ m = eqb-true _ _ b.0 in
    (cc, eqb-true _ _ b.1)

pub next_fits : (s : State) (p : Packet) → Fits s p → (p.pn ≡ 1 → ⊥) → (s.session ≡ expects p.pn p.np) × (p.ver ≡ s.contents.held.version)
next_fits s p f n = follow_parts s.session s.contents.held p (sym (cond-false (eqb p.pn 1) _ _ (ne_eqb _ _ n)) ∙ f.order)

-- key packets
pub record OpenedKey (C : Cipher) (s : State) (core : List ℕ) (p : KeyPacket) : Type 0 where
  pub long : length core ≡ 51
  pub well_formed : C.well_formed (iv_of core) ≡ true
  pub contents : List ℕ
  pub opens : C.opened (kek s.contents.held) (iv_of core) (body_of core) ≡ Some contents
  pub holds : key_fields contents ≡ p
  pub typed : (p.kt ≡ 0) ⊎ (p.kt ≡ 2)
  pub above : (key_record s.contents.held (slot_place (slot p.kt))).version < p.kv

ok_same : (p q : KeyPacket) → ◌≡◌ {A = Result KeyPacket Fault} (Ok p) (Ok q) → p ≡ q
ok_same p q e = cc

pub key_fields_passed : (s : State) (p q : KeyPacket) → judge_key_fields s p ≡ Ok q → (p ≡ q) × ((key_record s.contents.held (slot_place (slot p.kt))).version < p.kv)
unfolding judge_key_fields
key_fields_passed s p q e =
    let a = check_passed _ _ _ q e in
    let b = check_passed (ltb (key_record s.contents.held (slot_place (slot p.kt))).version p.kv) _ (Ok p) q a.1 in
    (ok_same p q b.1, ltb-true _ _ b.0)

key_type_passed : (s : State) (p q : KeyPacket) → judge_key_fields s p ≡ Ok q → (p.kt ≡ 0) ⊎ (p.kt ≡ 2)
unfolding judge_key_fields
key_type_passed s p q e =
    elim (or_cases (eqb p.kt 0) (eqb p.kt 2) (check_passed _ _ _ q e).0) [
      | inl h ↦ inl (eqb-true _ _ h)
      | inr h ↦ inr (eqb-true _ _ h)
    ]

pub key_passed : (C : Cipher) (s : State) (core : List ℕ) (p : KeyPacket) → judge_key C s core ≡ Ok p → OpenedKey C s core p
unfolding judge_key
key_passed C s core p e =
    let a = check_passed _ _ _ p e in
    let b = check_passed _ _ _ p a.1 in
    let c = opened_passed _ _ p b.1 in
    let f = key_fields_passed s (key_fields c.0) p c.2 in
    record {
      long = eqb-true _ _ a.0;
      well_formed = b.0;
      contents = c.0;
      opens = c.1;
      holds = f.0;
      typed = subst (λ (q : KeyPacket). (q.kt ≡ 0) ⊎ (q.kt ≡ 2)) f.0 (key_type_passed s (key_fields c.0) p c.2);
      above = subst (λ (q : KeyPacket). (key_record s.contents.held (slot_place (slot q.kt))).version < q.kv) f.0 f.1;
    }

module _ (C : Cipher) (c : Call) where
  abbrev pub deed : Deed
  deed = decide C c.before c.event

  -- a data packet that arrives is judged
  pub data_decides : (core : List ℕ) → Arrives c core → Begins 0x30 core → deed ≡ on_data (judge_data C c.before core)
  unfolding decide respond obey
  data_decides core a b = ap (respond C c.before) a ∙ ap (obey C c.before core) (data_begins core b)

  pub key_decides : (core : List ℕ) → Arrives c core → Begins 0x31 core → deed ≡ on_key (judge_key C c.before core)
  unfolding decide respond obey
  key_decides core a b = ap (respond C c.before) a ∙ ap (obey C c.before core) (key_begins core b)

  pub erase_decides : Arrives c (0x15 ∷ []) → deed ≡ erases
  unfolding decide respond obey command
  erase_decides a = ap (respond C c.before) a

  pub reset_decides : Arrives c (0x25 ∷ []) → deed ≡ clears
  unfolding decide respond obey command
  reset_decides a = ap (respond C c.before) a

  pub power_decides : (u : Supply) → c.event ≡ PowerUp u → deed ≡ powers u
  unfolding decide respond heard
  power_decides u a = ap (λ e. decide C c.before e) a

  pub passes_stores : (p : Packet) → Passes C c p → deed ≡ stores p
  unfolding on_data
  passes_stores p h = data_decides h.core h.arrives h.begins ∙ ap on_data h.unrefused

  from_judged : (core : List ℕ) (p : Packet) (j : Result Packet Fault) → Arrives c core → Begins 0x30 core → judge_data C c.before core ≡ j → on_data j ≡ stores p → Passes C c p
  unfolding on_data
  from_judged core p (Err f) a b q e = let z : ◌≡◌ {A = ℕ} 0 1 = cc in absurd (omega arith)
  from_judged core p (Ok r) a b q e = let w : r ≡ p = cc in record { core = core; arrives = a; begins = b; unrefused = q ∙ ap Ok w }

  from_key : (p : Packet) (j : Result KeyPacket Fault) → on_key j ≡ stores p → ⊥
  unfolding on_key
  from_key p (Err f) e = let z : ◌≡◌ {A = ℕ} 0 1 = cc in omega arith
  from_key p (Ok r) e = let z : ◌≡◌ {A = ℕ} 0 1 = cc in omega arith

  from_command : (core : List ℕ) (p : Packet) (k : Command) → Arrives c core → command core ≡ k → obey C c.before core k ≡ stores p → Passes C c p
  unfolding obey
  from_command core p mass_erase a q e = let z : ◌≡◌ {A = ℕ} 0 1 = cc in absurd (omega arith)
  from_command core p tell_version a q e = let z : ◌≡◌ {A = ℕ} 0 1 = cc in absurd (omega arith)
  from_command core p reset a q e = let z : ◌≡◌ {A = ℕ} 0 1 = cc in absurd (omega arith)
  from_command core p data_packet a q e = from_judged core p (judge_data C c.before core) a (begins_data core q) refl e
  from_command core p key_packet a q e = absurd (from_key p _ e)
  from_command core p (unknown b) a q e = let z : ◌≡◌ {A = ℕ} 0 1 = cc in absurd (omega arith)

  from_heard : (p : Packet) (h : Heard) → heard c.before c.event ≡ h → respond C c.before h ≡ stores p → Passes C c p
  unfolding respond
  from_heard p (turned_away f) q e = let z : ◌≡◌ {A = ℕ} 0 1 = cc in absurd (omega arith)
  from_heard p (part r) q e = let z : ◌≡◌ {A = ℕ} 0 1 = cc in absurd (omega arith)
  from_heard p (garbled f) q e = let z : ◌≡◌ {A = ℕ} 0 1 = cc in absurd (omega arith)
  from_heard p (framed core) q e = from_command core p (command core) q refl e
  from_heard p silence q e = let z : ◌≡◌ {A = ℕ} 0 1 = cc in absurd (omega arith)
  from_heard p question q e = let z : ◌≡◌ {A = ℕ} 0 1 = cc in absurd (omega arith)
  from_heard p (power_up u) q e = let z : ◌≡◌ {A = ℕ} 0 1 = cc in absurd (omega arith)

  pub stores_passes : (p : Packet) → deed ≡ stores p → Passes C c p
  unfolding decide
  stores_passes p e = from_heard p (heard c.before c.event) refl e

  judged_rekeys : (core : List ℕ) (p : KeyPacket) (j : Result KeyPacket Fault) → judge_key C c.before core ≡ j → on_key j ≡ rekeys p → judge_key C c.before core ≡ Ok p
  unfolding on_key
  judged_rekeys core p (Err f) q e = let z : ◌≡◌ {A = ℕ} 0 1 = cc in absurd (omega arith)
  judged_rekeys core p (Ok r) q e = let w : r ≡ p = cc in q ∙ ap Ok w

  judged_data : (p : KeyPacket) (j : Result Packet Fault) → on_data j ≡ rekeys p → ⊥
  unfolding on_data
  judged_data p (Err f) e = let z : ◌≡◌ {A = ℕ} 0 1 = cc in omega arith
  judged_data p (Ok r) e = let z : ◌≡◌ {A = ℕ} 0 1 = cc in omega arith

  obeyed_rekeys : (core : List ℕ) (p : KeyPacket) (k : Command) → obey C c.before core k ≡ rekeys p → judge_key C c.before core ≡ Ok p
  unfolding obey
  obeyed_rekeys core p mass_erase e = let z : ◌≡◌ {A = ℕ} 0 1 = cc in absurd (omega arith)
  obeyed_rekeys core p tell_version e = let z : ◌≡◌ {A = ℕ} 0 1 = cc in absurd (omega arith)
  obeyed_rekeys core p reset e = let z : ◌≡◌ {A = ℕ} 0 1 = cc in absurd (omega arith)
  obeyed_rekeys core p data_packet e = absurd (judged_data p _ e)
  obeyed_rekeys core p key_packet e = judged_rekeys core p (judge_key C c.before core) refl e
  obeyed_rekeys core p (unknown b) e = let z : ◌≡◌ {A = ℕ} 0 1 = cc in absurd (omega arith)

  heard_rekeys : (p : KeyPacket) (h : Heard) → respond C c.before h ≡ rekeys p → (core : List ℕ) × (judge_key C c.before core ≡ Ok p)
  unfolding respond
  heard_rekeys p (turned_away f) e = let z : ◌≡◌ {A = ℕ} 0 1 = cc in absurd (omega arith)
  heard_rekeys p (part r) e = let z : ◌≡◌ {A = ℕ} 0 1 = cc in absurd (omega arith)
  heard_rekeys p (garbled f) e = let z : ◌≡◌ {A = ℕ} 0 1 = cc in absurd (omega arith)
  heard_rekeys p (framed core) e = (core, obeyed_rekeys core p (command core) e)
  heard_rekeys p silence e = let z : ◌≡◌ {A = ℕ} 0 1 = cc in absurd (omega arith)
  heard_rekeys p question e = let z : ◌≡◌ {A = ℕ} 0 1 = cc in absurd (omega arith)
  heard_rekeys p (power_up u) e = let z : ◌≡◌ {A = ℕ} 0 1 = cc in absurd (omega arith)

  pub rekeys_passes : (p : KeyPacket) → deed ≡ rekeys p → (core : List ℕ) × (judge_key C c.before core ≡ Ok p)
  unfolding decide
  rekeys_passes p e = heard_rekeys p (heard c.before c.event) e

  pub passes_fits : (p : Packet) → Passes C c p → Fits c.before p
  passes_fits p h = (data_passed C c.before h.core p h.unrefused).fits

  -- a deed that leaves the working state to go on
  abbrev pub Goes_on : Deed → Type 0
  Goes_on (turns r a) = Unit {0}
  Goes_on clears = ⊥
  Goes_on erases = ⊥
  Goes_on (stores p) = Unit {0}
  Goes_on (rekeys p) = Unit {0}
  Goes_on (powers u) = ⊥

  pub undisturbed : Goes_on deed → Undisturbed c
  undisturbed g = record {
    no_erase = λ a. subst Goes_on (erase_decides a) g;
    no_reset = λ a. subst Goes_on (reset_decides a) g;
    no_power_up = λ u a. subst Goes_on (power_decides u a) g;
  }

-- the IV of a packet that is long enough
pub iv_long : (core : List ℕ) → 17 ≤ length core → length (iv_of core) ≡ 16
iv_long [] h = absurd (omega arith)
iv_long (c ∷ rest) h = length-take-le 16 rest (omega arith)

-- a key packet that passed brings 16 bytes
pub key_bytes : (C : Cipher) → Lawful C → (s : State) (core : List ℕ) (p : KeyPacket) → length (kek s.contents.held) ≡ 16 → OpenedKey C s core p → length p.key ≡ 16
unfolding key_fields
key_bytes C L s core p k o =
    let usable : Usable C (kek s.contents.held) (iv_of core) = (k, iv_long core (omega (arith, o.long)), o.well_formed) in
    let made = L.sound (kek s.contents.held) (iv_of core) (body_of core) o.contents usable o.opens in
    let n : length (body_of core) ≡ length o.contents + 16 = sym (ap length made.0) ∙ L.longer (kek s.contents.held) (iv_of core) o.contents usable made.1 in
    let m : length (body_of core) ≡ length core - 17 = length-drop 17 core in
    sym (ap (λ (q : KeyPacket). length q.key) o.holds) ∙ (length-drop 2 o.contents ∙ omega (arith, o.long))

whole_core : (core rest : List ℕ) → core ≡ 0x30 ∷ rest → core ≡ 0x30 ∷ (iv_of core ++ body_of core)
whole_core core rest e = subst (λ (l : List ℕ). l ≡ 0x30 ∷ (iv_of l ++ body_of l)) (sym e) (ap (λ (l : List ℕ). 0x30 ∷ l) (sym (take-append-drop 16 rest)))

-- a data packet that passes is sealed under the held data key
pub sealed_as : (C : Cipher) → Lawful C → (c : Call) (p : Packet) → length (data_key c.before.contents.held) ≡ 16 → (h : Passes C c p)
    → SealedAs C (data_key c.before.contents.held) h.core p
sealed_as C L c p k h =
    let key : List ℕ = data_key c.before.contents.held in
    let core : List ℕ = h.core in
    let o = data_passed C c.before core p h.unrefused in
    let iv_bytes : length (iv_of core) ≡ 16 = iv_long core (omega (arith, o.long)) in
    let usable : Usable C key (iv_of core) = (k, iv_bytes, o.well_formed) in
    let made = L.sound key (iv_of core) (body_of core) o.contents usable o.opens in
    let n : length (body_of core) ≡ length o.contents + 16 = sym (ap length made.0) ∙ L.longer key (iv_of core) o.contents usable made.1 in
    let m : length (body_of core) ≡ length core - 17 = length-drop 17 core in
    record {
      iv = iv_of core;
      contents = o.contents;
      iv_bytes = iv_bytes;
      well_formed = o.well_formed;
      at_least = omega (arith, o.long);
      at_most = made.1;
      core_is = whole_core core h.begins.0 h.begins.1 ∙ ap (λ (l : List ℕ). 0x30 ∷ (iv_of core ++ l)) (sym made.0);
      holds = o.holds;
    }

pub sealed : (C : Cipher) → Lawful C → (d : Delivery) → length (data_key d.at.before.contents.held) ≡ 16 → Passes C d.at d.packet → Sealed C d
sealed C L d k h = record { core = h.core; arrives = h.arrives; sealed_as = sealed_as C L d.at d.packet k h }
