-- Judging the fields of a key packet, exit by exit.
use Rattle.std.proofs.Common.{◌≡◌, ℕ, ◌<◌, ◌≤◌, Bool, true, false, cond, ◌||◌, eqb, ltb, [], ◌∷◌, Ok, Err, Result, sym, refl, ap, ◌∙◌}
use Rattle.std.proofs.lemmas.Bool.{le-ltb, lt-ltb}
use Rattle.fault.specs.Checks.{check, then}
use Rattle.fault.specs.declared.Fault.{Fault}
use Rattle.fault.specs.declared.Fault.TheVariants.{BadKeyType, OldKey}
use Rattle.memory.specs.Held.{slot_of, slot_place}
use Rattle.memory.specs.Meaning.Step.{set_key}
use Rattle.memory.specs.declared.held.Held.{Held}
use Rattle.memory.specs.declared.held.KeySlot.{KeySlot}
use Rattle.memory.specs.declared.held.KeySlot.TheVariants.{Data, Kek}
use Rattle.rules.specs.Memory.{key_record}
use Rattle.rules.specs.Board.{KeyPacket, judge_key_fields, key_steps, slot}
use Rattle.board.specs.Judging.{judge_key_by}
use Rattle.board.proofs.Exits.{then_failed, then_passed, then_value}

-- the slot of a key type, as the rules check it
slot_checked : (t : ℕ) → slot_of t ≡ then (check (eqb t 0 || eqb t 2) (BadKeyType t)) (Ok (slot t))
unfolding slot
slot_checked t = by (eqb t 0) (eqb t 2)
  where
    by : (a b : Bool) → cond a (Ok Data) (cond b (Ok Kek) (Err (BadKeyType t))) ≡ then (check (a || b) (BadKeyType t)) (Ok (cond a Data Kek))
    by true b = refl
    by false true = refl
    by false false = refl

module _ (h : Held) (p : KeyPacket) (t : ℕ) (e : t ≡ p.kt) where
  abbrev typed : Result (Unit {0}) Fault
  typed = check (eqb p.kt 0 || eqb p.kt 2) (BadKeyType p.kt)

  abbrev judging : Result (Unit {0}) Fault → Bool → Result KeyPacket Fault
  judging v newer = then v (then (check newer (OldKey p.kv)) (Ok p))

  given : slot_of t ≡ then typed (Ok (slot p.kt))
  given = ap slot_of e ∙ slot_checked p.kt

  judged : (v : Result (Unit {0}) Fault) (newer : Bool) → typed ≡ v → ltb (key_record h (slot_place (slot p.kt))).version p.kv ≡ newer → judging v newer ≡ judge_key_by h p
  unfolding judge_key_fields
  judged v newer a b = ap (λ w. judging w newer) (sym a) ∙ ap (judging typed) (sym b)

  pub bad_type : (f : Fault) → Err f ≡ slot_of t → Err f ≡ judge_key_by h p
  bad_type f k = judged (Err f) _ (then_failed typed (slot p.kt) f (k ∙ given)) refl

  module _ (s : KeySlot) (k : Ok s ≡ slot_of t) where
    pub slot_is : s ≡ slot p.kt
    slot_is = then_value typed (slot p.kt) s (k ∙ given)

    module _ (i v w : ℕ) (at : i ≡ slot_place s) (version : v ≡ p.kv) where
      compared : ltb (key_record h (slot_place (slot p.kt))).version p.kv ≡ ltb (key_record h i).version v
      compared = ap (λ x. ltb (key_record h x).version p.kv) (sym (at ∙ ap slot_place slot_is)) ∙ ap (ltb (key_record h i).version) (sym version)

      pub old_key : w ≡ p.kv → v ≤ (key_record h i).version → Err (OldKey w) ≡ judge_key_by h p
      old_key j l = ap (λ x. Err (OldKey x)) j ∙ judged (Ok tt) false (then_passed typed (slot p.kt) s (k ∙ given)) (compared ∙ le-ltb _ _ l)

      pub key_passes : (key_record h i).version < v → Ok p ≡ judge_key_by h p
      key_passes l = judged (Ok tt) true (then_passed typed (slot p.kt) s (k ∙ given)) (compared ∙ lt-ltb _ _ l)

-- the one step of a key packet
pub step_is : (p : KeyPacket) (s : KeySlot) → s ≡ slot p.kt → set_key s (record { key = p.key; version = p.kv }) ∷ [] ≡ key_steps p
unfolding key_steps
step_is p s e = ap (λ i. set_key i (record { key = p.key; version = p.kv }) ∷ []) e
