-- What is left to do in a loop of steps, one turn on.
use mathlib.Core.Bool.{beq}
use Rattle.std.proofs.Common.{◌≡◌, ℕ, suc, ◌+◌, ◌-◌, ◌<◌, ◌≤◌, Bool, true, false, ◌⊎◌, List, [], ◌∷◌, length, Some, None, Ok, Option, refl, ap, inl, inr, arith}
use Rattle.std.proofs.lemmas.Bool.{and_parts, cond-false, cond-true, true≢false}
use Rattle.memory.specs.Areas.{holds, refused_at}
use Rattle.memory.specs.Meaning.{all_in_map}
use Rattle.memory.specs.Meaning.Step.{store}
use Rattle.memory.specs.Steps.{blanks, round, store_up}
use Rattle.memory.specs.declared.areas.Area.{Area}
use Rattle.memory.proofs.Places.{map_below}

-- what is left to store, one turn on: the address k and the byte v come, and the addresses from b on and the bytes ws stay
pub store_up_more : (a k b v : ℕ) (vs ws : List ℕ) → (k ≡ a) × (b ≡ k + 1) → vs ≡ v ∷ ws → store_up a vs ≡ store k v ∷ store_up b ws
store_up_more a k b v vs ws e h = rw (h, e.1, e.0) refl

-- nothing is left where the bytes end; the addresses of the map end later
pub store_up_end : (a : ℕ) (vs : List ℕ) → (0xFFFFFFFF - a ≡ 0) ⊎ (length vs ≡ 0) → all_in_map (store_up a vs) ≡ true → store_up a vs ≡ []
store_up_end a [] h t = refl
store_up_end a (v ∷ vs) (inl e) t = absurd (omega (arith, map_below a (and_parts _ _ t).0))
store_up_end a (v ∷ vs) (inr e) t = absurd (omega arith)

-- what is left to blank, one turn on
module _ (a l : ℕ) where
  pub blanks_more : a < l + 1 → blanks a ((l + 1) - a) ≡ store a 0xFF ∷ blanks (a + 1) ((l + 1) - (a + 1))
  unfolding blanks
  blanks_more h = let z : (l + 1) - a ≡ suc ((l + 1) - (a + 1)) = omega arith in ap (blanks a) z

  pub blanks_end : l + 1 ≤ a → blanks a ((l + 1) - a) ≡ []
  unfolding blanks
  blanks_end h = let z : (l + 1) - a ≡ 0 = omega arith in ap (blanks a) z

-- a range that is not refused
pub unrefused : (o : Option ℕ) → refused_at o ≡ Ok tt → o ≡ None
unrefused None e = refl
unrefused (Some a) e = let z : ◌≡◌ {A = ℕ} 0 1 = cc in absurd (omega arith)

-- of an area that is not of the round nothing is blanked
pub round_passed : (v h : Bool) (x : Area) → holds x 0xFFFE ≡ h → beq h v ≡ false → round v x ≡ []
round_passed true true x e n = absurd (true≢false n)
round_passed true false x e n = cond-false _ _ _ e
round_passed false true x e n = cond-true _ _ _ e
round_passed false false x e n = absurd (true≢false n)
