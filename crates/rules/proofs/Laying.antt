-- What data laid over an image leaves at each address.
use Rattle.std.proofs.Common.{◌≡◌, ℕ, zero, suc, ◌+◌, ◌<◌, ◌≤◌, cond, ◌⊎◌, List, [], ◌∷◌, length, get_or, is_some, Some, None, Option, sym, refl, ap, ◌∙◌, inl, inr, arith}
use Rattle.std.proofs.lemmas.List.{get_or-set_same, get_or-set_other}
use Rattle.memory.specs.Areas.{place, first_outside, address_at, map_size}
use Rattle.memory.specs.Meaning.{put_at}
use Rattle.memory.proofs.Places.{address_back, place_within}
use Rattle.rules.proofs.Steps.{put_long}
use Rattle.rules.specs.Memory.{at_place, lay, Laid, DataIsLaid}

-- the addresses of a range are in the map
first_inside : (a n : ℕ) (o : Option ℕ) → cond (is_some o) (first_outside (a + 1) n) (Some a) ≡ None → ((p : ℕ) × (o ≡ Some p)) × (first_outside (a + 1) n ≡ None)
first_inside a n (Some p) e = ((p, refl), e)
first_inside a n None e = let z : ◌≡◌ {A = ℕ} 0 1 = cc in absurd (omega arith)

put_there : (a p v : ℕ) (i : List ℕ) → length i ≡ map_size → place a ≡ Some p → at_place (place a) (put_at (place a) v i) ≡ v
put_there a p v i l e =
    let w = place_within a p e in
    ap (λ (o : Option ℕ). at_place o (put_at o v i)) e ∙ get_or-set_same i p v 0 (omega arith)

put_other : (a b v : ℕ) (i : List ℕ) (o u : Option ℕ) → place a ≡ o → place b ≡ u → (a ≡ b → ⊥) → at_place u (put_at o v i) ≡ at_place u i
put_other a b v i None u e d n = refl
put_other a b v i (Some p) None e d n = refl
put_other a b v i (Some p) (Some q) e d n =
    get_or-set_other i p q v 0 (λ s. n (sym (address_back a p e) ∙ (ap address_at (sym s) ∙ address_back b q d)))

module _ (a v : ℕ) (bs i : List ℕ) (l : length i ≡ map_size) (p : ℕ) (e : place a ≡ Some p) (rest : Laid (a + 1) bs (put_at (place a) v i)) where
  laid_there : (k : ℕ) → k < suc (length bs) → at_place (place (a + k)) (lay (a + 1) bs (put_at (place a) v i)) ≡ get_or (v ∷ bs) k 0
  laid_there zero h =
      let z : a + 0 ≡ a = omega arith in
      ap (λ (x : ℕ). at_place (place x) (lay (a + 1) bs (put_at (place a) v i))) z ∙ (rest.elsewhere a (inl (omega arith)) ∙ put_there a p v i l e)
  laid_there (suc k) h =
      let z : a + suc k ≡ (a + 1) + k = omega arith in
      ap (λ (x : ℕ). at_place (place x) (lay (a + 1) bs (put_at (place a) v i))) z ∙ rest.there k (omega arith)

  laid_elsewhere : (b : ℕ) → (b < a) ⊎ (a + suc (length bs) ≤ b) → at_place (place b) (lay (a + 1) bs (put_at (place a) v i)) ≡ at_place (place b) i
  laid_elsewhere b (inl h) = rest.elsewhere b (inl (omega arith)) ∙ put_other a b v i (place a) (place b) refl refl (λ s. omega arith)
  laid_elsewhere b (inr h) = rest.elsewhere b (inr (omega arith)) ∙ put_other a b v i (place a) (place b) refl refl (λ s. omega arith)

pub data_is_laid : DataIsLaid
unfolding lay first_outside
data_is_laid a [] i l o = record { there = λ k h. absurd (omega arith); elsewhere = λ b h. refl }
data_is_laid a (v ∷ bs) i l o =
    let f = first_inside a (length bs) (place a) o in
    let rest = data_is_laid (a + 1) bs (put_at (place a) v i) (put_long (place a) v i ∙ l) f.1 in
    record { there = laid_there a v bs i l f.0.0 f.0.1 rest; elsewhere = laid_elsewhere a v bs i l f.0.0 f.0.1 rest }
