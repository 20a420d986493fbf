-- The bytes that fill the map: one more of them, and that they keep to it.
use Rattle.std.proofs.Common.{◌≡◌, ℕ, zero, suc, ◌+◌, ◌-◌, ◌%◌, ◌<◌, ◌≤◌, true, ◌&&◌, leb, [], ◌∷◌, is_some, sym, refl, ap, ◌∙◌, arith}
use Rattle.std.proofs.lemmas.Bool.{and_from, le-leb}
use Rattle.memory.specs.Areas.{all_areas, place}
use Rattle.memory.specs.Meaning.{all_in_map}
use Rattle.memory.specs.Meaning.Step.{store}
use Rattle.memory.proofs.InMap.{all_append, no_area}
use Rattle.memory.proofs.Places.{among, in_map}
use Rattle.sweep.specs.Fillings.{fillers, map_fillers}

-- what is left to fill, one turn on
pub fillers_more : (a l v : ℕ) → v ≡ a % 251 → a < l + 1 → fillers a ((l + 1) - a) ≡ store a v ∷ fillers (a + 1) ((l + 1) - (a + 1))
unfolding fillers
fillers_more a l v e h =
    let z : (l + 1) - a ≡ suc ((l + 1) - (a + 1)) = omega arith in
    ap (fillers a) z ∙ ap (λ w. store a w ∷ fillers (a + 1) ((l + 1) - (a + 1))) (sym e)

pub fillers_end : (a l : ℕ) → l + 1 ≤ a → fillers a ((l + 1) - a) ≡ []
unfolding fillers
fillers_end a l h = let z : (l + 1) - a ≡ 0 = omega arith in ap (fillers a) z

fillers_in : (a n : ℕ) → ((b : ℕ) → a ≤ b → b < a + n → is_some (place b) ≡ true) → all_in_map (fillers a n) ≡ true
unfolding fillers
fillers_in a zero h = refl
fillers_in a (suc n) h = and_from (is_some (place a)) _ (h a (omega arith) (omega arith)) (fillers_in (a + 1) n (λ b l u. h b (omega arith) (omega arith)))

held : (f l a : ℕ) → f ≤ a → a ≤ l → (leb f a && leb a l) ≡ true
held f l a h k = and_from _ _ (le-leb f a h) (le-leb a l k)

-- filling the map keeps to it
pub fill_in : all_in_map map_fillers ≡ true
unfolding map_fillers all_areas
fill_in =
    let info = fillers_in 0x1800 512 (λ b l u. in_map b ∙ among all_areas 0 no_area b (omega arith) (held 0x1800 0x19FF b (omega arith) (omega arith))) in
    let lower = fillers_in 0x4400 44032 (λ b l u. in_map b ∙ among all_areas 1 no_area b (omega arith) (held 0x4400 0xEFFF b (omega arith) (omega arith))) in
    let table = fillers_in 0xFF80 128 (λ b l u. in_map b ∙ among all_areas 2 no_area b (omega arith) (held 0xFF80 0xFFFF b (omega arith) (omega arith))) in
    let upper = fillers_in 0x10000 16384 (λ b l u. in_map b ∙ among all_areas 3 no_area b (omega arith) (held 0x10000 0x13FFF b (omega arith) (omega arith))) in
    all_append (fillers 0x1800 512) _ info
    (all_append (fillers 0x4400 44032) _ lower
    (all_append (fillers 0xFF80 128) _ table
    (all_append (fillers 0x10000 16384) [] upper refl)))
