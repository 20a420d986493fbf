-- Which lists of steps keep to the map, and the steps of a mass erase written out.
use Rattle.std.proofs.Common.{◌≡◌, ℕ, zero, suc, ◌+◌, ◌<◌, ◌≤◌, Bool, true, false, ◌&&◌, leb, List, [], ◌∷◌, ◌++◌, length, is_some, Some, None, sym, refl, ap, ◌∙◌, inl, inr, arith}
use Rattle.std.proofs.lemmas.List.{append-nil, length-append}
use Rattle.std.proofs.lemmas.Bool.{and_from, and_parts, cases_Bool, cond-false, cond-true, le-leb}
use Rattle.memory.specs.Areas.{all_areas, first_outside, place}
use Rattle.memory.specs.Meaning.{Step, all_in_map, step_in_map}
use Rattle.memory.specs.Meaning.Step.{set_vector}
use Rattle.memory.specs.Steps.{blanks, erase_steps, round_steps, store_up, EraseAsWritten}
use Rattle.memory.specs.declared.areas.Area.{Area}
use Rattle.memory.proofs.Places.{among, in_map}

pub all_append : (xs ys : List Step) → all_in_map xs ≡ true → all_in_map ys ≡ true → all_in_map (xs ++ ys) ≡ true
all_append [] ys h k = k
all_append (s ∷ xs) ys h k = let p = and_parts (step_in_map s) (all_in_map xs) h in and_from _ _ p.0 (all_append xs ys p.1 k)

pub append_parts : (xs ys : List Step) → all_in_map (xs ++ ys) ≡ true → (all_in_map xs ≡ true) × (all_in_map ys ≡ true)
append_parts [] ys h = (refl, h)
append_parts (s ∷ xs) ys h =
    let p = and_parts (step_in_map s) (all_in_map (xs ++ ys)) h in
    let q = append_parts xs ys p.1 in
    (and_from _ _ p.0 q.0, q.1)

-- bytes stored at a range of the map keep to it
pub store_up_in : (a : ℕ) (vs : List ℕ) → first_outside a (length vs) ≡ None → all_in_map (store_up a vs) ≡ true
unfolding first_outside
store_up_in a [] h = refl
store_up_in a (v ∷ vs) h =
    elim (cases_Bool (is_some (place a))) [
      | inl t ↦ and_from _ _ t (store_up_in (a + 1) vs (sym (cond-true _ _ _ t) ∙ h))
      | inr t ↦ let q : Some a ≡ None = sym (cond-false _ _ _ t) ∙ h in
          let z : ◌≡◌ {A = ℕ} 0 1 = cc in
          absurd (omega arith)
    ]

pub blanks_in : (a n : ℕ) → ((b : ℕ) → a ≤ b → b < a + n → is_some (place b) ≡ true) → all_in_map (blanks a n) ≡ true
unfolding blanks
blanks_in a zero h = refl
blanks_in a (suc n) h = and_from (is_some (place a)) _ (h a (omega arith) (omega arith)) (blanks_in (a + 1) n (λ b l u. h b (omega arith) (omega arith)))

held : (f l a : ℕ) → f ≤ a → a ≤ l → (leb f a && leb a l) ≡ true
held f l a h k = and_from _ _ (le-leb f a h) (le-leb a l k)

-- the steps of a mass erase, written out
pub as_written : EraseAsWritten
unfolding erase_steps all_areas
as_written =
    ap (λ l. set_vector 255 255 ∷ (l ++ (blanks 0x4400 44032 ++ (blanks 0x10000 16384 ++ [])))) (append-nil (blanks 0xFFC0 62))
    ∙ ap (λ l. set_vector 255 255 ∷ (blanks 0xFFC0 62 ++ (blanks 0x4400 44032 ++ l))) (append-nil (blanks 0x10000 16384))

abbrev pub no_area : Area
no_area = record { first = 0; last = 0; erase = None }

-- a mass erase keeps to the map
pub erase_in : all_in_map erase_steps ≡ true
unfolding all_areas
erase_in =
    let lower = blanks_in 0x4400 44032 (λ b l u. in_map b ∙ among all_areas 1 no_area b (omega arith) (held 0x4400 0xEFFF b (omega arith) (omega arith))) in
    let table = blanks_in 0xFFC0 62 (λ b l u. in_map b ∙ among all_areas 2 no_area b (omega arith) (held 0xFF80 0xFFFF b (omega arith) (omega arith))) in
    let upper = blanks_in 0x10000 16384 (λ b l u. in_map b ∙ among all_areas 3 no_area b (omega arith) (held 0x10000 0x13FFF b (omega arith) (omega arith))) in
    ap all_in_map as_written ∙ all_append (blanks 0xFFC0 62) _ table (all_append (blanks 0x4400 44032) _ lower upper)

length_blanks : (a n : ℕ) → length (blanks a n) ≡ n
unfolding blanks
length_blanks a zero = refl
length_blanks a (suc n) = ap suc (length_blanks (a + 1) n)

-- a mass erase has 60,479 steps
pub erase_count : length erase_steps ≡ 60479
erase_count =
    let t = length_blanks 0xFFC0 62 in
    let l = length_blanks 0x4400 44032 in
    let u = length_blanks 0x10000 16384 in
    let e = length-append (blanks 0xFFC0 62) (blanks 0x4400 44032 ++ blanks 0x10000 16384) in
    let f = length-append (blanks 0x4400 44032) (blanks 0x10000 16384) in
    ap length as_written ∙ omega arith

-- so do both of its rounds
pub rounds_in : (v : Bool) → all_in_map (round_steps v) ≡ true
unfolding erase_steps
rounds_in true = (append_parts (round_steps true) (round_steps false) erase_in).0
rounds_in false = (append_parts (round_steps true) (round_steps false) erase_in).1
