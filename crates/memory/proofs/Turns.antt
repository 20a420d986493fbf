-- A loop of steps, one turn on: what is left to do, on the memory as it is, gives what all steps give from the start.
use Rattle.std.proofs.Common.{◌≡◌, ℕ, Bool, true, false, not, List, [], ◌∷◌, ◌++◌, Ok, Err, Result, sym, refl, ap, ◌∙◌, arith}
use Rattle.std.proofs.lemmas.Bool.{and_parts, cond-false, cond-true, false≢true, not-false, not-true}
use Rattle.fault.specs.Checks.{check, then}
use Rattle.fault.specs.declared.Fault.{Fault}
use Rattle.fault.specs.declared.Fault.TheVariants.{Dark, OutsideMap}
use Rattle.memory.specs.Meaning.{Makes, Meaning, Performs, Step, all_in_map, answer, answer_of, left_by, perform, performed, step_in_map}
use Rattle.memory.specs.Supply.{lit}
use Rattle.memory.proofs.Exits.{check_failed, check_passed}
use Rattle.memory.proofs.InMap.{append_parts}
use Rattle.memory.proofs.OneStep.{dark, made}
use Rattle.memory.proofs.Performs.{go_on, perform_append, perform_first, perform_none}

pub done_none : (m : Meaning) → Performs [] m m (Ok tt)
unfolding perform
done_none m = record { after = refl; value = refl }

-- what the answer of a step tells
both_passed : (a b : Bool) → Ok tt ≡ then (check a OutsideMap) (check b Dark) → (a ≡ true) × (b ≡ true)
both_passed true b e = (refl, check_passed b Dark e)
both_passed false b e = let z : ◌≡◌ {A = ℕ} 0 1 = cc in absurd (omega arith)

second_failed : (a b : Bool) (f : Fault) → a ≡ true → Err f ≡ then (check a OutsideMap) (check b Dark) → b ≡ false
second_failed true b f t e = check_failed b Dark f e
second_failed false b f t e = absurd (false≢true t)

-- one step, and those behind it
module _ (s : Step) (ss all : List Step) (m n : Meaning) (opened : all ≡ s ∷ ss) where
  pub step_went : Makes s m n (Ok tt) → performed ss n ≡ performed all m
  unfolding answer
  step_went d =
      let t = both_passed (step_in_map s) (lit m.supply) d.value in
      let e = made s m _ _ refl refl t.0 t.1 in
      ap (performed ss) (d.after ∙ sym e.after) ∙ sym (perform_first s ss m.supply m.contents t.1) ∙ sym (ap (λ xs. performed xs m) opened)

  pub step_broke : (f : Fault) → step_in_map s ≡ true → Makes s m n (Err f) → Performs all m n (Err f)
  unfolding answer
  step_broke f t d =
      let l = second_failed (step_in_map s) (lit m.supply) f t d.value in
      let e = dark s m t l in
      let p = sym (perform_none s ss m.supply m.contents l) ∙ sym (ap (λ xs. performed xs m) opened) in
      record { after = d.after ∙ sym e.after ∙ ap left_by p; value = d.value ∙ sym e.value ∙ ap answer_of p }

-- several steps, and those behind them
module _ (xs ys all : List Step) (m n : Meaning) (opened : all ≡ xs ++ ys) where
  append_is : performed all m ≡ go_on ys (performed xs m)
  append_is = ap (λ zs. performed zs m) opened ∙ perform_append xs ys m.supply m.contents

  pub steps_went : Performs xs m n (Ok tt) → performed ys n ≡ performed all m
  steps_went d = ap (performed ys) d.after ∙ sym (append_is ∙ cond-false _ _ _ (not-true _ (check_passed (not (performed xs m).dark) Dark d.value)))

  pub steps_broke : (f : Fault) → Performs xs m n (Err f) → Performs all m n (Err f)
  steps_broke f d =
      let p = sym (append_is ∙ cond-true _ _ _ (not-false _ (check_failed (not (performed xs m).dark) Dark f d.value))) in
      record { after = d.after ∙ ap left_by p; value = d.value ∙ ap answer_of p }

-- what is left to do, once it is done, gives what all gives
pub done_all : (rest all : List Step) (k m n : Meaning) (r s : Result (Unit {0}) Fault) → performed rest k ≡ performed all m → r ≡ s
    → Performs rest k n s → Performs all m n r
done_all rest all k m n r s e h d = record { after = d.after ∙ ap left_by e; value = h ∙ d.value ∙ ap answer_of e }

-- nothing is left to do
pub done_end : (rest all : List Step) (k m : Meaning) → rest ≡ [] → performed rest k ≡ performed all m → Performs all m k (Ok tt)
done_end rest all k m o e = done_all [] all k m k (Ok tt) (Ok tt) (ap (λ xs. performed xs k) (sym o) ∙ e) refl (done_none k)

-- in the midst of steps: what is left keeps to the map, and gives on the memory as it is what all of them give from the start
abbrev pub ToDo : List Step → Meaning → List Step → Meaning → Type 0
ToDo left now all start = record { in_map : all_in_map left ≡ true; same : performed left now ≡ performed all start }

pub to_do_all : (all : List Step) (m : Meaning) → all_in_map all ≡ true → ToDo all m all m
to_do_all all m h = record { in_map = h; same = refl }

-- one of them, and the rest
module _ (s : Step) (ss left all : List Step) (m n start : Meaning) (opened : left ≡ s ∷ ss) (d : ToDo left m all start) where
  first_in : (step_in_map s ≡ true) × (all_in_map ss ≡ true)
  first_in = and_parts (step_in_map s) _ (sym (ap all_in_map opened) ∙ d.in_map)

  pub turn_went : Makes s m n (Ok tt) → ToDo ss n all start
  turn_went k = record { in_map = first_in.1; same = step_went s ss left m n opened k ∙ d.same }

  pub turn_broke : (f : Fault) (r : Result (Unit {0}) Fault) → r ≡ Err f → Makes s m n (Err f) → Performs all start n r
  turn_broke f r h k = done_all left all m start n r (Err f) d.same h (step_broke s ss left m n opened f first_in.0 k)

-- some of them, and the rest
module _ (xs ss left all : List Step) (m n start : Meaning) (opened : left ≡ xs ++ ss) (d : ToDo left m all start) where
  part_in : (all_in_map xs ≡ true) × (all_in_map ss ≡ true)
  part_in = append_parts xs ss (sym (ap all_in_map opened) ∙ d.in_map)

  pub part_went : Performs xs m n (Ok tt) → ToDo ss n all start
  part_went k = record { in_map = part_in.1; same = steps_went xs ss left m n opened k ∙ d.same }

  pub part_broke : (f : Fault) (r : Result (Unit {0}) Fault) → r ≡ Err f → Performs xs m n (Err f) → Performs all start n r
  part_broke f r h k = done_all left all m start n r (Err f) d.same h (steps_broke xs ss left m n opened f k)

-- none of them
pub turns_done : (left all : List Step) (m start : Meaning) → left ≡ [] → ToDo left m all start → Performs all start m (Ok tt)
turns_done left all m start o d = done_end left all m start o d.same
