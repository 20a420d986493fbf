-- What one step answers and leaves, by cases.
use Rattle.std.proofs.Common.{◌≡◌, ℕ, true, false, cond, Some, Ok, Err, Option, Result, sym, ap, ◌∙◌}
use Rattle.std.proofs.lemmas.Bool.{and_from, and_left, and_right, cond-false, cond-true}
use Rattle.fault.specs.Checks.{check, then}
use Rattle.fault.specs.declared.Fault.{Fault}
use Rattle.fault.specs.declared.Fault.TheVariants.{Dark, OutsideMap}
use Rattle.memory.specs.Areas.{place}
use Rattle.memory.specs.Meaning.{Contents, Makes, Meaning, Step, after, answer, apply, put_at, read_at, read_of, step_in_map, with_image}
use Rattle.memory.specs.Meaning.Step.{store}
use Rattle.memory.specs.Supply.{lit, spent}
use Rattle.memory.specs.declared.supply.Supply.{Supply}
use Rattle.memory.proofs.Exits.{check_failed, check_passed}

-- taking one step off a supply: what it leaves and answers
abbrev Spent : Supply → Supply → Result (Unit {0}) Fault → Type 0
Spent u v r = record { after : v ≡ cond (lit u) (spent u) u; value : r ≡ check (lit u) Dark }

module _ (s : Step) (m : Meaning) where
  -- a step outside the map
  pub outside : (r : Result (Unit {0}) Fault) → r ≡ Err OutsideMap → step_in_map s ≡ false → Makes s m m r
  unfolding answer after
  outside r e f = record {
    after = sym (cond-false _ _ _ (and_left _ _ f));
    value = e ∙ sym (ap (λ b. then (check b OutsideMap) (check (lit m.supply) Dark)) f);
  }

  -- a step in the map answers as the supply does
  in_map_answer : step_in_map s ≡ true → check (lit m.supply) Dark ≡ answer s m
  unfolding answer
  in_map_answer f = sym (ap (λ b. then (check b OutsideMap) (check (lit m.supply) Dark)) f)

  -- without supply
  pub dark : step_in_map s ≡ true → lit m.supply ≡ false → Makes s m m (Err Dark)
  unfolding after
  dark f l = record { after = sym (cond-false _ _ _ (and_right (step_in_map s) _ l)); value = sym (ap (λ b. check b Dark) l) ∙ in_map_answer f }

  -- with supply
  pub made : (c : Contents) (u : Supply) → c ≡ apply s m.contents → u ≡ spent m.supply → step_in_map s ≡ true → lit m.supply ≡ true
      → Makes s m (record { contents = c; supply = u }) (Ok tt)
  unfolding after
  made c u e h f l = record {
    after = ap (λ x. record { contents = x; supply = u }) e ∙ ap (λ x. record { contents = apply s m.contents; supply = x }) h
        ∙ sym (cond-true _ _ _ (and_from (step_in_map s) _ f l));
    value = sym (ap (λ b. check b Dark) l) ∙ in_map_answer f;
  }

  -- a step as code makes it, once the supply is asked
  pub spend_dark : (r : Result (Unit {0}) Fault) (d : Fault) (u : Supply) → r ≡ Err d → step_in_map s ≡ true → Spent m.supply u (Err d)
      → Makes s m (record { contents = m.contents; supply = u }) r
  spend_dark r d u h f e =
      let l = check_failed (lit m.supply) Dark d e.value in
      record {
        after = ap (λ x. record { contents = m.contents; supply = x }) (e.after ∙ cond-false _ _ _ l) ∙ (dark f l).after;
        value = h ∙ e.value ∙ in_map_answer f;
      }

  pub spend_made : (c : Contents) (u : Supply) → c ≡ apply s m.contents → step_in_map s ≡ true → Spent m.supply u (Ok tt)
      → Makes s m (record { contents = c; supply = u }) (Ok tt)
  spend_made c u h f e =
      let l = check_passed (lit m.supply) Dark e.value in
      made c u h (e.after ∙ cond-true _ _ _ l) f l

-- a byte at an address whose place is found
pub put_found : (a v p : ℕ) (c : Contents) → place a ≡ Some p → with_image (put_at (Some p) v c.image) c ≡ apply (store a v) c
put_found a v p c e = ap (λ o. with_image (put_at o v c.image) c) (sym e)

pub read_found : (a : ℕ) (o : Option ℕ) (c : Contents) → place a ≡ o → read_at o c.image ≡ read_of c a
unfolding read_of
read_found a o c e = ap (λ p. read_at p c.image) (sym e)
