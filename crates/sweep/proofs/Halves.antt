-- Where no half program is counted, none was booted.
use Rattle.std.proofs.Common.{◌≡◌, ℕ, zero, suc, ◌+◌, ◌-◌, Bool, true, false, cond, min, List, refl, ap, ◌∙◌, inl, inr, arith}
use Rattle.std.proofs.lemmas.Bool.{cases_lt, false≢true}
use Rattle.memory.specs.Meaning.{Meaning}
use Rattle.rules.specs.declared.Event.{Event}
use Rattle.sweep.specs.Cuts.{cut_of, steps_of}
use Rattle.sweep.specs.Swept.{NoneHalf, is_cut, noted_cut, report_of}
use Rattle.sweep.specs.declared.cut.Cut.{Cut}
use Rattle.sweep.specs.declared.sweeping.Report.{Report}

-- a count that is 0 behind one more
one_more : (b : Bool) (k : ℕ) → min (k + cond b 1 0) 0xFFFFFFFF ≡ 0 → (k ≡ 0) × (b ≡ false)
one_more true k h = absurd (omega (arith, h))
one_more false k h = (omega (arith, h), refl)

-- a report that may have one cut more
module _ (c : Cut) (step : ℕ) (r : Report) where
  same_steps : (b : Bool) → (cond b (noted_cut step c r) r).steps ≡ r.steps
  same_steps true = refl
  same_steps false = refl

  counts_half : (b : Bool) → (cond b (noted_cut step c r) r).counts.half ≡ 0 → (r.counts.half ≡ 0) × (b ≡ true → c.half ≡ false)
  counts_half true h = let p = one_more c.half r.counts.half h in (p.0, λ e. p.1)
  counts_half false h = (h, λ e. absurd (false≢true e))

module _ (every : ℕ) (calls more : List Event) (m : Meaning) where
  report_steps : (n : ℕ) → (report_of every calls more m n).steps ≡ steps_of calls m
  unfolding report_of
  report_steps zero = refl
  report_steps (suc n) =
      let r = report_of every calls more m n in
      same_steps (cut_of (suc n - 1) calls more m) (suc n) r (is_cut every r.steps (suc n)) ∙ report_steps n

  pub none_half : (n : ℕ) → NoneHalf every calls more m n
  unfolding report_of
  none_half zero h k low is = absurd (omega (arith, low))
  none_half (suc n) h k low is =
      let r = report_of every calls more m n in
      let p = counts_half (cut_of (suc n - 1) calls more m) (suc n) r (is_cut every r.steps (suc n)) h in
      elim (cases_lt k n) [
        | inl l ↦ none_half n p.0 k l is
        | inr l ↦
            let e : suc n ≡ k + 1 = omega (arith, l, low) in
            let z : k ≡ suc n - 1 = omega (arith, l, low) in
            ap (λ j. (cut_of j calls more m).half) z ∙ p.1 (ap (λ s. is_cut every s (suc n)) (report_steps n) ∙ ap (is_cut every (steps_of calls m)) e ∙ is)
      ]
