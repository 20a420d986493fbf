-- What a sweep counts.
use Rattle.std.specs.Prelude.{◌≡◌, ℕ, zero, suc, ◌+◌, ◌-◌, ◌%◌, ◌<◌, Bool, true, false, cond, ◌||◌, List, ◌++◌, ◌==◌}
use Rattle.example.specs.Frames.{erase_calls}
use Rattle.memory.specs.Meaning.{Meaning}
use Rattle.rules.specs.declared.Event.{Event}
use Rattle.sweep.specs.Counts.{both}
use Rattle.sweep.specs.Cuts.{cut_of, steps_of}
use Rattle.sweep.specs.Plans.{key_calls, update_calls}
use Rattle.sweep.specs.Tallies.{said_nothing, tallied}
use Rattle.sweep.specs.declared.counts.Counts.{Counts}
use Rattle.sweep.specs.declared.cut.Cut.{Cut}
use Rattle.sweep.specs.declared.plans.TheConstants.{KEY, NEW_KEY}
use Rattle.sweep.specs.declared.sweeping.Report.{Report}

-- whether the power is cut at a step: the first, the last, and each whose number is a multiple of `every`
abbrev pub is_cut : ℕ → ℕ → ℕ → Bool
is_cut every steps step = (step % every == 0) || (step == 1) || (step == steps)

-- no cut was made yet
abbrev pub no_cut : ℕ → Report
no_cut steps = record { steps = steps; counts = record { cuts = 0; half = 0 }; gone = said_nothing; back = said_nothing; again = said_nothing }

-- one cut more, at a step
abbrev pub noted_cut : ℕ → Cut → Report → Report
noted_cut step c r = record {
  steps = r.steps;
  counts = both r.counts (record { cuts = 1; half = cond c.half 1 0 });
  gone = tallied c.gone step r.gone;
  back = tallied c.back step r.back;
  again = tallied c.again step r.again;
}

-- a step more, if the power is cut there: the steps before it are kept
abbrev pub cut_at_step : ℕ → List Event → List Event → Meaning → ℕ → Report → Report
cut_at_step every calls more m step r = cond (is_cut every r.steps step) (noted_cut step (cut_of (step - 1) calls more m) r) r

-- what is counted of the first n steps of some calls, on the old program's memory, with more calls sent again
unfoldable pub report_of : ℕ → List Event → List Event → Meaning → ℕ → Report
report_of every calls more m zero = no_cut (steps_of calls m)
report_of every calls more m (suc n) = cut_at_step every calls more m (suc n) (report_of every calls more m n)

-- all of them
abbrev pub swept : ℕ → List Event → List Event → Meaning → Report
swept every calls more m = report_of every calls more m (steps_of calls m)

-- Where no half program is counted in the first n steps, none was booted: at no step of them at which the power is cut.
abbrev pub NoneHalf : ℕ → List Event → List Event → Meaning → ℕ → Type 0
NoneHalf every calls more m n =
    (report_of every calls more m n).counts.half ≡ 0 → (k : ℕ) → k < n → is_cut every (steps_of calls m) (k + 1) ≡ true → (cut_of k calls more m).half ≡ false

-- the counts of all sweeps on the old program's memory: of an update, sent again; of a key update, with the update under the new key; and of a
-- mass erase, with an update
abbrev pub counts_of_all : ℕ → Meaning → Counts
counts_of_all every m =
    both (both (swept 1 (update_calls KEY) (update_calls KEY) m).counts (swept 1 key_calls (key_calls ++ update_calls NEW_KEY) m).counts)
    (swept every erase_calls (update_calls KEY) m).counts
