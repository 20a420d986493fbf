use Rattle.std.proofs.Common.{◌≡◌, ◌-◌, ◌++◌, vec_items}
use Rattle.sweep.specs.Plans.{parts_calls}
use Rattle.sweep.proofs.plans.push_update.Given as goal

-- the parts before this one were added
abbrev pub invariant-loop-number : goal.invariant-loop-number
invariant-loop-number l = vec_items l.events ≡ vec_items l.initial.events ++ parts_calls l.key (l.number - 1)
