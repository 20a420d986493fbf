use Rattle.std.proofs.Common.{◌≡◌, ◌-◌, vec_items}
use Rattle.demo.specs.Frames.{parts_frames}
use Rattle.demo.proofs.update.Given as goal

-- the parts before this one were packed
abbrev pub invariant-loop-number : goal.invariant-loop-number
invariant-loop-number l = vec_items l.frames ≡ parts_frames l.key (l.number - 1)
