use Rattle.std.proofs.Common.{ap, ◌∙◌}
use Rattle.sweep.specs.Programs.{program_left}
use Rattle.sweep.proofs.cut.lay_over.Goals as goal

pub returns : goal.returns
returns g c = c.in_ok-memory.ensures.saved ∙ c.in_ok-lay_program.ensures.after ∙ ap (program_left 2) c.restored-memory.ensures
