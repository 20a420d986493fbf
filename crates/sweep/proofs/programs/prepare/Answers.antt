use Rattle.std.proofs.Common.{ap, ◌∙◌}
use Rattle.sweep.specs.Programs.{program_left}
use Rattle.sweep.proofs.programs.prepare.Goals as goal

pub returns : goal.returns
returns g c = c.in_ok-lay_program.ensures.after ∙ ap (program_left c.args.version) c.in_ok-fill.ensures.after
