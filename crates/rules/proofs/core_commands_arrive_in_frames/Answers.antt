use Rattle.rules.proofs.Arrivals
use Rattle.rules.proofs.core_commands_arrive_in_frames.Goals as goal

pub returns : goal.returns
returns c = Arrivals.frames_arrive
