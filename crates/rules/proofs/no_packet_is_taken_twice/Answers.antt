-- The promise is proved of the rules: `Once`.
use Rattle.rules.proofs.Once
use Rattle.rules.proofs.no_packet_is_taken_twice.Goals as goal

pub returns : goal.returns
returns c = Once.no_packet_is_taken_twice
