use Rattle.rules.proofs.SameVersion
use Rattle.rules.proofs.same_version_opens_if_unfinished.Goals as goal

pub returns : goal.returns
returns c = SameVersion.same_version
