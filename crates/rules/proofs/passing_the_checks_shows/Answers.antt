use Rattle.rules.proofs.Refusing
use Rattle.rules.proofs.passing_the_checks_shows.Goals as goal

pub returns : goal.returns
returns c = Refusing.passing_shows
