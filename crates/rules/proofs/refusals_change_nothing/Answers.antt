use Rattle.rules.proofs.Laws
use Rattle.rules.proofs.refusals_change_nothing.Goals as goal

pub returns : goal.returns
returns c = record { refused = Laws.refusals_change_nothing; away = Laws.turned_away_unchanged }
