use Rattle.rules.proofs.KeyTypes
use Rattle.rules.proofs.key_types_name_keys.Goals as goal

pub returns : goal.returns
returns c = KeyTypes.key_types_name_keys
