use Rattle.std.proofs.Common.{sym}
use Rattle.memory.proofs.InMap.{store_up_in}
use Rattle.memory.proofs.Loops.{unrefused}
use Rattle.memory.proofs.StoredBack.{stores_are_read_back}
use Rattle.memory.proofs.steps.store_data.Goals as goal

pub store_up-requires : goal.store_up-requires
store_up-requires g c =
    store_up_in c.args.address c.args.bytes.now (unrefused _ (sym c.in_ok-check_range.ensures.value))

pub returns-in_err-check_range-clause-read_back : goal.returns-in_err-check_range-clause-read_back
returns-in_err-check_range-clause-read_back g c = stores_are_read_back _ (g.M.Memory.long c.args.memory.now)

pub returns-clause-read_back : goal.returns-clause-read_back
returns-clause-read_back g c = stores_are_read_back _ (g.M.Memory.long c.args.memory.now)
