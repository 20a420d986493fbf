use Rattle.std.proofs.Common.{◌+◌, arith}
use Rattle.memory.proofs.Exits.{passed_on}
use Rattle.memory.proofs.Turns.{turn_broke, turn_went, turns_done}
use Rattle.sweep.proofs.Fillers.{fillers_end, fillers_more}
use Rattle.sweep.proofs.programs.fill_area.Goals as goal

pub returns-in_err-store : goal.returns-in_err-store
returns-in_err-store g c =
    let o = fillers_more c.loop-address.address c.args.area.now.last c.filler.result c.filler.ensures (omega arith) in
    turn_broke _ _ _ _ _ _ _ o c.loop-address.invariant _ _ (passed_on _ _ c.from_residual.ensures.1) c.in_err-store.ensures

pub loop-address-preserved : goal.loop-address-preserved
loop-address-preserved g c =
    let o = fillers_more c.loop-address.address c.args.area.now.last c.filler.result c.filler.ensures (omega arith) in
    turn_went _ _ _ _ _ _ _ o c.loop-address.invariant c.in_ok-store.ensures

-- the last address
pub returns-in_ok-store : goal.returns-in_ok-store
returns-in_ok-store g c =
    let a = c.loop-address.address in
    let l = c.args.area.now.last in
    let d = turn_went _ _ _ _ _ _ _ (fillers_more a l c.filler.result c.filler.ensures (omega arith)) c.loop-address.invariant c.in_ok-store.ensures in
    turns_done _ _ _ _ (fillers_end (a + 1) l (omega arith)) d

-- no address
pub returns : goal.returns
returns g c = turns_done _ _ _ _ (fillers_end c.loop-address.address c.args.area.now.last (omega arith)) c.loop-address.invariant
