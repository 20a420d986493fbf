use Rattle.std.proofs.Common.{◌<◌, length, sym, ◌∙◌, arith}
use Rattle.memory.proofs.Places.{among}
use Rattle.memory.proofs.areas.place_in.Goals as goal

pub returns-then-holds-clause-known : goal.returns-then-holds-clause-known
returns-then-holds-clause-known c =
    let h : c.loop-area.area-index < length c.args.areas.now = omega arith in
    sym (among _ _ _ _ h (sym c.holds.ensures ∙ c.if-holds.true))
