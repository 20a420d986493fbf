use Rattle.std.proofs.Common.{[], ap₂, ◌∙◌}
use Rattle.listing.specs.Listing.{with_calls}
use Rattle.listing.proofs.Reaching.{calls_none}
use Rattle.listing.proofs.waiting.Bench.new.Goals as goal

pub returns : goal.returns
returns g c =
    let C = g.C.PacketCipher.cipher in
    let s = c.args.board in
    ap₂ (λ es qs. with_calls C es (record { detail = c.args.detail; state = s; number = 1; rows = qs })) c.new.ensures.items c.new-2.ensures.items
    ∙ calls_none C (record { detail = c.args.detail; state = s; number = 1; rows = [] })
