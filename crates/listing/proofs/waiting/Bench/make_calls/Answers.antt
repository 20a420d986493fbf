use Rattle.std.proofs.Common.{ap, ◌∙◌}
use Rattle.listing.specs.Listing.{Reached, with_calls}
use Rattle.listing.proofs.Reaching.{calls_made, calls_none}
use Rattle.listing.proofs.waiting.Bench.make_calls.Goals as goal

pub returns-clause-reached : goal.returns-clause-reached
returns-clause-reached g c =
    let C = g.C.PacketCipher.cipher in
    let b = c.args.self.now in
    let before : Reached = record { detail = b.detail; state = b.board; number = b.number; rows = b.rows.items } in
    let behind : Reached = record { detail = b.detail; state = c.replay.new.board; number = c.in_ok-self.field-0; rows = c.replay.new.rows.items } in
    ap (λ es. with_calls C es behind) c.clear.ensures.items
    ∙ calls_none C behind
    ∙ calls_made C before.state behind.state _ b.detail b.number behind.number b.rows.items behind.rows c.in_ok-self.ensures
    ∙ ap (λ es. with_calls C es before) c.deref.ensures.value
