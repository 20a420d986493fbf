use Rattle.std.proofs.Common.{◌≡◌, sym, ap, subst, ◌∙◌}
use Rattle.std.specs.Io.KnownBytes.{Appends}
use Rattle.listing.specs.Listing.{Reached, reached_by, without_rows}
use Rattle.listing.proofs.Replays.{cleared, none_wait, succeeded}
use Rattle.listing.proofs.waiting.Bench.print.Goals as goal

-- what is reached by a board, a number and rows, where no call waits
pub returns-clause-reached : goal.returns-clause-reached
returns-clause-reached g c =
    let C = g.C.PacketCipher.cipher in
    let b = c.make_calls.new.self in
    let ok = c.in_ok-map_err.ensures.cases in
    let made_none = succeeded _ _ c.make_calls.result ok c.make_calls.ensures.none in
    let made_reached = succeeded _ _ c.make_calls.result ok c.make_calls.ensures.reached in
    let wrote = c.in_ok-write_rows.ensures in
    let s = c.write_rows.new.self in
    let t : Reached = record { detail = b.detail; state = b.board; number = b.number; rows = b.rows.items } in
    let u : Reached = record { detail = s.detail; state = s.board; number = s.number; rows = s.rows.items } in
    none_wait C s.events.items u (wrote.waiting ∙ made_none)
    ∙ cleared t u wrote.detail wrote.board wrote.number wrote.rows
    ∙ ap without_rows (sym (none_wait C b.events.items t made_none) ∙ made_reached)

pub returns-clause-written : goal.returns-clause-written
returns-clause-written g c =
    let C = g.C.PacketCipher.cipher in
    let b = c.make_calls.new.self in
    let ok = c.in_ok-map_err.ensures.cases in
    let made_none = succeeded _ _ c.make_calls.result ok c.make_calls.ensures.none in
    let made_reached = succeeded _ _ c.make_calls.result ok c.make_calls.ensures.reached in
    let t : Reached = record { detail = b.detail; state = b.board; number = b.number; rows = b.rows.items } in
    let rows : t.rows ≡ (reached_by C c.args.self.now).rows = ap (λ (r : Reached). r.rows) (sym (none_wait C b.events.items t made_none) ∙ made_reached) in
    subst (Appends (g.W.Write.contents c.args.output.now) (g.W.Write.contents c.write_rows.new.output)) rows c.in_ok-write_rows.ensures.written
