use Rattle.std.proofs.Common.{◌≡◌, Err, sym, ap, ap₂, ◌∙◌}
use Rattle.listing.specs.Listing.{Reached, line_outcome, reached_by, with_calls, with_outcome}
use Rattle.listing.proofs.Reaching.{call_more, calls_none}
use Rattle.listing.proofs.waiting.Bench.line.Goals as goal

pub returns-in_ok-push-in-Ok : goal.returns-in_ok-push-in-Ok
returns-in_ok-push-in-Ok g c =
    let C = g.C.PacketCipher.cipher in
    let b = c.args.self.now in
    let r : Reached = record { detail = b.detail; state = b.board; number = b.number; rows = b.rows.items } in
    let w = reached_by C b in
    ap (λ es. with_calls C es r) c.in_ok-push-in-Ok.ensures.items
    ∙ call_more C b.events.items c.in-Ok.event r
    ∙ ap (λ v. with_outcome (line_outcome C w.state v) w) c.in-Ok.ensures

-- a malformed line stands behind the calls before it, which are made first
pub returns-in_ok-write_row-in-Err : goal.returns-in_ok-write_row-in-Err
returns-in_ok-write_row-in-Err g c =
    let C = g.C.PacketCipher.cipher in
    let b = c.make_calls.new.self in
    let f = c.in-Err.fault in
    let t : Reached = record { detail = b.detail; state = b.board; number = b.number; rows = b.rows.items } in
    let w = reached_by C c.args.self.now in
    let made = c.in_ok-make_calls-in-Err.ensures in
    let all : t ≡ w = sym (ap (λ es. with_calls C es t) made.none ∙ calls_none C t) ∙ made.reached in
    let refused : Reached = with_outcome (line_outcome C t.state (Err f)) t in
    ap₂ (λ n qs. with_calls C b.events.items (record { detail = t.detail; state = t.state; number = n; rows = qs })) c.number_after-self.ensures c.in_ok-write_row-in-Err.ensures.items
    ∙ ap (λ es. with_calls C es refused) made.none
    ∙ calls_none C refused
    ∙ ap (λ (v : Reached). with_outcome (line_outcome C v.state (Err f)) v) all
    ∙ ap (λ v. with_outcome (line_outcome C w.state v) w) c.in-Err.ensures
