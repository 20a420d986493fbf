use Rattle.std.proofs.Common.{ap, subst, ◌∙◌}
use Rattle.listing.specs.Listing.{Reached, reached_by, with_line}
use Rattle.listing.specs.Streams.{LineRead}
use Rattle.listing.proofs.Replays.{comes_to_end, goes_on, state_reached, succeeded}
use Rattle.listing.proofs.stream.replay_lines.Goals as goal

pub loop-preserved : goal.loop-preserved
loop-preserved g c =
    let C = g.C.PacketCipher.cipher in
    let old = c.loop.bench in
    let left = g.R.Read.remaining in
    let held = g.W.Write.contents in
    goes_on C c.loop.counter (left c.args.input.now) (left c.loop.input) (left c.next_line.new.input) (held c.args.output.now) (held c.loop.output) (held c.print_if_full.new.output)
    c.next_line.new.line.items (reached_by C c.args.bench.now) (reached_by C old) (reached_by C c.line.new.self) (reached_by C c.print_if_full.new.self)
    c.loop.invariant
    (subst (λ b. LineRead b (left c.loop.input) (left c.next_line.new.input) c.next_line.new.line.items) c.if-not-branch.false c.in_ok-next_line.ensures)
    (succeeded _ _ c.line.result c.in_ok-map_err.ensures.cases c.line.ensures ∙ ap (λ bs. with_line C bs (reached_by C old)) c.deref.ensures.value)
    c.in_ok-print_if_full.ensures

-- the board that is left is the one that is reached, since no call waits
pub returns-then-not-branch : goal.returns-then-not-branch
returns-then-not-branch g c =
    let C = g.C.PacketCipher.cipher in
    let b = c.print.new.self in
    let wrote = c.in_ok-print.ensures in
    let left = g.R.Read.remaining in
    let held = g.W.Write.contents in
    comes_to_end C c.loop.counter (left c.args.input.now) (left c.loop.input) (left c.next_line.new.input) (held c.args.output.now) (held c.loop.output) (held c.print.new.output)
    c.next_line.new.line.items (reached_by C c.args.bench.now) (reached_by C c.loop.bench) b.board
    c.loop.invariant
    (subst (λ t. LineRead t (left c.loop.input) (left c.next_line.new.input) c.next_line.new.line.items) c.if-not-branch.true c.in_ok-next_line.ensures)
    wrote.written
    (state_reached C b.events.items (record { detail = b.detail; state = b.board; number = b.number; rows = b.rows.items }) wrote.none
    ∙ ap (λ (r : Reached). r.state) wrote.reached)
