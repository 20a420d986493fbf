-- What was left comes to what is still left, behind the rows that are written.
use Rattle.listing.specs.Listing.{reached_by}
use Rattle.listing.proofs.Replays.{Progress}
use Rattle.listing.proofs.stream.replay_lines.Given as goal

abbrev pub invariant-loop : goal.invariant-loop
invariant-loop g l =
    let C = g.C.PacketCipher.cipher in
    Progress C l.counter (g.R.Read.remaining l.fn.input) (g.R.Read.remaining l.input) (g.W.Write.contents l.fn.output) (g.W.Write.contents l.output)
    (reached_by C l.fn.bench) (reached_by C l.bench)
