use Rattle.std.proofs.Common.{◌≡◌, ◌≤◌, ◌++◌, length, drop, vec_items, vec_len, vec_capacity}
use Rattle.rules.specs.Board.{run}
use Rattle.board.proofs.Histories.{answers_from}
use Rattle.board.proofs.board.Board.run.Given as goal

abbrev pub invariant-loop-event : goal.invariant-loop-event
invariant-loop-event g l =
    let C = g.C.PacketCipher.cipher in
    record {
      state : run C l.self (drop l.event-index l.events) ≡ run C l.initial.self l.events;
      answers : vec_items l.answers ++ answers_from C l.self (drop l.event-index l.events) ≡ answers_from C l.initial.self l.events;
      count : vec_len l.answers ≡ l.event-index;
      room : length l.events ≤ vec_capacity l.answers;
    }
