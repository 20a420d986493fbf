use Rattle.std.proofs.Common.{◌≡◌, ◌++◌, drop}
use Rattle.listing.specs.Replaying.{number_behind, rows_from}
use Rattle.listing.proofs.replay.write_rows.Given as goal

-- with the rows and the numbers of what is left, the rows and the number behind all of them
abbrev pub invariant-loop-answer : goal.invariant-loop-answer
invariant-loop-answer l =
    let left = drop l.answer-index l.answers in
    (l.rows.items ++ rows_from l.detail l.next left ≡ l.initial.rows.items ++ rows_from l.detail l.number l.answers) × (number_behind l.next left ≡ number_behind l.number l.answers)
