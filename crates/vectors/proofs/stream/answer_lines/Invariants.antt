-- The rows of what was left are those that are written, those that wait, and those of what is still left.
use Rattle.std.proofs.Common.{string_bytes}
use Rattle.std.specs.Io.Iter.{lines_known_bytes}
use Rattle.vectors.proofs.Streaming.{Progress}
use Rattle.vectors.proofs.stream.answer_lines.Given as goal

abbrev pub invariant-loop-line : goal.invariant-loop-line
invariant-loop-line g l =
    Progress (g.R.Read.remaining l.fn.input) (lines_known_bytes g.R.Read.remaining l.line-iterator) (g.W.Write.contents l.fn.output) (g.W.Write.contents l.output) (string_bytes l.rows)
