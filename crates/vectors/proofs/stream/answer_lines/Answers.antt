use Rattle.std.proofs.Common.{◌≡◌, ◌<◌, IfOk, IfSome, length, ap, subst, ◌∙◌, ◌++◌, string_bytes}
use Rattle.std.specs.Io.BufRead.{first_line, DropsThrough}
use Rattle.std.specs.Io.Iter.{lines_known_bytes}
use Rattle.vectors.specs.Streams.{line_row}
use Rattle.vectors.proofs.Streaming.{goes_on}
use Rattle.vectors.proofs.stream.answer_lines.Goals as goal

pub loop-line-preserved : goal.loop-line-preserved
loop-line-preserved g c =
    let left = lines_known_bytes g.R.Read.remaining in
    let held = g.W.Write.contents in
    let old = left c.loop-line.line-iterator in
    let new = left c.next.new.self in
    let piece = subst (λ r. IfOk r (λ x. IfSome old (λ xs. (0 < length xs) × (string_bytes x ≡ first_line xs)) × DropsThrough old new 10)) c.in_ok-line.was c.in-Some.ensures.steps.1 in
    goes_on (g.R.Read.remaining c.args.input) old new (held c.args.output.now) (held c.loop-line.output) (held c.write_many_rows.new.output)
    (string_bytes c.in_ok-line.field-0) (string_bytes c.loop-line.rows) (string_bytes c.push_row.new.rows) (string_bytes c.write_many_rows.new.rows)
    c.loop-line.invariant piece.0 piece.1
    (c.in_ok-push_row.ensures ∙ ap (λ bs. string_bytes c.loop-line.rows ++ line_row bs) c.as_str.ensures.value)
    c.in_ok-write_many_rows.ensures
