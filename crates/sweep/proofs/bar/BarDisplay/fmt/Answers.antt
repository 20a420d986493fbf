-- A sign more.
use Rattle.std.proofs.Common.{true, ◌++◌, replicate, refl, ap, ◌∙◌, arith}
use Rattle.std.proofs.Output.{has_written_of_eq, has_written_append}
use Rattle.std.proofs.lemmas.Str.Ascii.{encode_ascii}
use Rattle.std.proofs.lemmas.List.{replicate_more}
use Rattle.sweep.proofs.bar.BarDisplay.fmt.Goals as goal

pub loop-preserved : goal.loop-preserved
loop-preserved g c =
    λ plain.
    let so_far = c.loop.invariant plain in
    has_written_of_eq g.W.Write.write_str_gives c.args.f.now _ _ c.write_char.new.self (ap (λ x. replicate c.loop.counter 35 ++ x) (encode_ascii 35 (omega arith)) ∙ replicate_more c.loop.counter 35)
    (has_written_append g.W.Write.write_str_gives c.args.f.now _ c.loop.f _ c.write_char.new.self so_far (c.in_ok-write_char.ensures.writes so_far.plain (refl {a = true})))
