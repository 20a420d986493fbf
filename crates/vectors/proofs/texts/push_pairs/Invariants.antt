-- With the text of the bytes that are left, the text of all of them stands behind what was there.
use Rattle.std.proofs.Common.{◌≡◌, ◌++◌, drop, string_bytes}
use Rattle.vectors.specs.Texts.{pairs_text}
use Rattle.vectors.proofs.texts.push_pairs.Given as goal

abbrev pub invariant-loop-b : goal.invariant-loop-b
invariant-loop-b l = string_bytes l.out ++ pairs_text (drop l.b-index l.bytes) ≡ string_bytes l.initial.out ++ pairs_text l.bytes
