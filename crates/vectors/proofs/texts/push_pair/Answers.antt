-- What `{:02X}` writes.
use Rattle.std.proofs.Common.{◌≡◌, ℕ, ◌-◌, ◌^◌, ◌<◌, true, false, Some, Option, List, [], ap, arith}
use Rattle.std.specs.Fmt.{digits, format_spec, padded_integral}
use Rattle.std.specs.Option.{option_map}
use Rattle.std.proofs.lemmas.Fmt.{hex_byte}
use Rattle.text.specs.Lines.{pair_text}
use Rattle.vectors.proofs.texts.push_pair.Goals as goal

pair_shown : (b : ℕ) (o : Option (List ℕ)) → b < 256 → o ≡ Some (digits 16 true b)
    → option_map (padded_integral (format_spec 32 0 4 2 (2 ^ 64 - 1)) false []) o ≡ Some (pair_text b)
pair_shown b o l e = rw e (ap (λ ds. Some ds) (hex_byte true b l))

pub returns : goal.returns
returns c =
    let shown = pair_shown c.args.b _ (omega arith) c.in_radix.ensures in
    rw (c.laid_out.ensures, shown) at c.in_ok-write.ensures.bytes
