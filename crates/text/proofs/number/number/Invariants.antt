-- What the rest of the digits makes of the number so far, cut to 64 bits, is what all of them make.
use Rattle.std.proofs.Common.{◌≡◌, ◌-◌, ◌^◌, ◌<◌, ◌≤◌, min, drop}
use Rattle.std.specs.Option.{option_map}
use Rattle.text.specs.Numbers.{digit_in, number_after, number_of}
use Rattle.text.proofs.number.number.Given as goal

abbrev pub invariant-loop-b : goal.invariant-loop-b
invariant-loop-b l =
    (l.value < 2 ^ 64) × (l.value ≤ l.most) ×
    (option_map (min (2 ^ 64 - 1)) (number_after (digit_in l.radix) l.radix l.value (drop l.b-index l.text))
    ≡ option_map (min (2 ^ 64 - 1)) (number_of (digit_in l.radix) l.radix l.text))
