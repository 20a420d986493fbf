use Rattle.std.proofs.Common.{◌≡◌, ℕ, ◌*◌, ◌%◌, ◌^◌, ◌<◌, map, get_or, refl, sym, ap, ◌∙◌, arith}
use lib.Bits.{bit_xor}
use Rattle.std.proofs.lemmas.List.FromFn.{get_or-map-range_with_len}
use Rattle.std.specs.List.{range_with_len}
use Rattle.cipher.specs.Ghash.{v_after}
use Rattle.cipher.proofs.gcm.ghash.reduced.Goals as goal

abbrev closed : ℕ → ℕ
closed b = bit_xor (bit_xor (bit_xor (b * 256 % 2 ^ 16) (b * 128 % 2 ^ 16)) (b * 64 % 2 ^ 16)) (b * 2 % 2 ^ 16) * 2 ^ 112 % 2 ^ 128

-- one test that is computed at every byte
computed : map closed (range_with_len 0 256) ≡ map (λ b. v_after b 8) (range_with_len 0 256)
unfolding v_after
computed = refl

at : (f : ℕ → ℕ) (b : ℕ) → b < 256 → get_or (map f (range_with_len 0 256)) b 0 ≡ f b
at f b h = get_or-map-range_with_len f 0 256 b b 0 h (omega arith)

pub returns : goal.returns
returns c =
    let b = c.args.b in
    let h = c.ranges.b.fits in
    sym (at closed b h) ∙ ap (λ l. get_or l b 0) computed ∙ at (λ t. v_after t 8) b h
