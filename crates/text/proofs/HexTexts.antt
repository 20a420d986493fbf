-- The text of bytes, one byte at a time.
use Rattle.std.proofs.Common.{◌≡◌, ℕ, ◌+◌, ◌-◌, ◌^◌, ◌<◌, true, false, Some, Option, List, [], ◌∷◌, ◌++◌, length, get_or, take, sym, ap, ◌∙◌, arith}
use Rattle.std.specs.Fmt.{HasWritten, digits, format_spec, padded_integral}
use Rattle.std.specs.Option.{option_map}
use Rattle.std.specs.declared.fmt.Formatter.{Formatter}
use Rattle.std.proofs.Output.{has_written_of_eq, has_written_append}
use Rattle.std.proofs.lemmas.Fmt.{hex_byte}
use Rattle.std.proofs.lemmas.List.{append_assoc, append-nil, length-take-le, take_more}
use Rattle.text.specs.Lines.{hex_lines, lines_from, pair_text, separator}

-- what `{:02X}` writes of a byte
pub pair_shown : (b : ℕ) (o : Option (List ℕ)) → b < 256 → o ≡ Some (digits 16 true b)
    → option_map (padded_integral (format_spec 32 0 4 2 (2 ^ 64 - 1)) false []) o ≡ Some (pair_text b)
pair_shown b o l e = rw e (ap (λ ds. Some ds) (hex_byte true b l))

lines_push : (i : ℕ) (xs : List ℕ) (b : ℕ) → lines_from i (xs ++ b ∷ []) ≡ lines_from i xs ++ (separator (i + length xs) ++ pair_text b)
lines_push i [] b = let e : i ≡ i + 0 = omega arith in append-nil (separator i ++ pair_text b) ∙ ap (λ k. separator k ++ pair_text b) e
lines_push i (x ∷ xs) b =
    let first = separator i ++ pair_text x in
    let e : (i + 1) + length xs ≡ i + length (x ∷ xs) = omega arith in
    ap (λ bs. first ++ bs) (lines_push (i + 1) xs b ∙ ap (λ k. lines_from (i + 1) xs ++ (separator k ++ pair_text b)) e)
    ∙ sym (append_assoc first (lines_from (i + 1) xs) (separator (i + length (x ∷ xs)) ++ pair_text b))

-- one byte more
lines_more : (bs : List ℕ) (i : ℕ) → i < length bs → hex_lines (take (i + 1) bs) ≡ hex_lines (take i bs) ++ (separator i ++ pair_text (get_or bs i 0))
lines_more bs i h =
    let b = get_or bs i 0 in
    let l : length (take i bs) ≡ i = length-take-le i bs (omega arith) in
    let e : 0 + length (take i bs) ≡ i = omega arith in
    ap hex_lines (take_more bs i 0 h) ∙ lines_push 0 (take i bs) b ∙ ap (λ k. hex_lines (take i bs) ++ (separator k ++ pair_text b)) e

-- the text so far, what stands before the next byte, and that byte
pub byte_put : {W : Type 0} (took : W → List ℕ → W → Type 0) (e f g h : Formatter W) (bs : List ℕ) (i : ℕ) → i < length bs
    → HasWritten took e (hex_lines (take i bs)) f → HasWritten took f (separator i) g → HasWritten took g (pair_text (get_or bs i 0)) h → HasWritten took e (hex_lines (take (i + 1) bs)) h
byte_put took e f g h bs i l p q r =
    has_written_of_eq took e _ _ h (sym (lines_more bs i l)) (has_written_append took e _ f _ h p (has_written_append took f _ g _ h q r))
