-- The bytes of hexadecimal text, two digits at a time.
use Rattle.std.proofs.Common.{◌≡◌, ℕ, zero, suc, ◌+◌, ◌*◌, ◌/◌, ◌%◌, ◌<◌, ◌≤◌, List, [], ◌∷◌, ◌++◌, length, get_or, take, drop, Some, None, Option, sym, refl, ap, ◌∙◌, arith}
use Rattle.std.proofs.lemmas.List.{append_assoc, drop-drop, length-drop}
use Rattle.std.specs.Option.{option_map}
use Rattle.std.specs.Simd.{first_chunks}
use Rattle.text.specs.Numbers.{and_then}
use Rattle.text.specs.Hex.{hex_pair, hex_read}

-- bytes that are read already, and what the rest of the digits says
abbrev pub behind : List ℕ → Option (List ℕ) → Option (List ℕ)
behind acc o = option_map (λ bs. acc ++ bs) o

behind_one : (acc : List ℕ) (b : ℕ) (o : Option (List ℕ)) → behind acc (option_map (λ bs. b ∷ bs) o) ≡ behind (acc ++ b ∷ []) o
behind_one acc b None = refl
behind_one acc b (Some bs) = ap (λ l. Some l) (sym (append_assoc acc (b ∷ []) bs))

-- what two bytes more make of the bytes behind them
abbrev onto : Option ℕ → List ℕ → Option (List ℕ)
onto o ds = and_then o (λ b. option_map (λ bs. b ∷ bs) (hex_read ds))

read_two : (xs : List ℕ) → 2 ≤ length xs → (o : Option ℕ) → o ≡ hex_pair (get_or (take 2 xs) 0 0) (get_or (take 2 xs) 1 0) → hex_read xs ≡ onto o (drop 2 xs)
read_two [] h o e = absurd (omega arith)
read_two (x ∷ []) h o e = absurd (omega arith)
read_two (x ∷ y ∷ xs) h o e = ap (λ p. onto p xs) (sym e)

-- the pairs of a text
chunk_at : (xs : List ℕ) (n i : ℕ) → i < n → get_or (first_chunks 2 n xs) i [] ≡ take 2 (drop (2 * i) xs)
chunk_at xs zero i h = absurd (omega arith)
chunk_at xs (suc n) zero h = refl
chunk_at xs (suc n) (suc i) h =
    let e : 2 + 2 * i ≡ 2 * suc i = omega arith in
    chunk_at (drop 2 xs) n i (omega arith) ∙ ap (take 2) (drop-drop (2 * i) 2 xs ∙ ap (λ k. drop k xs) e)

-- a pair, two digits from place 2 * i on
module _ (xs : List ℕ) (ps : List (List ℕ)) (i : ℕ) (e : ps ≡ first_chunks 2 (length xs / 2) xs) (h : i < length xs / 2) where
  pair : hex_pair (get_or (get_or ps i []) 0 0) (get_or (get_or ps i []) 1 0) ≡ hex_pair (get_or (take 2 (drop (2 * i) xs)) 0 0) (get_or (take 2 (drop (2 * i) xs)) 1 0)
  pair = ap (λ p. hex_pair (get_or p 0 0) (get_or p 1 0)) (ap (λ q. get_or q i []) e ∙ chunk_at xs (length xs / 2) i h)

  two : (o : Option ℕ) → o ≡ hex_pair (get_or (get_or ps i []) 0 0) (get_or (get_or ps i []) 1 0)
      → hex_read (drop (2 * i) xs) ≡ onto o (drop 2 (drop (2 * i) xs))
  two o r = read_two (drop (2 * i) xs) (omega (arith, length-drop (2 * i) xs)) o (r ∙ pair)

  -- a byte more
  pub read_more : (acc : List ℕ) (b : ℕ) → Some b ≡ hex_pair (get_or (get_or ps i []) 0 0) (get_or (get_or ps i []) 1 0)
      → behind (acc ++ b ∷ []) (hex_read (drop (2 * (i + 1)) xs)) ≡ behind acc (hex_read (drop (2 * i) xs))
  read_more acc b r =
      let n : 2 * i + 2 ≡ 2 * (i + 1) = omega arith in
      let d : drop 2 (drop (2 * i) xs) ≡ drop (2 * (i + 1)) xs = drop-drop 2 (2 * i) xs ∙ ap (λ k. drop k xs) n in
      ap (λ ys. behind (acc ++ b ∷ []) (hex_read ys)) (sym d)
      ∙ sym (ap (behind acc) (two (Some b) r) ∙ behind_one acc b (hex_read (drop 2 (drop (2 * i) xs))))

  -- no byte more
  pub read_none : (acc : List ℕ) → None ≡ hex_pair (get_or (get_or ps i []) 0 0) (get_or (get_or ps i []) 1 0)
      → None ≡ behind acc (hex_read (drop (2 * i) xs))
  read_none acc r = sym (ap (behind acc) (two None r))

none_then : (o : Option ℕ) (r : Option (List ℕ)) → r ≡ None → None ≡ and_then o (λ b. option_map (λ bs. b ∷ bs) r)
none_then None r e = refl
none_then (Some b) r e = ap (option_map (λ bs. b ∷ bs)) (sym e)

-- a digit is missing
pub read_odd : (xs : List ℕ) → length xs % 2 ≡ 1 → None ≡ hex_read xs
read_odd [] h = absurd (omega arith)
read_odd (x ∷ []) h = refl
read_odd (x ∷ y ∷ xs) h = none_then (hex_pair x y) (hex_read xs) (sym (read_odd xs (omega arith)))
