-- The first line of a listing's bytes, by what a read up to the next line end takes.
use Rattle.std.proofs.Common.{◌≡◌, ◌≢◌, ℕ, Bool, true, false, eqb, List, [], ◌∷◌, ◌++◌, None, Some, Option, IfSome, cond, length, length-append, drop, get_or, refl, sym, ap, ◌∙◌, arith}
use Rattle.std.proofs.lemmas.Bool.{eqb-true, eqb-false}
use Rattle.std.specs.Io.BufRead.{take_through, drop_through, DropsThrough}
use Rattle.listing.specs.Lines.{before_first, whole_lines}
use Rattle.listing.specs.Streams.{LineRead}

-- lists that end with one element each
pub last_same : (xs ys : List ℕ) (a b : ℕ) → xs ++ a ∷ [] ≡ ys ++ b ∷ [] → a ≡ b
last_same [] [] a b e = ap (λ l. get_or l 0 0) e
last_same [] (y ∷ ys) a b e = absurd (omega (arith, ap length e, length-append ys (b ∷ [])))
last_same (x ∷ xs) [] a b e = absurd (omega (arith, ap length e, length-append xs (a ∷ [])))
last_same (x ∷ xs) (y ∷ ys) a b e = last_same xs ys a b (ap (drop 1) e)

-- what is taken ends with a line end: it is the first line
taken : (xs line : List ℕ) → take_through 10 xs ≡ line ++ 10 ∷ [] → whole_lines xs ≡ line ∷ whole_lines (drop_through 10 xs)
taken [] line e = absurd (omega (arith, ap length e, length-append line (10 ∷ [])))
taken (x ∷ xs) line e = at (λ l. taken xs l) line (eqb x 10) refl e
  where
    at : ((l : List ℕ) → take_through 10 xs ≡ l ++ 10 ∷ [] → whole_lines xs ≡ l ∷ whole_lines (drop_through 10 xs)) → (line : List ℕ) (b : Bool) → eqb x 10 ≡ b
        → cond b (x ∷ []) (x ∷ take_through 10 xs) ≡ line ++ 10 ∷ []
        → cond b ([] ∷ whole_lines xs) (before_first x (whole_lines xs)) ≡ line ∷ whole_lines (cond b xs (drop_through 10 xs))
    at rest [] true is e = refl
    at rest (y ∷ ys) true is e = absurd (omega (arith, ap length e, length-append ys (10 ∷ [])))
    at rest [] false is e = absurd (eqb-false x 10 is (ap (λ l. get_or l 0 0) e))
    at rest (y ∷ ys) false is e =
        ap (before_first x) (rest ys (ap (drop 1) e)) ∙ ap (λ z. (z ∷ ys) ∷ whole_lines (drop_through 10 xs)) (ap (λ l. get_or l 0 0) e)

-- it does not: there is no line, and all is taken
none_taken : (xs : List ℕ) → ((l : List ℕ) → take_through 10 xs ≢ l ++ 10 ∷ []) → (drop_through 10 xs ≡ []) × (whole_lines xs ≡ [])
none_taken [] h = (refl, refl)
none_taken (x ∷ xs) h = at (none_taken xs) (eqb x 10) refl h
  where
    at : (((l : List ℕ) → take_through 10 xs ≢ l ++ 10 ∷ []) → (drop_through 10 xs ≡ []) × (whole_lines xs ≡ [])) → (b : Bool) → eqb x 10 ≡ b
        → ((l : List ℕ) → cond b (x ∷ []) (x ∷ take_through 10 xs) ≢ l ++ 10 ∷ [])
        → (cond b xs (drop_through 10 xs) ≡ []) × (cond b ([] ∷ whole_lines xs) (before_first x (whole_lines xs)) ≡ [])
    at rest true is h = absurd (h [] (ap (λ y. y ∷ []) (eqb-true x 10 is)))
    at rest false is h = let r = rest (λ l e. h (x ∷ l) (ap (λ t. x ∷ t) e)) in (r.0, ap (before_first x) r.1)

-- the same of what a reader has left
pub line_read : (left new : Option (List ℕ)) (read line : List ℕ) → IfSome left (λ xs. read ≡ take_through 10 xs) → DropsThrough left new 10
    → read ≡ line ++ 10 ∷ [] → LineRead true left new line
line_read None new read line bytes rest ended = tt
line_read (Some xs) new read line bytes rest ended = (drop_through 10 xs, rest, taken xs line (sym bytes ∙ ended))

pub none_read : (left new : Option (List ℕ)) (read line : List ℕ) → IfSome left (λ xs. read ≡ take_through 10 xs) → DropsThrough left new 10
    → ((l : List ℕ) → read ≢ l ++ 10 ∷ []) → LineRead false left new line
none_read None new read line bytes rest ended = tt
none_read (Some xs) new read line bytes rest ended = let r = none_taken xs (λ l e. ended l (bytes ∙ e)) in (rest ∙ ap Some r.0, r.1)
