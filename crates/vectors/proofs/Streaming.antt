-- Lines taken one by one, and their rows written now and then.
use Rattle.std.proofs.Common.{◌≡◌, ℕ, zero, suc, ◌<◌, ◌≤◌, Bool, true, false, eqb, List, [], ◌∷◌, ◌++◌, None, Some, Option, IfSome, cond, length, refl, sym, ap, subst, ◌∙◌, arith}
use Rattle.std.proofs.lemmas.List.{append_assoc, append-nil}
use Rattle.std.specs.List.{flat_map}
use Rattle.std.specs.Io.BufRead.{drop_through, first_line, DropsThrough}
use Rattle.std.specs.Io.KnownBytes.{Appends, IsAtEnd}
use Rattle.text.proofs.Writers.{append_none, appends_more}
use Rattle.vectors.specs.Streams.{RowsMoved, line_row, lines_from, rows_of}

-- behind a line less is left
drop_short : (xs : List ℕ) → length (drop_through 10 xs) ≤ length xs
drop_short [] = omega arith
drop_short (x ∷ xs) = at (drop_short xs) (eqb x 10)
  where
    at : length (drop_through 10 xs) ≤ length xs → (b : Bool) → length (cond b xs (drop_through 10 xs)) ≤ length (x ∷ xs)
    at rest true = omega arith
    at rest false = omega (arith, rest)

drop_shorter : (x : ℕ) (xs : List ℕ) → length (drop_through 10 (x ∷ xs)) ≤ length xs
drop_shorter x xs = at (eqb x 10)
  where
    at : (b : Bool) → length (cond b xs (drop_through 10 xs)) ≤ length xs
    at true = omega arith
    at false = drop_short xs

-- more lines than bytes there are none
enough : (n m : ℕ) (bs : List ℕ) → length bs ≤ n → length bs ≤ m → lines_from n bs ≡ lines_from m bs
enough zero zero bs p q = refl
enough zero (suc m) [] p q = refl
enough zero (suc m) (b ∷ bs) p q = absurd (omega (arith, p))
enough (suc n) zero [] p q = refl
enough (suc n) zero (b ∷ bs) p q = absurd (omega (arith, q))
enough (suc n) (suc m) [] p q = refl
enough (suc n) (suc m) (b ∷ bs) p q =
    let short = drop_shorter b bs in
    ap (λ ls. first_line (b ∷ bs) ∷ ls) (enough n m (drop_through 10 (b ∷ bs)) (omega (arith, p, short)) (omega (arith, q, short)))

-- the first line, and the others
rows_first : (bs : List ℕ) → 0 < length bs → rows_of bs ≡ line_row (first_line bs) ++ rows_of (drop_through 10 bs)
rows_first [] some = absurd (omega (arith, some))
rows_first (b ∷ bs) some =
    let rest = drop_through 10 (b ∷ bs) in
    ap (λ ls. line_row (first_line (b ∷ bs)) ++ flat_map line_row ls) (enough (length bs) (length rest) rest (drop_shorter b bs) (omega arith))

-- Of the bytes xs, ys are left: their rows stand behind those that are written and those that wait.
pub record Moved (xs ys : List ℕ) (held held-new : Option (List ℕ)) (rows : List ℕ) : Type 0 where
  pub written : List ℕ
  pub appended : Appends held held-new written
  pub all : rows_of xs ≡ written ++ (rows ++ rows_of ys)

-- the same, where the bytes are known
abbrev pub Progress : Option (List ℕ) → Option (List ℕ) → Option (List ℕ) → Option (List ℕ) → List ℕ → Type 0
Progress left new held held-new rows = IfSome left (λ xs. (ys : List ℕ) × (new ≡ Some ys) × Moved xs ys held held-new rows)

pub begun : (left new held : Option (List ℕ)) (rows : List ℕ) → new ≡ left → rows ≡ [] → Progress left new held held rows
begun None new held rows same none = tt
begun (Some xs) new held rows same none = (xs, same, record { written = []; appended = append_none held; all = sym (ap (λ l. l ++ rows_of xs) none) })

-- one line on
pub goes_on : (left new newer held held-new held-newer : Option (List ℕ)) (line rows more rest : List ℕ) → Progress left new held held-new rows
    → IfSome new (λ xs. (0 < length xs) × (line ≡ first_line xs)) → DropsThrough new newer 10 → more ≡ rows ++ line_row line → RowsMoved held-new held-newer more rest
    → Progress left newer held held-newer rest
goes_on None new newer held held-new held-newer line rows more rest p first drops is moved = tt
goes_on (Some xs) new newer held held-new held-newer line rows more rest (ys, at, m) first drops is (w, appended, behind) =
    let (some, same) = first_at in
    let zs = drop_through 10 ys in
    let tail = rows_of zs in (
      zs,
      drops_at,
      record {
        written = m.written ++ w;
        appended = appends_more held held-new held-newer m.written w m.appended appended;
        all =
            m.all
            ∙ ap (λ l. m.written ++ (rows ++ l)) (rows_first ys some ∙ ap (λ l. line_row l ++ tail) (sym same))
            ∙ ap (λ l. m.written ++ l) (sym (append_assoc rows (line_row line) tail) ∙ ap (λ l. l ++ tail) (sym is ∙ behind) ∙ append_assoc w rest tail)
            ∙ sym (append_assoc m.written w (rest ++ tail));
      },
    )
  where
    first_at : (0 < length ys) × (line ≡ first_line ys)
    first_at = subst (λ o. IfSome o (λ xs. (0 < length xs) × (line ≡ first_line xs))) at first

    drops_at : newer ≡ Some (drop_through 10 ys)
    drops_at = subst (λ o. DropsThrough o newer 10) at drops

-- the end: the rows that wait are written
pub comes_to_end : (left new held held-new held-newer : Option (List ℕ)) (rows : List ℕ) → Progress left new held held-new rows → IsAtEnd new → Appends held-new held-newer rows
    → IfSome left (λ bytes. Appends held held-newer (rows_of bytes))
comes_to_end None new held held-new held-newer rows p end written = tt
comes_to_end (Some xs) new held held-new held-newer rows (ys, at, m) end written =
    let none : ys ≡ [] = subst IsAtEnd at end in
    let all = m.all ∙ ap (λ l. m.written ++ (rows ++ rows_of l)) none ∙ ap (λ l. m.written ++ l) (append-nil rows) in
    subst (Appends held held-newer) (sym all) (appends_more held held-new held-newer m.written rows m.appended written)
