-- What a replay of a listing reads and writes, where it is known what a reader has left and a writer holds.
use Rattle.std.specs.Prelude.{◌≡◌, ℕ, ◌-◌, ◌^◌, ◌≤◌, Bool, true, false, List, [], ◌∷◌, length, Some, Option, IfSome}
use Rattle.std.specs.Io.KnownBytes.{Appends}
use Rattle.cipher.specs.Cipher.{Cipher}
use Rattle.rules.specs.Board.{State}
use Rattle.listing.specs.Lines.{whole_lines}
use Rattle.listing.specs.Listing.{Reached, behind_rows, with_lines}

-- the first line was read, or there was none left and all is read
abbrev pub LineRead : Bool → Option (List ℕ) → Option (List ℕ) → List ℕ → Type 0
LineRead true left new line = IfSome left (λ xs. (ys : List ℕ) × (new ≡ Some ys) × (whole_lines xs ≡ line ∷ whole_lines ys))
LineRead false left new line = IfSome left (λ xs. (new ≡ Some []) × (whole_lines xs ≡ []))

-- the first of the rows were written, and the others wait
abbrev pub RowsMoved : Option (List ℕ) → Option (List ℕ) → Reached → Reached → Type 0
RowsMoved held held-new r new = (written : List ℕ) × Appends held held-new written × (r ≡ behind_rows written new)

-- all that was left is read, the rows of all its lines are written, behind those that waited, and the board is the one that they come to;
-- or there were 2 ^ 64 - 1 lines
abbrev pub LinesReplayed : Cipher → Bool → Option (List ℕ) → Option (List ℕ) → Option (List ℕ) → Option (List ℕ) → Reached → State → Type 0
LinesReplayed C true left new held held-new r s =
    IfSome left (λ xs. (new ≡ Some []) × Appends held held-new (with_lines C (whole_lines xs) r).rows × (s ≡ (with_lines C (whole_lines xs) r).state))
LinesReplayed C false left new held held-new r s = IfSome left (λ xs. 2 ^ 64 - 1 ≤ length (whole_lines xs))
