-- Bytes that are appended to a vector.
use Rattle.std.specs.Prelude.{◌≡◌, ℕ, ◌+◌, ◌≤◌, List, ◌++◌, vec_items, vec_len, vec_capacity, Vec}

-- There is room for n bytes more.
abbrev pub Room : {Z : Type 0} → Vec ℕ Z → ℕ → Type 0
Room v n = vec_len v + n ≤ vec_capacity v

-- n bytes stand behind the items from before, and the capacity is as it was.
pub record Appended {Z : Type 0} (before after : Vec ℕ Z) (n : ℕ) (bs : List ℕ) : Type 0 where
  pub items : vec_items after ≡ vec_items before ++ bs
  pub len : vec_len after ≡ vec_len before + n
  pub capacity : vec_capacity after ≡ vec_capacity before
