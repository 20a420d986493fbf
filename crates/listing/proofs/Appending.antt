-- One piece appended after another.
use Rattle.std.proofs.Common.{◌≡◌, ℕ, ◌+◌, List, [], ◌∷◌, ◌++◌, vec_items, vec_len, vec_capacity, Vec, ap, ◌∙◌, arith}
use Rattle.std.proofs.lemmas.List.{append_assoc}
use Rattle.listing.specs.Appends.{Appended}

-- bytes behind others
pub appended_more : {Z : Type 0} {u v w : Vec ℕ Z} {m n k : ℕ} {xs ys zs : List ℕ} → Appended u v m xs → Appended v w n ys
    → m + n ≡ k → xs ++ ys ≡ zs → Appended u w k zs
appended_more {u = u} {xs = xs} {ys = ys} p q e f = record {
  items = q.items ∙ ap (λ l. l ++ ys) p.items ∙ append_assoc (vec_items u) xs ys ∙ ap (λ l. vec_items u ++ l) f;
  len = omega arith;
  capacity = q.capacity ∙ p.capacity;
}

-- one byte
pub appended_byte : {Z : Type 0} {v w : Vec ℕ Z} {b : ℕ} → vec_items w ≡ vec_items v ++ b ∷ [] → vec_len w ≡ vec_len v + 1 → vec_capacity w ≡ vec_capacity v
    → Appended v w 1 (b ∷ [])
appended_byte i l c = record { items = i; len = l; capacity = c }

-- a vector by another name
pub appended_at : {Z : Type 0} {u v w : Vec ℕ Z} {n : ℕ} {xs : List ℕ} → Appended u v n xs → w ≡ v → Appended u w n xs
appended_at p e = rw e p
