-- What a writer holds, where that is known, after more bytes.
use Rattle.std.proofs.Common.{ℕ, List, [], ◌++◌, None, Some, Option, sym, ap, ◌∙◌}
use Rattle.std.proofs.lemmas.List.{append_assoc, append-nil}
use Rattle.std.specs.Io.KnownBytes.{Appends}

-- no byte
pub append_none : (held : Option (List ℕ)) → Appends held held []
append_none None = tt
append_none (Some xs) = sym (append-nil xs)

-- some bytes, and then more
pub appends_more : (a b c : Option (List ℕ)) (xs ys : List ℕ) → Appends a b xs → Appends b c ys → Appends a c (xs ++ ys)
appends_more None b c xs ys p q = tt
appends_more (Some a) None c xs ys p q = absurd p
appends_more (Some a) (Some b) None xs ys p q = absurd q
appends_more (Some a) (Some b) (Some c) xs ys p q = q ∙ ap (λ l. l ++ ys) p ∙ append_assoc a xs ys
