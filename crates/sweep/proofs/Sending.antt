-- The calls that send a frame, behind those that were there.
use Rattle.std.proofs.Common.{◌≡◌, ℕ, suc, ◌+◌, ◌-◌, ◌≤◌, List, ◌++◌, sym, ap, ◌∙◌, arith}
use Rattle.std.proofs.lemmas.List.{append-nil, append_assoc}
use Rattle.example.specs.Frames.{calls}
use Rattle.example.specs.Parts.{part_bytes, part_packet}
use Rattle.rules.specs.declared.Event.{Event}
use Rattle.sweep.specs.Plans.{part_calls, parts_calls}
use Rattle.wire.specs.Frame.{frame}

-- of no part
pub parts_none : (key : List ℕ) (xs : List Event) → xs ≡ xs ++ parts_calls key 0
unfolding parts_calls
parts_none key xs = sym (append-nil xs)

-- of part n, behind the parts before it
pub parts_more : (key bs : List ℕ) (n : ℕ) (xs ys zs : List Event) → 1 ≤ n → ys ≡ xs ++ parts_calls key (n - 1) → zs ≡ ys ++ calls bs
    → bs ≡ frame (part_packet key 2 n (part_bytes 2 n)) → zs ≡ xs ++ parts_calls key ((n + 1) - 1)
unfolding part_calls parts_calls
parts_more key bs n xs ys zs h e k b =
    let z : n ≡ suc (n - 1) = omega arith in
    let w : (n + 1) - 1 ≡ suc (n - 1) = omega arith in
    k ∙ ap (λ x. ys ++ calls x) b ∙ ap (λ x. x ++ part_calls key n) e
    ∙ append_assoc xs (parts_calls key (n - 1)) (part_calls key n)
    ∙ ap (λ m. xs ++ (parts_calls key (n - 1) ++ part_calls key m)) z
    ∙ ap (λ m. xs ++ parts_calls key m) (sym w)
