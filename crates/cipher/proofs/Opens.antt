-- What opening leaves in its buffer.
use Rattle.std.proofs.Common.{◌≡◌, ℕ, ◌-◌, Bool, true, cond, List, [], ◌++◌, length, take, drop, replicate, Some, None, sym, ap, ◌∙◌, ap₂, arith, length-append, length-drop}
use borrow.Rule.Slice.PartMut.{put_mid}
use Rattle.std.proofs.lemmas.List.{take_at, drop_all, append-nil}
use Rattle.cipher.specs.Sealing.{xor_from, same, contents, body_sized, opened}
use Rattle.cipher.specs.Schemes.{opened_by}

-- a body of the right size: what its parts, the contents xs under the key stream and their tag t decide
module _ (s : ℕ → ℕ) (tag : List ℕ → List ℕ) (body covered given xs t : List ℕ) (sized : body_sized body ≡ true)
    (ec : covered ≡ take (length body - 16) body) (eg : given ≡ drop (length body - 16) body) (ex : xs ≡ xor_from s 0 covered) (et : t ≡ tag xs) where
  pub decided : (q : Bool) → same t given ≡ q → opened s tag body ≡ cond q (Some xs) None
  decided q h =
      let f : contents s body ≡ xs = sym (ex ∙ ap (xor_from s 0) ec) in
      opened_by s tag body q sized (ap₂ (λ x g. same (tag x) g) f (sym eg) ∙ ap (λ g. same g given) (sym et) ∙ h) ∙ ap (λ x. cond q (Some x) None) f

-- the contents at the front of the work buffer, and zeros behind them
pub filled : (work xs z : List ℕ) (n m : ℕ) → length work ≡ 266 → length xs ≡ n → z ≡ replicate (266 - n) 0 → m ≡ 266 - n
    → put_mid n m (xs ++ drop n work) z ≡ xs ++ replicate (266 - length xs) 0
filled work xs z n m l e ez em =
    let t : take n (xs ++ drop n work) ≡ xs = take_at xs (drop n work) n e in
    let d : drop m (drop n (xs ++ drop n work)) ≡ [] =
    drop_all m (drop n (xs ++ drop n work)) (omega (arith, length-drop n (xs ++ drop n work), length-append xs (drop n work), length-drop n work)) in
    rw (t, d, e, ez) (ap (λ u. xs ++ u) (append-nil (replicate (266 - n) 0)))
