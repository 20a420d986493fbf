-- What a work buffer says of the contents that were opened into it.
use Rattle.std.proofs.Common.{◌≡◌, ℕ, ◌-◌, Bool, true, false, cond, List, ◌++◌, length, take, drop, replicate, Some, None, Ok, Option, Result, sym, ap, ◌∙◌}
use Rattle.std.proofs.lemmas.List.{take_at, take-append-drop}
use Rattle.std.proofs.Math.Seq.{drop-append_seam, take-append_seam}
use Rattle.std.specs.Bool.{Decides}
use Rattle.cipher.specs.Cipher.{opening, yielded}
use Rattle.fault.specs.Checks.{check, then}
use Rattle.fault.specs.declared.Fault.{Fault}
use Rattle.pack.specs.Report.{contents_or_none}

-- the contents are at the front of the buffer
pub reopened_is : (b : Bool) (f : Fault) (o : Option (List ℕ)) (n : ℕ) (work : List ℕ) → Ok n ≡ then (check b f) (opening o) → work ≡ yielded (cond b o None)
    → then (check b f) (contents_or_none o) ≡ Ok (take n work)
reopened_is false f o n work e w = cc
reopened_is true f None n work e w = cc
reopened_is true f (Some c) n work e w =
    let l : n ≡ length c = cc in
    ap Ok (sym (take_at c (replicate (266 - length c) 0) n (sym l)) ∙ ap (take n) (sym w))

same_ok : {X : Type 0} (x y : X) (r : Result X Fault) → r ≡ Ok x → r ≡ Ok y → x ≡ y
same_ok {X = X} x y r e f = let g : ◌≡◌ {A = Result X Fault} (Ok x) (Ok y) = sym e ∙ f in cc

-- contents that are two parts, one behind the other
module _ (r : Result (List ℕ) Fault) (xs head rest : List ℕ) (e : r ≡ Ok xs) where
  pub two_parts : (tail : List ℕ) (b : Bool) → take (length head) xs ≡ head → tail ≡ drop (length head) xs → Decides b (tail ≡ rest) → Decides b (r ≡ Ok (head ++ rest))
  two_parts tail b h t d = (
    λ y. e ∙ ap Ok (sym (take-append-drop (length head) xs) ∙ ap (λ z. z ++ drop (length head) xs) h ∙ ap (λ z. head ++ z) (sym t ∙ d.0 y)),
    λ y. d.1 (t ∙ ap (drop (length head)) (same_ok xs (head ++ rest) r e y) ∙ drop-append_seam head rest),
  )

  pub other_front : r ≡ Ok (head ++ rest) → take (length head) xs ≡ head
  other_front y = ap (take (length head)) (same_ok xs (head ++ rest) r e y) ∙ take-append_seam head rest
