-- What stands at the front of a buffer, taken out of it.
use Rattle.std.proofs.Common.{◌≡◌, ℕ, ◌+◌, ◌-◌, ◌≤◌, Bool, true, false, cond, List, ◌++◌, length, take, drop, replicate, Some, None, Ok, Err, Option, Result, refl, ap, ◌∙◌, arith, length-append}
use Rattle.std.proofs.lemmas.List.{append_assoc, length-take-le, take-take, take_all, take_at}
use Rattle.fault.specs.Checks.{check, then}
use Rattle.fault.specs.declared.Fault.{Fault}
use Rattle.cipher.specs.Cipher.{opening, yielded}
use Rattle.packer.specs.Packing.{frame_length, laid}
use Rattle.vectors.specs.Answers.{contents_or_none}

-- bytes that stand before others
pub front : (f xs : List ℕ) (n : ℕ) → n ≡ length f → n ≤ 1024 → take 1024 (take (n - 0) (f ++ xs)) ≡ f
front f xs n e h =
    let l : length f ≡ n - 0 = omega arith in
    ap (take 1024) (take_at f xs (n - 0) l) ∙ take_all 1024 f (omega arith)

-- contents at the front of what they are sealed in, without the 16 bytes for the tag
pub contents_front : (contents copied more : List ℕ) → copied ≡ contents → length more ≡ 282 - length contents → length contents ≤ 266
    → take (length (take (length contents + 16 - 0) (copied ++ more)) - 16) (take (length contents + 16 - 0) (copied ++ more)) ≡ contents
contents_front contents copied more e l h =
    let k : ℕ = length contents + 16 - 0 in
    let all : List ℕ = contents ++ more in
    let a : length all ≡ length contents + length more = length-append contents more in
    let f : k ≤ length all = omega (arith, a, l, h) in
    let m : length (take k all) - 16 ≡ length contents = ap (λ x. x - 16) (length-take-le k all f) ∙ omega arith in
    ap (λ x. take (length (take k (x ++ more)) - 16) (take k (x ++ more))) e
    ∙ ap (λ x. take x (take k all)) m
    ∙ take-take (length contents) k all (omega arith)
    ∙ take_at contents more (length contents) refl

-- the contents that were opened, at the front of the work buffer
pub opened_front : (b : Bool) (f : Fault) (o : Option (List ℕ)) (n : ℕ) (work : List ℕ) → Ok n ≡ then (check b f) (opening o) → work ≡ yielded (cond b o None)
    → length work ≤ 1024 → Ok (take 1024 (take (n - 0) work)) ≡ then (check b f) (contents_or_none o)
opened_front false f o n work e w h = cc
opened_front true f None n work e w h = cc
opened_front true f (Some c) n work e w h =
    let l : n ≡ length c = cc in
    let zeros : List ℕ = replicate (266 - length c) 0 in
    let m : length work ≡ length c + length zeros = ap length w ∙ length-append c zeros in
    let k : n ≤ 1024 = omega (arith, l, m, h) in
    ap (λ x. Ok (take 1024 (take (n - 0) x))) w ∙ ap Ok (front c zeros n l k)

-- the frame that was packed, at the front of the output
pub packed_front : (r : Result (List ℕ) Fault) (n : ℕ) (xs out rest : List ℕ) → Ok n ≡ frame_length r → out ≡ laid r xs → length out ≤ 1024
    → Ok (take 1024 (take (n - 0) (out ++ rest))) ≡ r
packed_front (Err f) n xs out rest e w h = cc
packed_front (Ok f) n xs out rest e w h =
    let l : n ≡ length f = cc in
    let more : List ℕ = drop (length f) xs in
    let m : length out ≡ length f + length more = ap length w ∙ length-append f more in
    let k : n ≤ 1024 = omega (arith, l, m, h) in
    ap (λ x. Ok (take 1024 (take (n - 0) x))) (ap (λ x. x ++ rest) w ∙ append_assoc f more rest) ∙ ap Ok (front f (more ++ rest) n l k)
