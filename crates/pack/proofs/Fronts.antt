-- A frame that was packed stands at the front of its output, and opens there.
use Rattle.std.proofs.Common.{◌≡◌, ℕ, ◌+◌, ◌-◌, ◌≤◌, List, length, take, drop, Ok, Err, Result, sym, ap, ◌∙◌, arith}
use Rattle.std.proofs.lemmas.List.{drop-take, take_at, take-take}
use Rattle.cipher.specs.Cipher.{Cipher}
use Rattle.fault.specs.declared.Fault.{Fault}
use Rattle.packer.specs.Packing.{frame_length, laid, OpensTo}

pub packed_front : (r : Result (List ℕ) Fault) (n : ℕ) (out after front : List ℕ) → Ok n ≡ frame_length r → after ≡ laid r out → front ≡ take n after → r ≡ Ok front
packed_front (Ok f) n out after front a e t =
    let l : n ≡ length f = cc in
    ap Ok (sym (t ∙ ap (take n) e ∙ take_at f (drop (length f) out) n (sym l)))
packed_front (Err f) n out after front a e t = cc

-- what opens in the output opens in the frame
pub front_opens : (C : Cipher) (key iv contents out front : List ℕ) (n : ℕ) (r : Result (List ℕ) Fault) → Ok n ≡ frame_length r → r ≡ Ok front → 22 ≤ n
    → front ≡ take n out → OpensTo C key iv contents out n → OpensTo C key iv contents front (length front)
front_opens C key iv contents out front n r a p short e o =
    let g : ◌≡◌ {A = Result ℕ Fault} (Ok n) (Ok (length front)) = a ∙ ap frame_length p in
    let l : length front ≡ n = cc in
    let m : n ≡ 20 + (n - 20) = omega arith in
    ap (C.opened key iv) (
    ap (λ k. take (k - 22) (drop 20 front)) l
    ∙ ap (take (n - 22)) (ap (drop 20) e ∙ ap (λ k. drop 20 (take k out)) m ∙ drop-take 20 (n - 20) out)
    ∙ take-take (n - 22) (n - 20) (drop 20 out) (omega arith))
    ∙ o
