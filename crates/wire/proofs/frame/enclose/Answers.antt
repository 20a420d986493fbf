-- The writes make the frame of the core command that stands in the buffer.
use Rattle.std.proofs.Common.{◌≡◌, ◌+◌, ◌-◌, ◌/◌, ◌%◌, [], ◌∷◌, true, length, take, drop, sym, refl, ap, ◌∙◌, arith}
use Rattle.std.proofs.lemmas.Bool.{cond-true}
use Rattle.wire.specs.Checksum.{crc}
use Rattle.wire.specs.Frame.{room}
use Rattle.wire.proofs.Frames.{room_holds}
use Rattle.wire.proofs.Writes.{enclosed, low_first, room_small}
use Rattle.wire.proofs.frame.enclose.Goals as goal

pub returns-clause-out : goal.returns-clause-out
returns-clause-out c =
    let xs = c.args.out.now in
    let n = c.args.n in
    let h : room n (length xs) ≡ true = sym c.if-not-fits.ensures in
    let z : (3 + n) - 3 ≡ n = omega arith in
    let s : c.checksum-sum.result ≡ crc (take n (drop 3 xs)) = c.checksum-sum.ensures.value ∙ ap (λ k. crc (take k (drop 3 xs))) z in
    let f = room_holds n (length xs) h in
    let p = c.copy_from_slice.ensures.after ∙ c.to_le_bytes.ensures ∙ low_first n (omega (arith, room_small n (length xs) h)) in
    let q = c.copy_from_slice-2.ensures.after ∙ c.to_le_bytes-2.ensures ∙ low_first c.checksum-sum.result (omega arith)
    ∙ ap (λ m. (m % 0x100) ∷ (m / 0x100) ∷ []) s in
    enclosed xs _ _ _ n _ f refl p q (omega arith) ∙ sym (cond-true _ _ _ h)
