-- The core command is copied to its place, and the frame put around it.
use Rattle.std.proofs.Common.{◌≡◌, true, length, sym, refl, ap, ◌∙◌, arith}
use Rattle.wire.specs.Frame.{frame_size, room}
use Rattle.wire.proofs.Writes.{copied}
use Rattle.wire.proofs.frame.write_frame.Goals as goal

pub returns : goal.returns
returns c =
    let xs = c.args.out.now in
    let core = c.args.core.now in
    let n = length core in
    let h : room n (length xs) ≡ true = sym c.if-not-fits.ensures in
    record {
      count = c.enclose.ensures.count ∙ ap (frame_size n) (omega arith);
      out = c.enclose.ensures.out ∙ copied xs core _ n _ h refl (omega arith) c.copy_from_slice.ensures.after (omega arith);
    }
