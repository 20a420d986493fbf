use Rattle.std.proofs.Common.{sym, ap, ◌∙◌, arith, rules}
use Rattle.buffer.proofs.Fronts.{front_whole}
use Rattle.packer.specs.Packets.{key_contents}
use Rattle.pack.specs.Report.{framed, key_packet}
use Rattle.pack.proofs.Fronts.{front_opens, packed_front}
use Rattle.pack.proofs.Lengths.{key_length}
use Rattle.pack.proofs.frames.key_frame.Goals as goal

pub returns-clause-frame : goal.returns-clause-frame
returns-clause-frame g c =
    let n = c.in_ok-length.length in
    let e = c.in_ok-length.ensures in
    sym (ap framed (packed_front _ n _ c.pack_key.new.out c.of.result e.answer e.out (c.of.ensures ∙ c.front.ensures ∙ front_whole 304 n c.pack_key.new.out (omega arith))))

pub returns-clause-opens : goal.returns-clause-opens
returns-clause-opens g c =
    let n = c.in_ok-length.length in
    let a = c.args.a.now in
    let out = c.pack_key.new.out in
    let e = c.in_ok-length.ensures in
    let front = c.of.ensures ∙ c.front.ensures ∙ front_whole 304 n out (omega arith) in
    front_opens g.C.PacketCipher.cipher a.kek a.iv (key_contents (key_packet a)) out c.of.result n _ e.answer (packed_front _ n _ out c.of.result e.answer e.out front) (key_length g.C.PacketCipher.cipher a.kek a.iv (search rules) n (key_packet a) e.answer) front e.back
