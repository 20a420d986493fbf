use Rattle.std.proofs.Common.{sym, ap, ◌∙◌, arith, rules}
use Rattle.buffer.proofs.Fronts.{front_whole}
use Rattle.packer.specs.Packets.{data_contents}
use Rattle.pack.specs.Report.{data_packet, framed}
use Rattle.pack.proofs.Fronts.{front_opens, packed_front}
use Rattle.pack.proofs.Lengths.{data_length}
use Rattle.pack.proofs.frames.data_frame.Goals as goal

pub returns-clause-frame : goal.returns-clause-frame
returns-clause-frame g c =
    let n = c.in_ok-length.length in
    let e = c.in_ok-length.ensures in
    sym (ap framed (packed_front _ n _ c.pack_data.new.out c.of.result e.answer e.out (c.of.ensures ∙ c.front.ensures ∙ front_whole 304 n c.pack_data.new.out (omega arith))))

pub returns-clause-opens : goal.returns-clause-opens
returns-clause-opens g c =
    let n = c.in_ok-length.length in
    let a = c.args.a.now in
    let out = c.pack_data.new.out in
    let e = c.in_ok-length.ensures in
    let front = c.of.ensures ∙ c.front.ensures ∙ front_whole 304 n out (omega arith) in
    front_opens g.C.PacketCipher.cipher a.key a.iv (data_contents (data_packet a c.args.bytes.now)) out c.of.result n _ e.answer (packed_front _ n _ out c.of.result e.answer e.out front) (data_length g.C.PacketCipher.cipher a.key a.iv (search rules) n (data_packet a c.args.bytes.now) e.answer) front e.back
