use Rattle.std.proofs.Common.{vec_items, ap, ◌∙◌, rules}
use Rattle.packer.specs.Packing.{packed_data}
use Rattle.pack.specs.Report.{cipher_of, data_packet, framed}
use Rattle.pack.proofs.Given.{given}
use Rattle.pack.proofs.report.data_given.Goals as goal

pub returns : goal.returns
returns c =
    let a = c.in_ok-a.a in
    let frame = c.in_ok-frame.ensures.frame ∙ ap (λ bs. framed (packed_data (cipher_of a.mode) a.key a.iv (data_packet a bs) 304)) c.deref.ensures.value in
    given vec_items c.args.asked c.args.data a c.in_ok-bytes.bytes c.malformed.result c.len.result c.in_ok-frame.frame c.in_ok-a.ensures.cases c.in_ok-bytes.ensures.value (search rules) frame
