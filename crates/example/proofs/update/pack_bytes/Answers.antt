use Rattle.std.proofs.Common.{ℕ, List, ◌∷◌, ◌++◌, ap, ◌∙◌, arith}
use Rattle.buffer.proofs.Fronts.{front_whole}
use Rattle.cipher.specs.Aes.{aes}
use Rattle.cipher.specs.Ccm.{ccm}
use Rattle.packer.specs.Packets.{address_bytes, word}
use Rattle.packer.specs.Packing.{packet}
use Rattle.wire.specs.Frame.{frame}
use Rattle.example.specs.Parts.{part_iv}
use Rattle.example.proofs.Packing.{front, handed, packs}
use Rattle.example.proofs.update.pack_bytes.Goals as goal

pub returns-clause-made : goal.returns-clause-made
returns-clause-made c =
    let p = handed c.args.version c.from.result c.from-2.result c.address_of.result c.args.bytes in
    let packed = packs c.args.key.now c.iv_of-iv.result c.args.version c.args.number p c.iv_of-iv.ensures c.requires.some c.requires.most c.address_of.ensures.low in
    let e = c.in_ok-length.ensures in
    let core : ℕ → ℕ → ℕ → List ℕ = λ x y z. frame (packet (ccm aes) 0x30 c.args.key.now (part_iv c.args.version c.args.number) (c.args.version ∷ (word x ++ (word y ++ (word 0 ++ (address_bytes z ++ c.args.bytes.now)))))) in
    c.front.ensures
    ∙ front_whole 304 c.in_ok-length.length c.pack_data.new.out (omega arith)
    ∙ front _ _ _ _ _ packed e.answer e.out
    ∙ ap (λ x. core x c.from-2.result c.address_of.result) c.from.ensures
    ∙ ap (λ y. core c.args.number y c.address_of.result) c.from-2.ensures
    ∙ ap (core c.args.number 3) c.address_of.ensures.value
