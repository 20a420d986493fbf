use Rattle.std.proofs.Common.{◌≡◌, ℕ, ◌+◌, ◌-◌, true, ◌&&◌, leb, List, length, refl, ◌∙◌, ap₂, arith}
use borrow.Rule.Slice.PartMut.{put_mid}
use Rattle.std.proofs.lemmas.Bool.{and_from, le-leb}
use Rattle.cipher.specs.Cipher.{Usable}
use Rattle.packer.specs.Packets.{data_header, data_contents}
use Rattle.packer.proofs.Packs.{formed, data_passes, all_packed}
use Rattle.packer.proofs.Places.{put_next}
use Rattle.packer.proofs.pack.pack_data.Goals as goal

pub returns : goal.returns
returns g c =
    let C = g.C.PacketCipher.cipher in
    let L = g.met.C.PacketCipher.lawful in
    let p = c.args.packet.now in
    let out = c.args.out.now in
    let key = c.args.key.now in
    let iv = c.args.iv.now in
    let n = length p.bytes.now in
    let a : leb 1 n && leb n 256 ≡ true = and_from _ _ (le-leb 1 n (omega arith)) (le-leb n 256 (omega arith)) in
    let b : leb p.address 0xFFFFFF ≡ true = le-leb _ _ (omega arith) in
    let d : leb (48 + n) (length out) ≡ true = le-leb _ _ (omega arith) in
    let w = c.in_ok-check_iv.ensures in
    let passes = data_passes C key iv p (length out) a b w d in
    let u : Usable C key iv = (c.told-key, c.told-iv, formed C iv w) in
    let k : 30 + n - 30 ≡ n = omega arith in
    let ey =
    ap₂ (λ (x : List ℕ) (y : List ℕ). put_mid 30 (30 + n - 30) (put_mid 20 10 out x) y) (c.copy_from_slice.ensures.after ∙ c.header.ensures) c.copy_from_slice-2.ensures.after
    ∙ put_next 20 30 (30 + n - 30) out (data_header p) p.bytes.now refl k (omega arith) in
    let packed = all_packed C L 0x30 (10 + n) key iv (data_contents p) out _ u (omega arith) (omega arith) (omega arith) ey _ c.sealed_frame.new.out c.sealed_frame.result passes c.sealed_frame.ensures.out c.sealed_frame.ensures.answer in
    record { answer = packed.0; out = packed.1; back = packed.2 }
