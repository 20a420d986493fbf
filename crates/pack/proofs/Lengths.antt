-- The length of a frame that was packed.
use Rattle.std.proofs.Common.{◌≡◌, ℕ, ◌+◌, ◌≤◌, ◌&&◌, List, length, Ok, Err, Result, nat_le, refl, ◌∙◌, arith, length-append}
use Rattle.cipher.specs.Cipher.{Cipher, iv_checked}
use Rattle.fault.specs.Checks.{check, then}
use Rattle.fault.specs.declared.Fault.{Fault}
use Rattle.fault.specs.declared.Fault.TheVariants.{DataCount, OutsideMap, OutputShort}
use Rattle.wire.specs.Frame.{frame}
use Rattle.wire.proofs.Frames.{length_frame}
use Rattle.packer.specs.Packets.{data_contents, key_contents}
use Rattle.packer.specs.Packing.{frame_length, packet, packed_data, packed_key}
use Rattle.packer.specs.declared.packet.DataPacket.{DataPacket}
use Rattle.packer.specs.declared.packet.KeyPacket.{KeyPacket}

-- a check that passed, and what follows it
passed : {X : Type 0} (r : Result (Unit {0}) Fault) (s : Result X Fault) (n : ℕ) (f : Result X Fault → Result ℕ Fault) → ((e : Fault) → f (Err e) ≡ Err e) → Ok n ≡ f (then r s) → Ok n ≡ f s
passed (Ok tt) s n f k e = e
passed (Err g) s n f k e = let h : ◌≡◌ {A = Result ℕ Fault} (Ok n) (Err g) = e ∙ k g in cc

-- the frame of a packet has at least its header, the command byte, the IV and the checksum
long_enough : (C : Cipher) (command : ℕ) (key iv contents : List ℕ) (n : ℕ) → length iv ≡ 16 → Ok n ≡ frame_length (Ok (frame (packet C command key iv contents))) → 22 ≤ n
long_enough C command key iv contents n l e =
    let s : n ≡ length (frame (packet C command key iv contents)) = cc in
    let m = length-append iv (C.seal key iv contents) in
    let k = length_frame (packet C command key iv contents) in
    omega (arith, s, k, m, l)

module _ (C : Cipher) (key iv : List ℕ) (li : length iv ≡ 16) (n : ℕ) where
  pub data_length : (p : DataPacket) → Ok n ≡ frame_length (packed_data C key iv p 304) → 22 ≤ n
  data_length p e =
      let a = passed (check (nat_le 1 (length p.bytes.now) && nat_le (length p.bytes.now) 256) DataCount) _ n frame_length (λ f. refl) e in
      let b = passed (check (nat_le p.address 0xFFFFFF) OutsideMap) _ n frame_length (λ f. refl) a in
      let c = passed (iv_checked C iv) _ n frame_length (λ f. refl) b in
      let d = passed (check (nat_le (48 + length p.bytes.now) 304) OutputShort) _ n frame_length (λ f. refl) c in
      long_enough C 0x30 key iv (data_contents p) n li d

  pub key_length : (p : KeyPacket) → Ok n ≡ frame_length (packed_key C key iv p 304) → 22 ≤ n
  key_length p e = long_enough C 0x31 key iv (key_contents p) n li (passed (iv_checked C iv) _ n frame_length (λ f. refl) e)
