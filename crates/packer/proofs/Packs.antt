-- A packet in the middle of an output, and the frame around it.
use Rattle.std.proofs.Common.{◌≡◌, ℕ, ◌+◌, ◌-◌, ◌/◌, ◌%◌, ◌≤◌, Bool, true, false, cond, ◌&&◌, leb, List, [], ◌∷◌, ◌++◌, length, take, drop, set, IfOk, Ok, Err, Result, sym, refl, ap, ◌∙◌, subst, ap₂, arith, length-append, length-drop, length-take}
use borrow.Rule.Slice.PartMut.{put_mid}
use Rattle.std.proofs.lemmas.List.{append_assoc, drop_at, take_at, take-take}
use Rattle.std.proofs.lemmas.Slice.{drop-put_mid}
use Rattle.std.proofs.lemmas.Bool.{and_from, cond-true, le-leb}
use Rattle.fault.specs.declared.Fault.{Fault}
use Rattle.fault.specs.declared.Fault.TheVariants.{BadIv}
use Rattle.cipher.specs.Cipher.{Cipher, Lawful, Usable, iv_checked}
use Rattle.wire.specs.Checksum.{crc}
use Rattle.wire.specs.Frame.{frame, framed, over, room}
use Rattle.wire.proofs.Frames.{length_frame}
use Rattle.packer.specs.Packets.{data_contents, key_contents}
use Rattle.packer.specs.Packing.{frame_length, laid, packet, packed_data, packed_key, OpensTo}
use Rattle.packer.specs.declared.packet.DataPacket.{DataPacket}
use Rattle.packer.specs.declared.packet.KeyPacket.{KeyPacket}
use Rattle.packer.proofs.Places.{put, put_one, put_next, put_at, over_put, length_put}

module _ (out iv : List ℕ) (command n : ℕ) (li : length iv ≡ 16) (high : n ≤ 266) (fits : 38 + n ≤ length out) where
  -- the output before the contents are sealed
  abbrev before : List ℕ
  before = put_mid 4 16 (set out 3 command) iv

  before_is : before ≡ put 3 out (command ∷ iv)
  before_is =
      ap (λ x. put_mid 4 16 x iv) (put_one out 3 command (omega arith)) ∙ put_next 3 4 16 out (command ∷ []) iv refl (sym li) (omega arith)

  -- the contents, where the packet is sealed
  pub inside : (k : ℕ) → k ≡ 16 + n → take (length (take k (drop 20 before)) - 16) (take k (drop 20 before)) ≡ take n (drop 20 out)
  inside k e =
      let d : drop 20 before ≡ drop 20 out = ap (drop 20) before_is ∙ drop-put_mid 3 (length (command ∷ iv)) out (command ∷ iv) 20 (omega arith) (omega arith) refl in
      let l : length (take k (drop 20 out)) - 16 ≡ n = simp (length-take, length-drop) (omega arith) in
      ap (λ x. take (length (take k x) - 16) (take k x)) d ∙ ap (λ m. take m (take k (drop 20 out))) l ∙ take-take n k (drop 20 out) (omega arith)

  module _ (body after : List ℕ) (k : ℕ) (ek : k ≡ 16 + n) (lb : length body ≡ 16 + n) (ea : after ≡ put_mid 20 k before body) where
    abbrev core : List ℕ
    core = command ∷ (iv ++ body)

    long : length core ≡ 33 + n
    long = simp length-append (omega arith)

    after_is : after ≡ put 3 out core
    after_is =
        ea ∙ ap (λ x. put_mid 20 k x body) before_is
        ∙ put_next 3 20 k out (command ∷ iv) body (omega arith) (omega arith) (omega arith)

    pub roomy : room (33 + n) (length after) ≡ true
    roomy =
        let l : length after ≡ length out = ap length after_is ∙ length_put 3 out core (omega (arith, long)) in
        and_from _ _ (le-leb 1 (33 + n) (omega arith)) (and_from _ _ (le-leb (33 + n) 299 (omega arith)) (le-leb (33 + n + 5) (length after) (omega arith)))

    pub enclosed : framed (33 + n) (take (33 + n) (drop 3 after)) after ≡ over (frame core) out
    enclosed =
        let f = length_frame core in
        let c : take (33 + n) (drop 3 after) ≡ core = ap (λ x. take (33 + n) (drop 3 x)) after_is ∙ put_at 3 (33 + n) out core (sym long) (omega arith) in
        cond-true _ _ _ roomy ∙ ap₂ (λ x y. over (frame x) y) c after_is ∙ over_put (frame core) out core 3 (omega (arith, long)) (omega arith)

-- contents that were laid at place 20, of a lawful cipher
module _ (C : Cipher) (L : Lawful C) (command m : ℕ) (key iv contents xs ys : List ℕ) (u : Usable C key iv)
    (lc : length contents ≡ m) (high : m ≤ 266) (fits : 38 + m ≤ length xs) (ey : ys ≡ put 20 xs contents) where
  length_packed : length (frame (packet C command key iv contents)) ≡ 38 + m
  length_packed =
      let s : length (C.seal key iv contents) ≡ 16 + m = L.longer key iv contents u (omega arith) ∙ omega arith in
      let i : length (iv ++ C.seal key iv contents) ≡ 32 + m = length-append iv (C.seal key iv contents) ∙ omega (arith, u.1) in
      length_frame (packet C command key iv contents) ∙ omega arith

  over_packed : over (frame (packet C command key iv (take m (drop 20 ys)))) ys ≡ over (frame (packet C command key iv contents)) xs
  over_packed =
      let f = length_packed in
      let c : take m (drop 20 ys) ≡ contents = ap (λ x. take m (drop 20 x)) ey ∙ put_at 20 m xs contents (sym lc) (omega arith) in
      ap₂ (λ x y. over (frame (packet C command key iv x)) y) c ey ∙ over_put (frame (packet C command key iv contents)) xs contents 20 (omega arith) (omega arith)

  -- what was packed opens again
  opens_back : (out : List ℕ) (r : Result ℕ Fault) → out ≡ over (frame (packet C command key iv contents)) xs → r ≡ Ok (38 + m)
      → IfOk r (OpensTo C key iv contents out)
  unfolding frame
  opens_back out r eo er =
      let body = C.seal key iv contents in
      let core = packet C command key iv contents in
      let rest = drop (length (frame core)) xs in
      let sums = (crc core % 0x100) ∷ (crc core / 0x100) ∷ [] in
      let lb : length body ≡ 38 + m - 22 = L.longer key iv contents u (omega arith) ∙ omega arith in
      let a : drop 16 (((iv ++ body) ++ sums) ++ rest) ≡ (body ++ sums) ++ rest =
      ap (drop 16) (ap (λ x. x ++ rest) (append_assoc iv body sums) ∙ append_assoc iv (body ++ sums) rest) ∙ drop_at iv ((body ++ sums) ++ rest) 16 u.1 in
      let d : drop 20 out ≡ body ++ (sums ++ rest) = ap (drop 20) eo ∙ a ∙ append_assoc body sums rest in
      let b : take (38 + m - 22) (drop 20 out) ≡ body = ap (take (38 + m - 22)) d ∙ take_at body (sums ++ rest) (38 + m - 22) lb in
      subst (λ (x : Result ℕ Fault). IfOk x (OpensTo C key iv contents out)) (sym er) (ap (C.opened key iv) b ∙ L.complete key iv contents u (omega arith))

  -- what packing promises, where every check passes
  pub all_packed : (packed : Result (List ℕ) Fault) (out : List ℕ) (r : Result ℕ Fault) → packed ≡ Ok (frame (packet C command key iv contents))
      → out ≡ over (frame (packet C command key iv (take m (drop 20 ys)))) ys → r ≡ Ok (38 + m)
      → (r ≡ frame_length packed) × (out ≡ laid packed xs) × IfOk r (OpensTo C key iv contents out)
  all_packed packed out r passes eo er =
      let over_xs = eo ∙ over_packed in (
        er ∙ ap Ok (sym length_packed) ∙ sym (ap frame_length passes),
        over_xs ∙ sym (ap (λ p. laid p xs) passes),
        opens_back out r over_xs er,
      )

-- an IV that the check let pass
formed_by : (t : Bool) (f : Fault) → ◌≡◌ {A = Result (Unit {0}) Fault} (Ok tt) (cond t (Ok tt) (Err f)) → t ≡ true
formed_by true f e = refl
formed_by false f e = cc

pub formed : (C : Cipher) (iv : List ℕ) → Ok tt ≡ iv_checked C iv → C.well_formed iv ≡ true
formed C iv e = formed_by (C.well_formed iv) (BadIv (C.first_wrong iv)) e

-- where every check passes
pub data_passes : (C : Cipher) (key iv : List ℕ) (p : DataPacket) (room : ℕ) → leb 1 (length p.bytes.now) && leb (length p.bytes.now) 256 ≡ true
    → leb p.address 0xFFFFFF ≡ true → Ok tt ≡ iv_checked C iv → leb (48 + length p.bytes.now) room ≡ true
    → packed_data C key iv p room ≡ Ok (frame (packet C 0x30 key iv (data_contents p)))
data_passes C key iv p room a b w d = rw (a, b, sym w, d)

pub key_passes : (C : Cipher) (key iv : List ℕ) (p : KeyPacket) (room : ℕ) → Ok tt ≡ iv_checked C iv → leb 56 room ≡ true
    → packed_key C key iv p room ≡ Ok (frame (packet C 0x31 key iv (key_contents p)))
key_passes C key iv p room w d = rw (sym w, d)
