-- Of the held version only an unfinished update may open again: version 7.
use Rattle.std.proofs.Common.{◌≡◌, ℕ, suc, ◌+◌, ◌*◌, ◌/◌, ◌%◌, Bool, true, false, cond, ◌&&◌, ◌||◌, eqb, ltb, leb, List, [], ◌∷◌, ◌++◌, map, length, Some, Ok, Err, Option, refl, sym, ap, ◌∙◌, arith, lit<}
use Rattle.std.proofs.Math.Path.{ap₂}
use Rattle.std.proofs.lemmas.List.{append_assoc, take_at, drop_at, length-append}
use Rattle.std.proofs.lemmas.Bool.{cond-true, cond-false, eq-eqb, ne_eqb}
use Rattle.fault.specs.Checks.{check, then}
use Rattle.fault.specs.declared.Fault.TheVariants.{PacketLength, BadIv, MayNotOpen}
use Rattle.memory.specs.declared.supply.Supply.TheVariants.{NoEnd}
use Rattle.memory.specs.Meaning.{Contents}
use Rattle.memory.specs.Areas.{range_checked, first_outside, place, all_areas}
use Rattle.wire.specs.Checksum.{crc}
use Rattle.cipher.specs.Cipher.{Cipher, Lawful, iv_checked}
use Rattle.rules.specs.declared.Event.{Event}
use Rattle.rules.specs.declared.Session.TheVariants.{Closed}
use Rattle.rules.specs.Memory.{data_key}
use Rattle.rules.specs.Packets.{iv_of, body_of}
use Rattle.rules.specs.Commands.{message}
use Rattle.rules.specs.Receiver.{Receiver, Read, read}
use Rattle.rules.specs.Receiver.Receiver.{idle, length_low, length_high, body, check_low, check_high}
use Rattle.rules.specs.Receiver.Read.{waits, good}
use Rattle.rules.specs.Board.{State, Packet, Deed, Answer, sends, refuses, call, step, run, decide, respond, enact, on_data, on_opened, judge_data, judge_fields, may_open, fields, word, heard, heard_read}
use Rattle.rules.specs.Words.{Each, version}
use Rattle.rules.specs.Arrival.{InByte}
use Rattle.rules.specs.Promises.{Given}
use Rattle.rules.proofs.Examples.{seven_by_the_fields}
use Rattle.rules.specs.Examples.{contents_seven, SevenArrives, ByTheMark, seven_held, gives, SevenAt, SameVersion}
use Rattle.rules.proofs.Bytes.{bytes_from, frame_front, front_bytes, high_byte}
use Rattle.rules.proofs.Receipt.{each_snoc, long_snoc}
use Rattle.rules.proofs.Steps.{each_append}
use Rattle.rules.proofs.Deeds.{data_decides}
use Rattle.rules.proofs.Twins.{carried}

abbrev seven : Packet
seven = record { ver = 7; pn = 1; np = 1; address = 0x4400; bytes = 0 ∷ [] }

seven_fields : fields contents_seven ≡ seven
unfolding fields word
seven_fields = refl

opens_or_not : (b : Bool) → then (check b (MayNotOpen 1)) (then (range_checked 0x4400 1) (Ok seven)) ≡ cond b (Ok seven) (Err (MayNotOpen 1))
unfolding first_outside place all_areas
opens_or_not true = refl
opens_or_not false = refl

seven_judged : (s : State) → version s ≡ 7 → judge_fields s (fields contents_seven) ≡ cond s.contents.held.unfinished (Ok seven) (Err (MayNotOpen 1))
unfolding judge_fields may_open
seven_judged s v =
    ap (judge_fields s) seven_fields
    ∙ (opens_or_not _ ∙ ap (λ (n : ℕ). cond (ltb n 7 || (eqb 7 n && s.contents.held.unfinished)) (Ok seven) (Err (MayNotOpen 1))) v)

-- the checks before those of the fields pass
first_checks : (C : Cipher) (s : State) (n : ℕ) (iv : List ℕ) (o : Option (List ℕ)) → n ≡ 44 → C.well_formed iv ≡ true → o ≡ Some contents_seven
    → then (check (leb 44 n && leb n 299) (PacketLength n)) (then (iv_checked C iv) (on_opened (λ c. judge_fields s (fields c)) o)) ≡ judge_fields s (fields contents_seven)
unfolding on_opened
first_checks C s n iv o i w e =
    ap (λ k. then (check (leb 44 k && leb k 299) (PacketLength k)) (then (iv_checked C iv) (on_opened (λ c. judge_fields s (fields c)) o))) i
    ∙ ap₂ (λ b p. then (check b (BadIv (C.first_wrong iv))) (on_opened (λ c. judge_fields s (fields c)) p)) w e

module _ (C : Cipher) (L : Lawful C) (s : State) (e : Event) (h : SevenArrives C (call C s e)) where
  abbrev key : List ℕ
  key = data_key s.contents.held

  abbrev sealed : List ℕ
  sealed = C.seal key h.iv contents_seven

  abbrev core : List ℕ
  core = 0x30 ∷ (h.iv ++ sealed)

  opened : C.opened key (iv_of core) (body_of core) ≡ Some contents_seven
  opened =
      ap₂ (C.opened key) (take_at h.iv sealed 16 h.iv_bytes) (drop_at h.iv sealed 16 h.iv_bytes)
      ∙ L.complete key h.iv contents_seven (h.key_bytes, h.iv_bytes, h.well_formed) (lit< tt)

  long : length core ≡ 44
  long =
      let n = length-append h.iv sealed in
      let m = L.longer key h.iv contents_seven (h.key_bytes, h.iv_bytes, h.well_formed) (lit< tt) in
      omega (arith, h.iv_bytes)

  judged : judge_data C s core ≡ cond s.contents.held.unfinished (Ok seven) (Err (MayNotOpen 1))
  unfolding judge_data
  judged =
      first_checks C s (length core) (iv_of core) _ long (ap C.well_formed (take_at h.iv sealed 16 h.iv_bytes) ∙ h.well_formed) opened
      ∙ seven_judged s h.held_seven

  by_mark : (m : Bool) → (enact (on_data (cond m (Ok seven) (Err (MayNotOpen 1)))) s).answer ≡ cond m (sends (message 0)) (refuses (MayNotOpen 1) (message 5))
  unfolding enact on_data
  by_mark true = (carried _ _ s h.endless).answers
  by_mark false = refl

  answered : (step C s e).answer ≡ cond s.contents.held.unfinished (sends (message 0)) (refuses (MayNotOpen 1) (message 5))
  unfolding step
  answered =
      ap (λ (d : Deed). (enact d s).answer) (data_decides C (call C s e) core h.arrives (_, refl) ∙ ap on_data judged)
      ∙ by_mark s.contents.held.unfinished

  by_the_mark : ByTheMark C s e
  by_the_mark =
      let P : Bool → Answer = λ m. cond m (sends (message 0)) (refuses (MayNotOpen 1) (message 5)) in
      record { finished = λ q. answered ∙ ap P q; unfinished = λ q. answered ∙ ap P q }

-- A board that reads a frame, number by number.
module _ (C : Cipher) (c : Contents) where
  abbrev at : Receiver → State
  at r = record { contents = c; supply = NoEnd; receiver = r; session = Closed; dark = false }

  reads : (r q : Receiver) (b : ℕ) → read r b ≡ waits q → (step C (at r) (gives b)).state ≡ at q
  unfolding step decide heard heard_read respond enact
  reads r q b e = ap (λ (x : Read). (enact (respond C (at r) (heard_read x)) (at r)).state) e

  -- the rest of a core command, and the first byte of its checksum
  body_read : (n : ℕ) (bs : List ℕ) (x : ℕ) (xs : List ℕ) (k : ℕ) → suc (length bs + length xs) ≡ n
      → run C (at (body n bs)) (map gives (x ∷ (xs ++ k ∷ []))) ≡ at (check_high (bs ++ x ∷ xs) k)
  unfolding run
  body_read n bs x [] k e =
      ap (λ (s : State). run C s (gives k ∷ []))
      (reads (body n bs) (check_low (bs ++ x ∷ [])) x (ap waits (cond-true (eqb (suc (length bs)) n) _ _ (eq-eqb _ _ (omega arith)))))
      ∙ reads (check_low (bs ++ x ∷ [])) (check_high (bs ++ x ∷ []) k) k refl
  body_read n bs x (y ∷ ys) k e =
      ap (λ (s : State). run C s (map gives (y ∷ (ys ++ k ∷ []))))
      (reads (body n bs) (body n (bs ++ x ∷ [])) x (ap waits (cond-false (eqb (suc (length bs)) n) _ _ (ne_eqb _ _ (λ q. omega arith)))))
      ∙ (body_read n (bs ++ x ∷ []) y ys k (let l = long_snoc bs x in omega arith)
      ∙ ap (λ (l : List ℕ). at (check_high l k)) (append_assoc bs (x ∷ []) (y ∷ ys)))

  -- all of the frame of a packet but the last byte
  front_read : (x : ℕ) (xs : List ℕ) (k : ℕ) → length xs ≡ 43
      → run C (at idle) (map gives (0x80 ∷ 44 ∷ 0 ∷ (x ∷ (xs ++ k ∷ [])))) ≡ at (check_high (x ∷ xs) k)
  unfolding run
  front_read x xs k e =
      let rest = map gives (x ∷ (xs ++ k ∷ [])) in
      ap (λ (s : State). run C s (gives 44 ∷ gives 0 ∷ rest)) (reads idle length_low 0x80 refl)
      ∙ (ap (λ (s : State). run C s (gives 0 ∷ rest)) (reads length_low (length_high 44) 44 refl)
      ∙ (ap (λ (s : State). run C s rest) (reads (length_high 44) (body 44 []) 0 refl)
      ∙ body_read 44 [] x xs k (omega arith)))

-- A board that has read all of the packet's frame but the last byte.
module _ (C : Cipher) (L : Lawful C) (g : Given) (m : Bool) where
  abbrev behind : List ℕ
  behind = L.some_iv.0 ++ C.seal g.data_key_bytes L.some_iv.0 contents_seven

  abbrev packet : List ℕ
  packet = 0x30 ∷ behind

  iv_long : length L.some_iv.0 ≡ 16
  iv_long = L.some_iv.1

  behind_long : length behind ≡ 43
  behind_long =
      let n = length-append L.some_iv.0 (C.seal g.data_key_bytes L.some_iv.0 contents_seven) in
      let m = L.longer g.data_key_bytes L.some_iv.0 contents_seven (g.data_key_long, L.some_iv.1, L.some_iv.2) (lit< tt) in
      omega (arith, iv_long)

  iv_bytes : Each InByte L.some_iv.0
  iv_bytes = bytes_from L.some_iv.0 L.some_iv.3

  abbrev waiting : List ℕ → State
  waiting core = record { contents = seven_held g m; supply = NoEnd; receiver = check_high core (crc core % 0x100); session = Closed; dark = false }

  last_byte : (core : List ℕ) → heard (waiting core) (gives (crc core / 0x100)) ≡ heard_read (good core)
  unfolding heard
  last_byte core = ap heard_read (cond-true (eqb (crc core % 0x100 + 0x100 * (crc core / 0x100)) (crc core)) (good core) _ (eq-eqb _ _ (omega arith)))

  seven_at : SevenAt C (seven_held g m)
  unfolding heard_read
  seven_at = record {
    front = frame_front 44 packet;
    last = crc packet / 0x100;
    board = waiting packet;
    has_read = sym (front_read C (seven_held g m) 0x30 behind (crc packet % 0x100) behind_long);
    holds = refl;
    iv_of_bytes = iv_bytes;
    all_of_bytes = λ h.
        let b : Each InByte packet = (lit< tt, each_append InByte L.some_iv.0 _ iv_bytes h) in
        each_snoc (frame_front 44 packet) (crc packet / 0x100) (front_bytes packet 44 (lit< tt) b) (high_byte packet b);
    arrival = record {
      held_seven = refl;
      key_bytes = g.data_key_long;
      endless = refl;
      iv = L.some_iv.0;
      iv_bytes = L.some_iv.1;
      well_formed = L.some_iv.2;
      arrives = last_byte packet;
    };
  }

pub same_version : SameVersion
same_version = record { by_the_mark = by_the_mark; by_the_fields = seven_by_the_fields; there_are = seven_at }
