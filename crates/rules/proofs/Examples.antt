-- The rules at examples: a listing, and for each promise a run that it speaks of.
use Rattle.std.proofs.Common.{◌≡◌, ℕ, suc, ◌/◌, ◌<◌, ◌≤◌, Bool, true, false, cond, eqb, leb, List, [], ◌∷◌, ◌++◌, map, length, get_or, set, replicate, Some, None, Ok, Option, sym, refl, ap, ◌∙◌, subst, inl, inr, true≢false, arith, lit<, length-set}
use lib.ListN.{length-replicate, get_or-replicate}
use Rattle.std.proofs.lemmas.List.{get_or-set_same, get_or-set_other, append_cancel_left, length-append}
use Rattle.std.proofs.lemmas.List.Elements.{All-replicate}
use Rattle.std.proofs.lemmas.Bool.{leb-true, le-leb, cond-true, eqb-true, eq-eqb, ne_eqb}
use Rattle.fault.specs.declared.Fault.TheVariants.{Dark, NotOpened, MayNotOpen, OldKey}
use Rattle.memory.specs.declared.supply.Supply.TheVariants.{NoEnd, Steps}
use Rattle.memory.specs.Areas.{place, all_areas}
use Rattle.memory.specs.Meaning.{perform}
use Rattle.memory.specs.Areas.{first_outside}
use Rattle.wire.specs.Checksum.{crc, crc_from, crc_byte, crc_bits}
use Rattle.wire.specs.Frame.{frame}
use Rattle.cipher.specs.Cipher.{Cipher, Lawful}
use Rattle.rules.specs.declared.Event.{Event}
use Rattle.rules.specs.declared.Event.TheVariants.{Byte, Question, PowerUp}
use Rattle.rules.specs.declared.Boot.TheVariants.{Application}
use Rattle.rules.specs.Memory.{data_key, kek}
use Rattle.rules.specs.Commands.{command}
use Rattle.rules.specs.Board
use Rattle.rules.specs.Board.{run, State, Call, Packet, call, history, step, fresh, may_open, judge_fields}
use Rattle.rules.specs.Words.{Each, version, Boots, Arrives, Opens, here}
use Rattle.rules.specs.Promises.{Given, start, Endlessly}
use Rattle.rules.specs.Examples.{refused_seven}
use Rattle.rules.specs.Instances.{ResumedUpdate, Replay, Parting, RunsExist}
use Rattle.rules.specs.Arrival.{InByte, GivesByte}
use Rattle.rules.proofs.Bytes.{bytes_by, frame_front, front_bytes, high_byte}
use Rattle.rules.proofs.Steps.{each_append}
use Rattle.rules.proofs.Runs.{run_append, history_append}
use Rattle.rules.proofs.OneList.{packets_exist}

-- A cipher that hides nothing: the key stands in front of the contents. It is lawful.
strip : List ℕ → List ℕ → Option (List ℕ)
strip [] b = cond (leb (length b) 266) (Some b) None
strip (x ∷ k) [] = None
strip (x ∷ k) (y ∷ b) = cond (eqb x y) (strip k b) None

abbrev open_cipher : Cipher
open_cipher = record { well_formed = λ iv. true; first_wrong = λ iv. 0; seal = λ k iv c. k ++ c; opened = λ k iv b. strip k b }

when : (t : Bool) (o : Option (List ℕ)) (c : List ℕ) → cond t o None ≡ Some c → (t ≡ true) × (o ≡ Some c)
when true o c e = (refl, e)
when false o c e = let z : ◌≡◌ {A = ℕ} 0 1 = cc in absurd (omega arith)

strip_sound : (k b c : List ℕ) → strip k b ≡ Some c → (k ++ c ≡ b) × (length c ≤ 266)
unfolding strip
strip_sound [] b c e =
    let h = when (leb (length b) 266) (Some b) c e in
    let i : b ≡ c = cc h.1 in
    (sym i, subst (λ (l : List ℕ). length l ≤ 266) i (leb-true _ _ h.0))
strip_sound (x ∷ k) [] c e = let z : ◌≡◌ {A = ℕ} 0 1 = cc in absurd (omega arith)
strip_sound (x ∷ k) (y ∷ b) c e =
    let h = when (eqb x y) (strip k b) c e in
    let i : x ≡ y = eqb-true x y h.0 in
    let r = strip_sound k b c h.1 in
    (λ j. i j ∷ r.0 j, r.1)

strip_complete : (k c : List ℕ) → length c ≤ 266 → strip k (k ++ c) ≡ Some c
unfolding strip
strip_complete [] c h = cond-true (leb (length c) 266) (Some c) None (le-leb _ _ h)
strip_complete (x ∷ k) c h = cond-true (eqb x x) (strip k (k ++ c)) None (eq-eqb x x refl) ∙ strip_complete k c h

open_lawful : Lawful open_cipher
open_lawful = record {
  some_iv = (replicate 16 0, length-replicate {A = ℕ} 16 0, refl, All-replicate (λ b. b < 256) 16 0 (lit< tt));
  wrong_within = λ iv l e. absurd (true≢false e);
  sound = λ k iv b c u e. strip_sound k b c e;
  complete = λ k iv c u h. strip_complete k c h;
  longer = λ k iv c u h. length-append k c ∙ omega (arith, u.0);
  apart = λ k iv c d u h l e. append_cancel_left k c d e;
}

-- an update of one packet that writes the vector
abbrev contents : List ℕ
contents = 1 ∷ 1 ∷ 0 ∷ 1 ∷ 0 ∷ 0 ∷ 0 ∷ 0xFE ∷ 0xFF ∷ 0x00 ∷ 0x34 ∷ 0x12 ∷ []

abbrev core : List ℕ
core = 0x30 ∷ (replicate 16 0 ++ (replicate 16 0 ++ contents))

abbrev packet : Packet
packet = record { ver = 1; pn = 1; np = 1; address = 0xFFFE; bytes = 0x34 ∷ 0x12 ∷ [] }

-- an image of zeros, which nothing below unrolls
zero_image : List ℕ
zero_image = replicate 61056 0

zero_long : length zero_image ≡ 61056
unfolding zero_image
zero_long = length-replicate {A = ℕ} 61056 0

zero_there : (i : ℕ) → i < 61056 → get_or zero_image i 0 ≡ 0
unfolding zero_image
zero_there i h = get_or-replicate 61056 i 0 0 h

-- boards with the data key of sixteen bytes b
abbrev board : ℕ → Given
board b = record {
  image = zero_image;
  data_key_bytes = replicate 16 b;
  kek_bytes = replicate 16 0;
  map_long = zero_long;
  data_key_long = length-replicate {A = ℕ} 16 b;
  kek_long = length-replicate {A = ℕ} 16 0;
}

byte : ℕ → Event
byte b = Byte b 11 266

-- the packet's frame, but its last byte; and that byte
abbrev front : List Event
front = map byte (frame_front 45 core)

abbrev last_byte : Event
last_byte = byte (crc core / 0x100)

-- both give bytes
bytes_given : (bs : List ℕ) → Each InByte bs → Each GivesByte (map byte bs)
unfolding byte
bytes_given [] h = tt
bytes_given (b ∷ bs) h = (h.0, bytes_given bs h.1)

byte_given : (b : ℕ) → InByte b → GivesByte (byte b)
unfolding byte
byte_given b h = h

core_bytes : Each InByte core
core_bytes = bytes_by core refl

front_given : Each GivesByte front
front_given = bytes_given (frame_front 45 core) (front_bytes core 45 (lit< tt) core_bytes)

last_byte_given : GivesByte last_byte
last_byte_given = byte_given (crc core / 0x100) (high_byte core core_bytes)

frame_given : Each GivesByte (front ++ last_byte ∷ [])
frame_given = each_append GivesByte front (last_byte ∷ []) front_given (last_byte_given, tt)

-- all that the runs compute with
receiving : Unit {0}
unfolding Board.heard Board.heard_read crc crc_from crc_byte crc_bits byte
receiving = tt

judging : Unit {0}
unfolding command Board.judge_data Board.on_opened Board.judge_fields Board.fields Board.word may_open first_outside place all_areas strip
judging = tt

storing : Unit {0}
unfolding Board.carry_out Board.data_steps Board.opening_steps Board.closing_steps Board.ended Board.session_after perform
storing = tt

every_rule : Unit {0}
unfolding receiving judging storing run fresh step Board.decide Board.respond Board.obey Board.on_data Board.enact
every_rule = tt

-- held version 7, of the fields alone
pub seven_by_the_fields : (refused_seven false ≡ Some (MayNotOpen 1)) × (refused_seven true ≡ None)
unfolding judging storing Board.on_data Board.enact
seven_by_the_fields = (refl, refl)

-- the packet arrives at a board that has read all but its last byte
abbrev arrival : State → Call
arrival s = call open_cipher s last_byte

-- an application is there
application : (s : State) (a : ℕ) → s.dark ≡ false → s.contents.held.unfinished ≡ false → get_or s.contents.image 44670 0 ≡ a → (a ≡ 255 → ⊥)
    → Boots (call open_cipher s Question)
unfolding step Board.decide Board.heard Board.respond Board.enact Board.boot place all_areas
application s a d m v n =
    let no_blank : eqb (get_or s.contents.image 44670 0) 255 ≡ false = ne_eqb _ _ (λ e. n (sym v ∙ e)) in
    record { asks = refl; said = Application; answers = cc; application = refl }

first_boots : Boots (call open_cipher (start (board 0)) Question)
unfolding fresh
first_boots = application (start (board 0)) 0 refl refl (zero_there 44670 (lit< tt)) (λ e. omega arith)

-- The update is cut behind the second of its four steps, and sent again.
abbrev ahead : List Event
ahead = PowerUp (Steps 2) ∷ front

abbrev ready : State
ready = run open_cipher (start (board 0)) ahead

abbrev dark_state : State
dark_state = (step open_cipher ready last_byte).state

abbrev waiting : List Event
waiting = PowerUp NoEnd ∷ front

abbrev ready_again : State
ready_again = run open_cipher dark_state waiting

abbrev updated : State
updated = (step open_cipher ready_again last_byte).state

record Arrived (s : State) : Type 0 where
  hears : Arrives (arrival s) core
  judged : Board.judge_data open_cipher s core ≡ Ok packet

opening : (s : State) → Arrived s → (s.supply ≡ Steps 0 → ⊥) → Opens open_cipher (arrival s) packet
opening s a n = record { passes = record { core = core; arrives = a.hears; begins = (_, refl); unrefused = a.judged }; first = refl; powered = n }

ready_arrived : Arrived ready
unfolding every_rule
ready_arrived = record { hears = refl; judged = refl }

ready_supply : ready.supply ≡ Steps 2
unfolding every_rule
ready_supply = refl

cut_dark : (arrival ready).answer.refusal ≡ Some Dark
unfolding every_rule
cut_dark = refl

again_arrived : Arrived ready_again
unfolding every_rule
again_arrived = record { hears = refl; judged = refl }

again_supply : ready_again.supply ≡ NoEnd
unfolding every_rule
again_supply = refl

again_taken : (arrival ready_again).answer.refusal ≡ None
unfolding every_rule
again_taken = refl

record UpdatedWell : Type 0 where
  new_version : updated.contents.held.version ≡ 1
  unmarked : updated.contents.held.unfinished ≡ false
  lit : updated.dark ≡ false
  image_is : updated.contents.image ≡ set (set (set zero_image 44670 0x34) 44670 0x34) 44671 0x12

updated_well : UpdatedWell
unfolding every_rule
updated_well = record { new_version = refl; unmarked = refl; lit = refl; image_is = refl }

second_boots : Boots (call open_cipher updated Question)
second_boots =
    let z = zero_long in
    let once : List ℕ = set zero_image 44670 0x34 in
    let twice : List ℕ = set once 44670 0x34 in
    let long : length once ≡ 61056 = length-set zero_image 44670 0x34 ∙ z in
    let there : get_or (set twice 44671 0x12) 44670 0 ≡ 0x34 =
    get_or-set_other twice 44671 44670 0x12 0 (λ e. omega arith) ∙ get_or-set_same once 44670 0x34 0 (omega arith) in
    application updated 0x34 updated_well.lit updated_well.unmarked (ap (λ (l : List ℕ). get_or l 44670 0) updated_well.image_is ∙ there) (λ e. omega arith)

abbrev cut_and_sent_again : List Event
cut_and_sent_again = ahead ++ last_byte ∷ (waiting ++ last_byte ∷ [])

cut_given : Each GivesByte (Question ∷ (cut_and_sent_again ++ Question ∷ []))
cut_given = (
  tt,
  each_append GivesByte cut_and_sent_again (Question ∷ [])
      (tt, each_append GivesByte front (last_byte ∷ (waiting ++ last_byte ∷ [])) front_given (last_byte_given, (tt, frame_given))) (tt, tt),
)

fresh_version : version (start (board 0)) ≡ 0
unfolding fresh
fresh_version = refl

question_keeps : (step open_cipher (start (board 0)) Question).state ≡ start (board 0)
unfolding step Board.decide Board.heard Board.respond Board.enact fresh
question_keeps = refl

run_there : run open_cipher (start (board 0)) cut_and_sent_again ≡ updated
unfolding run
run_there = run_append open_cipher (start (board 0)) ahead (last_byte ∷ (waiting ++ last_byte ∷ [])) ∙ run_append open_cipher dark_state waiting (last_byte ∷ [])

-- a history splits where its events do
middle : (C : Cipher) (s : State) (xs : List Event) (e : Event) (ys : List Event)
    → history C s (xs ++ e ∷ ys) ≡ history C s xs ++ call C (run C s xs) e ∷ history C (step C (run C s xs) e).state ys
unfolding history
middle C s xs e ys = history_append C s xs (e ∷ ys)

history_last : (C : Cipher) (s : State) (xs : List Event) (e : Event) → history C s (xs ++ e ∷ []) ≡ history C s xs ++ call C (run C s xs) e ∷ []
unfolding history
history_last C s xs e = middle C s xs e []

resumed_is :
    history open_cipher (start (board 0)) (Question ∷ (cut_and_sent_again ++ Question ∷ []))
    ≡ call open_cipher (start (board 0)) Question ∷ (history open_cipher (start (board 0)) cut_and_sent_again ++ call open_cipher updated Question ∷ [])
unfolding history
resumed_is =
    ap (λ (l : List Call). call open_cipher (start (board 0)) Question ∷ l)
    (ap (λ (t : State). history open_cipher t (cut_and_sent_again ++ Question ∷ [])) question_keeps
    ∙ (history_last open_cipher (start (board 0)) cut_and_sent_again Question
    ∙ ap (λ (t : State). history open_cipher (start (board 0)) cut_and_sent_again ++ call open_cipher t Question ∷ []) run_there))

resumed_update : ResumedUpdate
resumed_update = record {
  cipher = open_cipher;
  lawful = open_lawful;
  given = board 0;
  events = Question ∷ (cut_and_sent_again ++ Question ∷ []);
  of_bytes = cut_given;
  first_question = call open_cipher (start (board 0)) Question;
  between = history open_cipher (start (board 0)) cut_and_sent_again;
  second_question = call open_cipher updated Question;
  is = resumed_is;
  boots_first = first_boots;
  boots_second = second_boots;
  ahead = history open_cipher (start (board 0)) ahead;
  cut = arrival ready;
  waiting = history open_cipher dark_state waiting;
  resumed = arrival ready_again;
  between_is = middle open_cipher (start (board 0)) ahead last_byte (waiting ++ last_byte ∷ []) ∙ ap
      (λ (l : List Call). history open_cipher (start (board 0)) ahead ++ arrival ready ∷ l) (history_last open_cipher dark_state waiting last_byte);
  packet = packet;
  opens_cut = opening ready ready_arrived (λ e. let u = ready_supply in let z : ◌≡◌ {A = ℕ} 2 0 = cc in omega arith);
  went_dark = cut_dark;
  opens_resumed = opening ready_again again_arrived (λ e. let u = again_supply in let z : ◌≡◌ {A = ℕ} 0 1 = cc in omega arith);
  taken = again_taken;
  risen = omega (arith, fresh_version, updated_well.new_version);
}

-- The update is taken, and its packet arrives again: 21.
abbrev ready_once : State
ready_once = run open_cipher (start (board 0)) front

abbrev taken_once : State
taken_once = (step open_cipher ready_once last_byte).state

abbrev ready_twice : State
ready_twice = run open_cipher taken_once front

once_arrived : Arrived ready_once
unfolding every_rule
once_arrived = record { hears = refl; judged = refl }

once_supply : ready_once.supply ≡ NoEnd
unfolding every_rule
once_supply = refl

once_taken : (arrival ready_once).answer.refusal ≡ None
unfolding every_rule
once_taken = refl

twice_hears : Arrives (arrival ready_twice) core
unfolding every_rule
twice_hears = refl

twice_refused : (arrival ready_twice).answer.refusal ≡ Some (MayNotOpen 1)
unfolding every_rule
twice_refused = refl

record ZeroKeys (s : State) : Type 0 where
  data_zero : data_key s.contents.held ≡ replicate 16 0
  kek_zero : kek s.contents.held ≡ replicate 16 0

once_keys : ZeroKeys ready_once
unfolding every_rule
once_keys = record { data_zero = refl; kek_zero = refl }

twice_keys : ZeroKeys ready_twice
unfolding every_rule
twice_keys = record { data_zero = refl; kek_zero = refl }

twice_given : (xs : List Event) (e : Event) → Each GivesByte xs → GivesByte e → Each GivesByte ((xs ++ e ∷ xs) ++ e ∷ [])
twice_given xs e h k = each_append GivesByte (xs ++ e ∷ xs) (e ∷ []) (each_append GivesByte xs (e ∷ xs) h (k, h)) (k, tt)

-- the history of a frame that comes twice
twice_is : (s : State) (xs : List Event) (e : Event) →
    let once = run open_cipher s xs in
    let after = (step open_cipher once e).state in
    history open_cipher s ((xs ++ e ∷ xs) ++ e ∷ [])
    ≡ (history open_cipher s xs ++ call open_cipher once e ∷ history open_cipher after xs) ++ call open_cipher (run open_cipher after xs) e ∷ []
unfolding run
twice_is s xs e =
    history_last open_cipher s (xs ++ e ∷ xs) e
    ∙ (ap (λ (t : State). history open_cipher s (xs ++ e ∷ xs) ++ call open_cipher t e ∷ []) (run_append open_cipher s xs (e ∷ xs))
    ∙ ap (λ (l : List Call). l ++ call open_cipher (run open_cipher (step open_cipher (run open_cipher s xs) e).state xs) e ∷ []) (middle open_cipher s xs e xs))

replay : Replay 0x30
replay =
    let others = packets_exist open_cipher taken_once front in
    record {
      cipher = open_cipher;
      lawful = open_lawful;
      given = board 0;
      events = (front ++ last_byte ∷ front) ++ last_byte ∷ [];
      of_bytes = twice_given front last_byte front_given last_byte_given;
      ahead = history open_cipher (start (board 0)) front;
      first_time = arrival ready_once;
      between = history open_cipher taken_once front;
      second_time = arrival ready_twice;
      is = twice_is (start (board 0)) front last_byte;
      core = core;
      begins = (_, refl);
      arrives = once_arrived.hears;
      arrives_again = twice_hears;
      same_key = (λ _. once_keys.data_zero ∙ sym twice_keys.data_zero, λ _. once_keys.kek_zero ∙ sym twice_keys.kek_zero);
      used_up = (
        once_taken,
        inr (
          (_, refl),
          record {
            before = history open_cipher (start (board 0)) front;
            first = arrival ready_once;
            packet = packet;
            behind = history open_cipher taken_once front;
            split = refl;
            opens = opening ready_once once_arrived (λ e. let u = once_supply in let z : ◌≡◌ {A = ℕ} 0 1 = cc in omega arith);
            others = others.0;
            packets = others.1;
            one_of = here refl;
            finished = here (once_taken, refl);
          },
        ),
      );
      refused = (_, twice_refused);
    }

-- A board with another data key refuses the packet: 12.
abbrev ready_other : State
ready_other = run open_cipher (start (board 1)) front

other_hears : Arrives (arrival ready_other) core
unfolding every_rule
other_hears = refl

other_refuses : (arrival ready_other).answer.refusal ≡ Some NotOpened
unfolding every_rule
other_refuses = refl

bytes_endless : (bs : List ℕ) (es : List Event) → Each Endlessly es → Each Endlessly (map byte bs ++ es)
unfolding byte
bytes_endless [] es h = h
bytes_endless (b ∷ bs) es h = ((λ u e. let z : ◌≡◌ {A = ℕ} 0 1 = cc in absurd (omega arith)), bytes_endless bs es h)

last_endless : Each Endlessly (last_byte ∷ [])
unfolding byte
last_endless = ((λ u e. let z : ◌≡◌ {A = ℕ} 0 1 = cc in absurd (omega arith)), tt)

history_long : (C : Cipher) (s : State) (es : List Event) → length (history C s es) ≡ length es
unfolding history
history_long C s [] = refl
history_long C s (e ∷ es) = ap suc (history_long C (step C s e).state es)

parting : Parting
parting = record {
  cipher = open_cipher;
  lawful = open_lawful;
  given = board 0;
  other = board 1;
  events = front ++ last_byte ∷ [];
  of_bytes = frame_given;
  endless = bytes_endless (frame_front 45 core) (last_byte ∷ []) last_endless;
  ahead = history open_cipher (start (board 0)) front;
  takes = arrival ready_once;
  other_ahead = history open_cipher (start (board 1)) front;
  refuses = arrival ready_other;
  is = history_last open_cipher (start (board 0)) front last_byte;
  other_is = history_last open_cipher (start (board 1)) front last_byte;
  same_place = history_long open_cipher (start (board 0)) front ∙ sym (history_long open_cipher (start (board 1)) front);
  taken = once_taken;
  refused = (_, other_refuses);
  parted = record { core = core; arrives = (once_arrived.hears, other_hears); begins = inl (_, refl); parted = inl (once_taken, (_, other_refuses)) };
}

-- A key packet is taken, and arrives again: 31.
abbrev key_core : List ℕ
key_core = 0x31 ∷ (replicate 16 0 ++ (replicate 16 0 ++ 0 ∷ 1 ∷ replicate 16 7))

key_bytes : Each InByte key_core
key_bytes = bytes_by key_core refl

abbrev key_front : List Event
key_front = map byte (frame_front 51 key_core)

abbrev key_last : Event
key_last = byte (crc key_core / 0x100)

key_rule : Unit {0}
unfolding every_rule Board.judge_key Board.judge_key_fields Board.key_fields Board.slot Board.on_key Board.key_steps
key_rule = tt

abbrev key_arrival : State → Call
key_arrival s = call open_cipher s key_last

abbrev key_once : State
key_once = run open_cipher (start (board 0)) key_front

abbrev key_taken : State
key_taken = (step open_cipher key_once key_last).state

abbrev key_twice : State
key_twice = run open_cipher key_taken key_front

record KeyReplayed : Type 0 where
  hears : Arrives (key_arrival key_once) key_core
  hears_again : Arrives (key_arrival key_twice) key_core
  taken : (key_arrival key_once).answer.refusal ≡ None
  refused : (key_arrival key_twice).answer.refusal ≡ Some (OldKey 1)
  kek_once : kek key_once.contents.held ≡ replicate 16 0
  kek_twice : kek key_twice.contents.held ≡ replicate 16 0

key_replayed : KeyReplayed
unfolding key_rule
key_replayed = record { hears = refl; hears_again = refl; taken = refl; refused = refl; kek_once = refl; kek_twice = refl }

not_data : {rest : List ℕ} → key_core ≡ 0x30 ∷ rest → ⊥
not_data e = let z : ◌≡◌ {A = ℕ} 0x31 0x30 = cc in omega arith

key_replay : Replay 0x31
key_replay =
    let r = key_replayed in
    record {
      cipher = open_cipher;
      lawful = open_lawful;
      given = board 0;
      events = (key_front ++ key_last ∷ key_front) ++ key_last ∷ [];
      of_bytes = twice_given key_front key_last (bytes_given (frame_front 51 key_core) (front_bytes key_core 51 (lit< tt) key_bytes)) (byte_given (crc key_core / 0x100) (high_byte key_core key_bytes));
      ahead = history open_cipher (start (board 0)) key_front;
      first_time = key_arrival key_once;
      between = history open_cipher key_taken key_front;
      second_time = key_arrival key_twice;
      is = twice_is (start (board 0)) key_front key_last;
      core = key_core;
      begins = (_, refl);
      arrives = r.hears;
      arrives_again = r.hears_again;
      same_key = (λ b. absurd (not_data b.1), λ _. r.kek_once ∙ sym r.kek_twice);
      used_up = (r.taken, inl (_, refl));
      refused = (_, r.refused);
    }

pub runs_exist : RunsExist
runs_exist = (resumed_update, replay, key_replay, parting)

-- the version is asked for
abbrev answers : List Call → List (List ℕ)
answers [] = []
answers (c ∷ cs) = c.answer.sent ∷ answers cs

version_asked :
    answers (history open_cipher (start (board 0)) (map byte (128 ∷ 1 ∷ 0 ∷ 25 ∷ 232 ∷ 98 ∷ [])))
    ≡ [] ∷ [] ∷ [] ∷ [] ∷ [] ∷ (0 ∷ 128 ∷ 5 ∷ 0 ∷ 58 ∷ 0 ∷ 88 ∷ 86 ∷ 181 ∷ 68 ∷ 255 ∷ []) ∷ []
unfolding every_rule history frame
version_asked = refl
