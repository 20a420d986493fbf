-- Which refusals a call can answer, and what a packet that passes shows.
use Rattle.std.proofs.Common.{◌≡◌, ℕ, zero, suc, ◌+◌, ◌*◌, ◌<◌, ◌≤◌, Bool, true, false, cond, ◌&&◌, eqb, ltb, leb, ◌⊎◌, List, [], ◌∷◌, length, get_or, is_some, Some, None, Ok, Err, Option, Result, sym, refl, ap, ◌∙◌, subst, inl, inr, true≢false, arith}
use Rattle.std.proofs.lemmas.List.{take_at, drop_at}
use Rattle.std.proofs.lemmas.Bool.{and_parts, or_parts, eqb-true, eqb-false, ltb-true, ltb-false, leb-true, cond_both, cond-true, cond-false, cases_Bool}
use Rattle.fault.specs.Checks.{then}
use Rattle.fault.specs.Refusals.{refusal}
use Rattle.fault.specs.declared.Fault.{Fault}
use Rattle.fault.specs.declared.Fault.TheVariants.{ReplyShort, WorkShort, Dark, UnknownCommand, PacketLength, BadIv, NotOpened, BadNumber, MayNotOpen, OutOfTurn}
use Rattle.fault.specs.declared.Fault.TheVariants.{OutsideArea, BadKeyType, OldKey, NoHeader, BadChecksum, NoLength, TooLong}
use Rattle.memory.specs.declared.supply.Supply.TheVariants.{Steps}
use Rattle.memory.specs.Areas.{place, first_outside, refused_at}
use Rattle.memory.specs.Held.{slot_place}
use Rattle.cipher.specs.Cipher.{Cipher, Lawful}
use Rattle.memory.proofs.Places.{map_below}
use Rattle.rules.specs.declared.Event.{Event}
use Rattle.rules.specs.declared.Event.TheVariants.{Byte, Silence, Question, PowerUp}
use Rattle.rules.specs.declared.Command.{Command}
use Rattle.rules.specs.declared.Command.TheVariants.{MassErase, Version, Reset, Data, Key, Unknown}
use Rattle.rules.specs.Memory.{data_key, kek, key_record}
use Rattle.rules.specs.Packets.{iv_of, body_of}
use Rattle.rules.specs.Receiver.{Receiver, Read, read}
use Rattle.rules.specs.Receiver.Receiver.{idle, length_low, length_high, body, check_low, check_high}
use Rattle.rules.specs.Receiver.Read.{waits, bad, good}
use Rattle.rules.specs.Commands.{command, longer, message}
use Rattle.rules.specs.Board.{State, Call, Outcome, refuses, Packet, KeyPacket, word, fields, key_fields, slot, in_order, judge_fields, judge_key_fields}
use Rattle.rules.specs.Board.{on_opened, judge_data, judge_key, Heard, turned_away, part, framed, silence, question, heard, heard_read, Deed, turns}
use Rattle.rules.specs.Board.{stores, on_data, on_key, obey, respond, decide, enact, step, call, run}
use Rattle.rules.specs.Words.{Each, Arrives, Begins, Passes, SealedAs}
use Rattle.rules.specs.Promises.{start}
use Rattle.rules.specs.Arrival.{InByte, GivesByte}
use Rattle.rules.specs.Laws.{Unrefused, PassingShows, DarkWhenSpent, OpensToBytes, OfByte, RefusalOf, EachCallHasItsRefusals}
use Rattle.rules.proofs.Receipt.{Possible, good_framed}
use Rattle.rules.proofs.Deeds.{data_passed, data_decides, iv_long, passes_stores, sealed_as}
use Rattle.rules.proofs.Runs.{split}
use Rattle.rules.proofs.Kept.{sound_start, sound_run, each_at}
use Rattle.rules.proofs.Once.{some_none}
use Rattle.rules.proofs.Arrivals.{read_run, start_read, each_front}
use Rattle.rules.proofs.Laws.{Ends, went_dark, went_well, carried_ways}

-- an error has a property
abbrev Errs : {A : Type 0} → (Fault → Type 0) → Result A Fault → Type 0
Errs P (Ok a) = Unit {0}
Errs P (Err f) = P f

then_errs : {A : Type 0} (P : Fault → Type 0) (b : Bool) (f : Fault) (j : Result A Fault) → (b ≡ false → P f) → (b ≡ true → Errs P j) → Errs P (then (cond b (Ok tt) (Err f)) j)
then_errs P true f j h k = k refl
then_errs P false f j h k = h refl

range_errs : (P : Fault → Type 0) (p : Packet) (o : Option ℕ) → ((a : ℕ) → o ≡ Some a → P (OutsideArea a)) → Errs P (then (refused_at o) (Ok p))
range_errs P p None h = tt
range_errs P p (Some a) h = h a refl

opened_errs : {A : Type 0} (P : Fault → Type 0) (f : List ℕ → Result A Fault) (o : Option (List ℕ)) → P NotOpened → ((c : List ℕ) → o ≡ Some c → Errs P (f c))
    → Errs P (on_opened f o)
unfolding on_opened
opened_errs P f None h k = h
opened_errs P f (Some c) h k = k c refl

module _ (P : Fault → Type 0) (s : State) where
  fields_errs : (p : Packet) → P (BadNumber p.pn) → (p.pn ≡ 1 → P (MayNotOpen p.pn)) → ((p.pn ≡ 1 → ⊥) → P (OutOfTurn p.pn))
      → ((a : ℕ) → first_outside p.address (length p.bytes) ≡ Some a → P (OutsideArea a))
      → Errs P (judge_fields s p)
  unfolding judge_fields
  fields_errs p n o t a =
      then_errs P _ _ _ (λ _. n)
      (λ _. then_errs P (in_order s p) _ _
      (λ _. cond_both (eqb p.pn 1) (MayNotOpen p.pn) (OutOfTurn p.pn) P (λ e. o (eqb-true _ _ e)) (λ e. t (eqb-false _ _ e)))
      (λ _. range_errs P p _ a))

  key_fields_errs : (p : KeyPacket) → ((p.kt ≡ 0 → ⊥) → (p.kt ≡ 2 → ⊥) → P (BadKeyType p.kt)) → P (OldKey p.kv) → Errs P (judge_key_fields s p)
  unfolding judge_key_fields
  key_fields_errs p t o =
      then_errs P _ _ _ (λ e. let n = or_parts _ _ e in t (eqb-false _ _ n.0) (eqb-false _ _ n.1))
      (λ _. then_errs P (ltb (key_record s.contents.held (slot_place (slot p.kt))).version p.kv) _ _ (λ _. o) (λ _. tt))

  module _ (C : Cipher) (core : List ℕ) (l : P (PacketLength (length core))) (n : P NotOpened)
      (i : 17 ≤ length core → C.well_formed (iv_of core) ≡ false → P (BadIv (C.first_wrong (iv_of core)))) where
    data_errs : ((c : List ℕ) → C.opened (data_key s.contents.held) (iv_of core) (body_of core) ≡ Some c → Errs P (judge_fields s (fields c))) → Errs P (judge_data C s core)
    unfolding judge_data
    data_errs f =
        then_errs P (leb 44 (length core) && leb (length core) 299) _ _ (λ _. l)
        (λ e.
        let m = leb-true 44 (length core) (and_parts _ _ e).0 in
        then_errs P (C.well_formed (iv_of core)) _ _ (i (omega arith)) (λ _. opened_errs P _ _ n f))

    key_errs : ((c : List ℕ) → C.opened (kek s.contents.held) (iv_of core) (body_of core) ≡ Some c → Errs P (judge_key_fields s (key_fields c))) → Errs P (judge_key C s core)
    unfolding judge_key
    key_errs f =
        then_errs P (eqb (length core) 51) _ _ (λ _. l)
        (λ e.
        let m = eqb-true (length core) 51 e in
        then_errs P (C.well_formed (iv_of core)) _ _ (i (omega arith)) (λ _. opened_errs P _ _ n f))

-- a refusal other than 3
abbrev Lit : Fault → Type 0
Lit f = (refusal f).number ≡ 3 → ⊥

data_lit : (C : Cipher) (s : State) (core : List ℕ) → Errs Lit (judge_data C s core)
data_lit C s core =
    data_errs Lit s C core (λ e. omega arith) (λ e. omega arith) (λ _ _ e. omega arith)
    (λ c _. fields_errs Lit s (fields c) (λ e. omega arith) (λ _ e. omega arith) (λ _ e. omega arith) (λ a _ e. omega arith))

key_lit : (C : Cipher) (s : State) (core : List ℕ) → Errs Lit (judge_key C s core)
key_lit C s core =
    key_errs Lit s C core (λ e. omega arith) (λ e. omega arith) (λ _ _ e. omega arith)
    (λ c _. key_fields_errs Lit s (key_fields c) (λ _ _ e. omega arith) (λ e. omega arith))

-- a refusal other than 3, 9, and 81 and above
abbrev pub OfPacket : Fault → Type 0
OfPacket f = (eqb (refusal f).number 3 ≡ false) × (eqb (refusal f).number 9 ≡ false) × (leb 81 (refusal f).number ≡ false)

-- a packet is refused by none of these
pub data_refused : (C : Cipher) (s : State) (core : List ℕ) (f : Fault) → judge_data C s core ≡ Err f → OfPacket f
data_refused C s core f e =
    let P : Result Packet Fault → Type 0 = λ j. Errs OfPacket j in
    subst P e
    (data_errs OfPacket s C core (refl, refl, refl) (refl, refl, refl) (λ _ _. (refl, refl, refl))
    (λ c _. fields_errs OfPacket s (fields c) (refl, refl, refl) (λ _. (refl, refl, refl)) (λ _. (refl, refl, refl)) (λ a _. (refl, refl, refl))))

pub key_refused : (C : Cipher) (s : State) (core : List ℕ) (f : Fault) → judge_key C s core ≡ Err f → OfPacket f
key_refused C s core f e =
    let P : Result KeyPacket Fault → Type 0 = λ j. Errs OfPacket j in
    subst P e
    (key_errs OfPacket s C core (refl, refl, refl) (refl, refl, refl) (λ _ _. (refl, refl, refl))
    (λ c _. key_fields_errs OfPacket s (key_fields c) (λ _ _. (refl, refl, refl)) (refl, refl, refl)))

-- a refused frame
abbrev Bads : (Fault → Type 0) → Read → Type 0
Bads P (waits r) = Unit {0}
Bads P (bad f) = P f
Bads P (good core) = Unit {0}

read_bads : (P : Fault → Type 0) (h : Receiver) (b : ℕ)
    → ((b ≡ 0x80 → ⊥) → P (NoHeader b)) → P NoLength
    → ((low : ℕ) → h ≡ length_high low → 299 < low + 0x100 * b → P (TooLong (low + 0x100 * b)))
    → ((core : List ℕ) (low : ℕ) → h ≡ check_high core low → P (BadChecksum (low + 0x100 * b)))
    → Bads P (read h b)
read_bads P idle b n z t c = cond_both (eqb b 0x80) (waits length_low) (bad (NoHeader b)) (Bads P) (λ _. tt) (λ e. n (eqb-false _ _ e))
read_bads P length_low b n z t c = tt
read_bads P (length_high low) b n z t c =
    cond_both (eqb (low + 0x100 * b) 0) (bad NoLength) _ (Bads P) (λ _. z)
    (λ _. cond_both (ltb 299 (low + 0x100 * b)) (bad (TooLong (low + 0x100 * b))) (waits (body (low + 0x100 * b) [])) (Bads P) (λ e. t low refl (ltb-true _ _ e)) (λ _. tt))
read_bads P (body m bs) b n z t c = tt
read_bads P (check_low core) b n z t c = tt
read_bads P (check_high core low) b n z t c = cond_both (eqb (low + 0x100 * b) _) (good core) (bad (BadChecksum (low + 0x100 * b))) (Bads P) (λ _. tt) (λ _. c core low refl)

-- a refusal from 81 on
abbrev pub OfFrame : Fault → Type 0
OfFrame f = (eqb (refusal f).number 3 ≡ false) × (eqb (refusal f).number 9 ≡ false) × (leb 81 (refusal f).number ≡ true)

-- a frame is refused by one of these
pub read_refused : (h : Receiver) (b : ℕ) (f : Fault) → read h b ≡ bad f → OfFrame f
read_refused h b f e =
    let P : Read → Type 0 = λ r. Bads OfFrame r in
    subst P e (read_bads OfFrame h b (λ _. (refl, refl, refl)) (refl, refl, refl) (λ _ _ _. (refl, refl, refl)) (λ _ _ _. (refl, refl, refl)))

read_lit : (h : Receiver) (b : ℕ) → Bads Lit (read h b)
read_lit h b = read_bads Lit h b (λ _ e. omega arith) (λ e. omega arith) (λ low _ _ e. omega arith) (λ core low _ e. omega arith)

-- A board goes dark only when its supply is spent.
abbrev Spent : Outcome → Type 0
Spent o = o.answer.refusal ≡ Some Dark → (o.state.supply ≡ Steps 0) × (o.state.dark ≡ true)

ends_spent : (o : Outcome) → Ends o → Spent o
ends_spent o (went_dark r u d) e = (u, d)
ends_spent o (went_well r) e = some_none o.answer.refusal Dark e r

not_lit : {A : Type 0} (f : Fault) → Lit f → f ≡ Dark → A
not_lit f l e = absurd (l (ap (λ (x : Fault). (refusal x).number) e))

module _ (C : Cipher) (s : State) where
  turn_spent : (r : Receiver) (f : Fault) (bs : List ℕ) → Lit f → Spent (enact (turns r (refuses f bs)) s)
  unfolding enact
  turn_spent r f bs l e = let d : f ≡ Dark = cc in not_lit f l d

  data_spent : (j : Result Packet Fault) → Errs Lit j → Spent (enact (on_data j) s)
  unfolding on_data enact
  data_spent (Ok p) l = ends_spent _ (carried_ways _ _ s)
  data_spent (Err f) l = turn_spent idle f (message 5) l

  key_spent : (j : Result KeyPacket Fault) → Errs Lit j → Spent (enact (on_key j) s)
  unfolding on_key enact
  key_spent (Ok p) l = ends_spent _ (carried_ways _ _ s)
  key_spent (Err f) l = turn_spent idle f (message 5) l

  obey_spent : (core : List ℕ) (k : Command) → Spent (enact (obey C s core k) s)
  unfolding obey enact
  obey_spent core MassErase = ends_spent _ (carried_ways _ _ s)
  obey_spent core Version = λ e. let z : ◌≡◌ {A = ℕ} 0 1 = cc in absurd (omega arith)
  obey_spent core Reset = λ e. let z : ◌≡◌ {A = ℕ} 0 1 = cc in absurd (omega arith)
  obey_spent core Data = data_spent _ (data_lit C s core)
  obey_spent core Key = key_spent _ (key_lit C s core)
  obey_spent core (Unknown b) = turn_spent idle (UnknownCommand b) (message 7) (λ e. omega arith)

  read_spent : (q : Read) → Bads Lit q → Spent (enact (respond C s (heard_read q)) s)
  unfolding heard_read respond enact
  read_spent (waits r) l = λ e. let z : ◌≡◌ {A = ℕ} 0 1 = cc in absurd (omega arith)
  read_spent (bad f) l = turn_spent idle f ((refusal f).number ∷ []) l
  read_spent (good core) l = obey_spent core (command core)

  byte_spent : (h : Heard) → Spent (enact (respond C s h) s) → (x y z : Bool) → z ≡ false
      → Spent (enact (respond C s (cond x (turned_away ReplyShort) (cond y (turned_away WorkShort) (cond z (turned_away Dark) h)))) s)
  unfolding respond
  byte_spent h k true y z e = turn_spent s.receiver ReplyShort [] (λ e. omega arith)
  byte_spent h k false true z e = turn_spent s.receiver WorkShort [] (λ e. omega arith)
  byte_spent h k false false true e = absurd (true≢false e)
  byte_spent h k false false false e = k

  other_spent : (h : Heard) → Spent (enact (respond C s h) s) → (z : Bool) → z ≡ false → Spent (enact (respond C s (cond z (turned_away Dark) h)) s)
  other_spent h k true e = absurd (true≢false e)
  other_spent h k false e = k

  heard_spent : (e : Event) → s.dark ≡ false → Spent (enact (respond C s (heard s e)) s)
  unfolding heard respond enact
  heard_spent (Byte b reply work) d = byte_spent _ (read_spent (read s.receiver b) (read_lit s.receiver b)) (ltb reply 11) (ltb work 266) s.dark d
  heard_spent Silence d = other_spent silence (λ e. let z : ◌≡◌ {A = ℕ} 0 1 = cc in absurd (omega arith)) s.dark d
  heard_spent Question d = other_spent question (λ e. let z : ◌≡◌ {A = ℕ} 0 1 = cc in absurd (omega arith)) s.dark d
  heard_spent (PowerUp u) d = λ e. let z : ◌≡◌ {A = ℕ} 0 1 = cc in absurd (omega arith)

pub dark_when_spent : DarkWhenSpent
unfolding step decide
dark_when_spent C s e r d = heard_spent C s e d r

-- Each call has its refusals.
not_some : (o : Option ℕ) → is_some o ≡ false → o ≡ None
not_some None e = refl
not_some (Some p) e = absurd (true≢false e)

outside : (n a x : ℕ) → first_outside a n ≡ Some x → (place x ≡ None) × (a < 0x1000000 → x < 0x1000000)
unfolding first_outside
outside zero a x e = let z : ◌≡◌ {A = ℕ} 0 1 = cc in absurd (omega arith)
outside (suc n) a x e =
    elim (cases_Bool (is_some (place a))) [
      | inl t ↦
          let r = outside n (a + 1) x (sym (cond-true (is_some (place a)) (first_outside (a + 1) n) (Some a) t) ∙ e) in
          let l = map_below a t in
          (r.0, λ _. r.1 (omega arith))
      | inr f ↦
          let q : Some a ≡ Some x = sym (cond-false (is_some (place a)) (first_outside (a + 1) n) (Some a) f) ∙ e in
          let i : a ≡ x = cc in
          (ap place (sym i) ∙ not_some (place a) f, λ l. omega arith)
    ]

byte_at : (c : List ℕ) (i : ℕ) → Each InByte c → get_or c i 0 < 0x100
byte_at [] i h = omega arith
byte_at (x ∷ xs) zero h = h.0
byte_at (x ∷ xs) (suc i) h = byte_at xs i h.1

word_at : (c : List ℕ) (i : ℕ) → Each InByte c → word c i < 0x10000
unfolding word
word_at c i h = let l = byte_at c i h in let m = byte_at c (suc i) h in omega arith

address_at : (c : List ℕ) → Each InByte c → (fields c).address < 0x1000000
unfolding fields
address_at c h = let l = word_at c 7 h in let m = byte_at c 9 h in omega arith

-- an unknown command is named by its first byte
abbrev Names : ℕ → Command → Type 0
Names c MassErase = Unit {0}
Names c Version = Unit {0}
Names c Reset = Unit {0}
Names c Data = Unit {0}
Names c Key = Unit {0}
Names c (Unknown b) = b ≡ c

longer_names : (c : ℕ) (rest : List ℕ) → Names c (longer c rest)
longer_names c [] =
    cond_both (eqb c 0x15) MassErase _ (Names c) (λ _. tt)
    (λ _. cond_both (eqb c 0x19) Version _ (Names c) (λ _. tt) (λ _. cond_both (eqb c 0x25) Reset (Unknown c) (Names c) (λ _. tt) (λ _. refl)))
longer_names c (b ∷ bs) = refl

unknown_byte : (core : List ℕ) (b : ℕ) → 1 ≤ length core → Each InByte core → command core ≡ Unknown b → b < 0x100
unfolding command
unknown_byte [] b l h e = absurd (omega arith)
unknown_byte (c ∷ rest) b l h e =
    let n : Names c (command (c ∷ rest)) =
    cond_both (eqb c 0x30) Data _ (Names c) (λ _. tt) (λ _. cond_both (eqb c 0x31) Key (longer c rest) (Names c) (λ _. tt) (λ _. longer_names c rest)) in
    let m : b ≡ c = subst (Names c) e n in
    omega (arith, h.0)

abbrev AnswersIn : (Fault → Type 0) → Outcome → Type 0
AnswersIn P o = (f : Fault) → o.answer.refusal ≡ Some f → P f

module _ (C : Cipher) (L : Lawful C) (s : State) (b reply work : ℕ) (fit_reply : 11 ≤ reply) (fit_work : 266 ≤ work) (B : Type 0) where
  abbrev P : Fault → Type 0
  P f = OfByte B b reply work f

  abbrev Answers : Outcome → Type 0
  Answers o = AnswersIn P o

  ends_answers : (o : Outcome) → Ends o → Answers o
  ends_answers o (went_dark r u d) f e = let i : Dark ≡ f = cc in subst P i (fit_reply, fit_work)
  ends_answers o (went_well r) f e = some_none o.answer.refusal f e r

  turn_answers : (r : Receiver) (g : Fault) (bs : List ℕ) → P g → Answers (enact (turns r (refuses g bs)) s)
  unfolding enact
  turn_answers r g bs p f e = let i : g ≡ f = cc in subst P i p

  module _ (core : List ℕ) (some : 1 ≤ length core) (few : length core ≤ 299) (bytes : Each InByte core)
      (opens : (contents key : List ℕ) → (key ≡ data_key s.contents.held) ⊎ (key ≡ kek s.contents.held)
      → C.opened key (iv_of core) (body_of core) ≡ Some contents → B → Each InByte contents) where
    wrong_iv : 17 ≤ length core → C.well_formed (iv_of core) ≡ false → P (BadIv (C.first_wrong (iv_of core)))
    wrong_iv l w = L.wrong_within (iv_of core) (iv_long core l) w

    data_answers : (j : Result Packet Fault) → Errs P j → Answers (enact (on_data j) s)
    unfolding on_data enact
    data_answers (Ok p) l = ends_answers _ (carried_ways _ _ s)
    data_answers (Err f) l = turn_answers idle f (message 5) l

    key_answers : (j : Result KeyPacket Fault) → Errs P j → Answers (enact (on_key j) s)
    unfolding on_key enact
    key_answers (Ok p) l = ends_answers _ (carried_ways _ _ s)
    key_answers (Err f) l = turn_answers idle f (message 5) l

    judged_data : Errs P (judge_data C s core)
    unfolding fields
    judged_data =
        data_errs P s C core (some, few) tt wrong_iv
        (λ c o. fields_errs P s (fields c)
        (λ w. word_at c 1 (opens c _ (inl refl) o w)) (λ e. e) (λ n. (n, λ w. word_at c 1 (opens c _ (inl refl) o w)))
        (λ a e. let r = outside (length (fields c).bytes) (fields c).address a e in (r.0, λ w. r.1 (address_at c (opens c _ (inl refl) o w)))))

    judged_key : Errs P (judge_key C s core)
    unfolding key_fields
    judged_key =
        key_errs P s C core (some, few) tt wrong_iv
        (λ c o. key_fields_errs P s (key_fields c) (λ x y. (x, y, λ w. byte_at c 0 (opens c _ (inr refl) o w))) (λ w. byte_at c 1 (opens c _ (inr refl) o w)))

    obey_answers : (k : Command) → command core ≡ k → Answers (enact (obey C s core k) s)
    unfolding obey enact
    obey_answers MassErase q = ends_answers _ (carried_ways _ _ s)
    obey_answers Version q = λ f e. let z : ◌≡◌ {A = ℕ} 0 1 = cc in absurd (omega arith)
    obey_answers Reset q = λ f e. let z : ◌≡◌ {A = ℕ} 0 1 = cc in absurd (omega arith)
    obey_answers Data q = data_answers _ judged_data
    obey_answers Key q = key_answers _ judged_key
    obey_answers (Unknown c) q = turn_answers idle (UnknownCommand c) (message 7) (unknown_byte core c some bytes q)

  frame_bads : (h : Receiver) → Possible h → InByte b → Bads P (read h b)
  frame_bads h p k =
      read_bads P h b (λ n. (refl, n)) tt
      (λ low i l. let q : InByte low = subst Possible i p in (omega arith, omega arith))
      (λ core low i. let q : Possible (check_high core low) = subst Possible i p in omega (arith, q.3))

module _ (C : Cipher) (L : Lawful C) (s : State) (b reply work : ℕ) (p : Possible s.receiver) (k : InByte b) where
  abbrev e : Event
  e = Byte b reply work

  abbrev B : Type 0
  B = OpensToBytes C (call C s e)

  quietly : (r : Receiver) → (enact (respond C s (part r)) s).answer.refusal ≡ None
  unfolding respond enact
  quietly r = refl

  read_answers : (fr : 11 ≤ reply) → (fw : 266 ≤ work) → (q : Read) → read s.receiver b ≡ q → heard s e ≡ heard_read q
      → AnswersIn (OfByte B b reply work) (enact (respond C s (heard_read q)) s)
  unfolding heard_read respond
  read_answers fr fw (waits r) i a = λ f n. some_none _ f n (quietly r)
  read_answers fr fw (bad f) i a =
      let l : Bads (OfByte B b reply work) (bad f) = subst (Bads (OfByte B b reply work)) i (frame_bads C L s b reply work fr fw B s.receiver p k) in
      turn_answers C L s b reply work fr fw B idle f ((refusal f).number ∷ []) l
  read_answers fr fw (good core) i a =
      let g = good_framed s.receiver b p k core i in
      let n = and_parts (leb 1 (length core)) (leb (length core) 299) g.0.sized in
      obey_answers C L s b reply work fr fw B core (leb-true 1 (length core) n.0) (leb-true (length core) 299 n.1) g.1
      (λ contents key h o w. w core contents key a h o) (command core) refl

  byte_answers : (x y z : Bool) → ltb reply 11 ≡ x → ltb work 266 ≡ y
      → heard s e ≡ cond x (turned_away ReplyShort) (cond y (turned_away WorkShort) (cond z (turned_away Dark) (heard_read (read s.receiver b))))
      → AnswersIn (OfByte B b reply work)
      (enact (respond C s (cond x (turned_away ReplyShort) (cond y (turned_away WorkShort) (cond z (turned_away Dark) (heard_read (read s.receiver b)))))) s)
  unfolding respond enact
  byte_answers true y z i j a f n = let w : ReplyShort ≡ f = cc in subst (OfByte B b reply work) w (ltb-true reply 11 i)
  byte_answers false true z i j a f n = let w : WorkShort ≡ f = cc in subst (OfByte B b reply work) w (ltb-false reply 11 i, ltb-true work 266 j)
  byte_answers false false true i j a f n = let w : Dark ≡ f = cc in subst (OfByte B b reply work) w (ltb-false reply 11 i, ltb-false work 266 j)
  byte_answers false false false i j a f n = read_answers (ltb-false reply 11 i) (ltb-false work 266 j) (read s.receiver b) refl a f n

other_answers : (C : Cipher) (s : State) (h : Heard) (z : Bool) → (enact (respond C s h) s).answer.refusal ≡ None
    → AnswersIn (λ f. f ≡ Dark) (enact (respond C s (cond z (turned_away Dark) h)) s)
unfolding respond enact
other_answers C s h true n f e = cc
other_answers C s h false n f e = some_none _ f e n

call_answers : (C : Cipher) → Lawful C → (s : State) (e : Event) → Possible s.receiver → GivesByte e → AnswersIn (RefusalOf (OpensToBytes C (call C s e)) e) (step C s e)
unfolding step decide heard respond enact
call_answers C L s (Byte b reply work) p k = byte_answers C L s b reply work p k (ltb reply 11) (ltb work 266) s.dark refl refl refl
call_answers C L s Silence p k = other_answers C s silence s.dark refl
call_answers C L s Question p k = other_answers C s question s.dark refl
call_answers C L s (PowerUp u) p k = λ f e. let z : ◌≡◌ {A = ℕ} 0 1 = cc in absurd (omega arith)

pub each_call_has_its_refusals : EachCallHasItsRefusals
each_call_has_its_refusals C L g events k x z c f e r =
    let sp = split C (start g) events x c z e in
    let t = run C (start g) sp.front in
    let b = each_front GivesByte sp.front sp.event sp.back events sp.events_are k in
    let h = read_run C (start g) sp.front [] (start_read g) b.0 in
    subst (λ (d : Call). d.answer.refusal ≡ Some f → RefusalOf (OpensToBytes C d) d.event f) sp.call_is
    (call_answers C L t sp.event h.possible b.1 f) r

-- What a packet that passes shows.
module _ (C : Cipher) (L : Lawful C) (s : State) (e : Event) (core : List ℕ) (p : Packet)
    (key_long : length (data_key s.contents.held) ≡ 16) (a : heard s e ≡ framed core) where
  abbrev key : List ℕ
  key = data_key s.contents.held

  passes_sealed : Passes C (call C s e) p → SealedAs C key core p
  passes_sealed h =
      let same : h.core ≡ core = cc (h.arrives, a) in
      subst (λ (l : List ℕ). SealedAs C key l p) same (sealed_as C L (call C s e) p key_long h)

  ends_unrefused : (o : Outcome) → Ends o → (o.answer.refusal ≡ None) ⊎ (o.answer.refusal ≡ Some Dark)
  ends_unrefused o (went_dark r u d) = inr r
  ends_unrefused o (went_well r) = inl r

  stored_ends : Ends (enact (stores p) s)
  unfolding enact
  stored_ends = carried_ways _ _ s

  passes_unrefused : Passes C (call C s e) p → Unrefused (call C s e)
  unfolding step
  passes_unrefused h = ends_unrefused _ (subst (λ (d : Deed). Ends (enact d s)) (sym (passes_stores C (call C s e) p h)) stored_ends)

  sealed_packet : (q : Packet) → SealedAs C key core p → judge_data C s core ≡ Ok q → q ≡ p
  sealed_packet q h j =
      let o = data_passed C s core q j in
      let i : iv_of core ≡ h.iv = ap iv_of h.core_is ∙ take_at h.iv _ 16 h.iv_bytes in
      let b : body_of core ≡ C.seal key h.iv h.contents = ap body_of h.core_is ∙ drop_at h.iv _ 16 h.iv_bytes in
      let c : C.opened key h.iv (C.seal key h.iv h.contents) ≡ Some h.contents =
      L.complete key h.iv h.contents (key_long, h.iv_bytes, h.well_formed) h.at_most in
      let d : C.opened key (iv_of core) (body_of core) ≡ Some o.contents = o.opens in
      let m : o.contents ≡ h.contents = cc in
      sym o.holds ∙ (ap fields m ∙ h.holds)

  refused_with : (f : Fault) → decide C s e ≡ on_data (Err f) → (step C s e).answer.refusal ≡ Some f
  unfolding step on_data enact
  refused_with f q = ap (λ (d : Deed). (enact d s).answer.refusal) q

  shown : (j : Result Packet Fault) → judge_data C s core ≡ j → Errs Lit j → decide C s e ≡ on_data j → Begins 0x30 core → SealedAs C key core p → Unrefused (call C s e)
      → Passes C (call C s e) p
  shown (Ok q) i l d b h u = record { core = core; arrives = a; begins = b; unrefused = i ∙ ap Ok (sealed_packet q h i) }
  shown (Err f) i l d b h (inl n) = some_none _ f (refused_with f d) n
  shown (Err f) i l d b h (inr n) = let r = refused_with f d in let w : f ≡ Dark = cc in not_lit f l w

  pub shows : (Passes C (call C s e) p → SealedAs C key core p × Unrefused (call C s e)) × (SealedAs C key core p → Unrefused (call C s e) → Passes C (call C s e) p)
  shows = (
    λ h. (passes_sealed h, passes_unrefused h),
    λ h u. let b : Begins 0x30 core = (_, h.core_is) in shown (judge_data C s core) refl (data_lit C s core) (data_decides C (call C s e) core a b) b h u,
  )

abbrev Shown : Cipher → Call → List ℕ → Packet → Type 0
Shown C d core p =
    (Passes C d p → SealedAs C (data_key d.before.contents.held) core p × Unrefused d)
    × (SealedAs C (data_key d.before.contents.held) core p → Unrefused d → Passes C d p)

pub passing_shows : PassingShows
passing_shows C L g events x z c core p e a =
    let sp = split C (start g) events x c z e in
    let t = run C (start g) sp.front in
    let w = sound_run C L (start g) sp.front (sound_start g) in
    subst (λ (d : Call). Arrives d core → Shown C d core p) sp.call_is
    (λ b. shows C L t sp.event core p (each_at t.contents.held.keys 0 w.sixteen (omega (arith, w.two))) b) a
