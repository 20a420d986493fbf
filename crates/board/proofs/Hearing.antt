-- What the board makes of a byte, from what the receiver answers and a core command comes to.
use Rattle.std.proofs.Common.{◌≡◌, ℕ, Bool, false, List, Some, None, Ok, Err, Result, sym, refl, ap, ◌∙◌, arith}
use Rattle.std.proofs.lemmas.Bool.{cond-false, cond-true}
use Rattle.fault.specs.declared.Fault.{Fault}
use Rattle.cipher.specs.Cipher.{Cipher}
use Rattle.memory.specs.Meaning.{Meaning}
use Rattle.board.specs.Outcomes.{board_with, is_dark, lit_board, refused_sends}
use Rattle.rules.specs.Receiver as rules
use Rattle.rules.specs.Receiver.{Read, read}
use Rattle.rules.specs.Receiver.Receiver.{idle}
use Rattle.rules.specs.Receiver.Read.{waits, bad, good}
use Rattle.rules.specs.Commands.{command}
use Rattle.rules.specs.declared.Command.{Command}
use Rattle.rules.specs.declared.Command.TheVariants.{MassErase, Version, Reset, Data, Key, Unknown}
use Rattle.rules.specs.declared.Session.{Session}
use Rattle.rules.specs.Board.{KeyPacket, Outcome, Packet, State, carry_out, enact, heard_read, judge_data, judge_fields, judge_key, judge_key_fields, obey, on_data, on_key, refuses, respond}
use Rattle.rules.proofs.Refusing.{read_refused}
use Rattle.board.specs.declared.reply.Reply.{Reply}
use Rattle.board.specs.declared.reply.Reply.TheVariants.{Nothing}
use Rattle.board.specs.Reading.{answer_by, left_by}
use Rattle.board.specs.Sending.{on_byte, outcome_of}

-- from the receiver's answer back to what was read
pub read_bad : (r : Read) (f : Fault) → Err f ≡ answer_by r → r ≡ bad f
read_bad (waits h) f e = let z : ◌≡◌ {A = ℕ} 0 1 = cc in absurd (omega arith)
read_bad (bad g) f e = let q : g ≡ f = cc in ap bad q
read_bad (good c) f e = let z : ◌≡◌ {A = ℕ} 0 1 = cc in absurd (omega arith)

pub read_waits : (r : Read) → Ok None ≡ answer_by r → r ≡ waits (left_by r)
read_waits (waits h) e = refl
read_waits (bad f) e = let z : ◌≡◌ {A = ℕ} 0 1 = cc in absurd (omega arith)
read_waits (good c) e = let z : ◌≡◌ {A = ℕ} 0 1 = cc in absurd (omega arith)

pub read_good : (r : Read) (core : List ℕ) → Ok (Some core) ≡ answer_by r → r ≡ good core
read_good (waits h) core e = let z : ◌≡◌ {A = ℕ} 0 1 = cc in absurd (omega arith)
read_good (bad f) core e = let z : ◌≡◌ {A = ℕ} 0 1 = cc in absurd (omega arith)
read_good (good c) core e = let q : c ≡ core = cc in ap good q

-- what a byte leaves and answers
abbrev pub heard_as : Meaning → rules.Receiver → Session → Result Reply Fault → Outcome
heard_as m h n r = outcome_of (board_with m h n false) r

-- a board that is not dark: its memory, receiver and session
module _ (C : Cipher) (m : Meaning) (h : rules.Receiver) (n : Session) (d : Bool) (lit : d ≡ false) (b : ℕ) where
  abbrev s : Bool → State
  s x = board_with m h n x

  abbrev made : Read → Bool → Outcome
  made r x = enact (respond C (s x) (heard_read r)) (s x)

  reads : (r : Read) → read h b ≡ r → made r false ≡ on_byte C (s d) b
  unfolding on_byte
  reads r e = ap (λ x. made x false) (sym e) ∙ ap (made (read h b)) (sym lit)

  -- a bad frame
  pub hears_bad : (h' : rules.Receiver) (f : Fault) → h' ≡ left_by (read h b) → read h b ≡ bad f → heard_as m h' n (Err f) ≡ on_byte C (s d) b
  unfolding respond heard_read enact
  hears_bad h' f k e =
      let q = read_refused h b f e in
      let o : Bool → rules.Receiver → List ℕ → Outcome = λ x y bs. record { state = board_with m y n x; answer = refuses f bs } in
      ap (λ y. o (is_dark f) y (refused_sends f)) (k ∙ ap left_by e)
      ∙ ap (λ x. o x idle (refused_sends f)) q.0
      ∙ ap (o false idle) (cond-false _ _ _ q.0 ∙ cond-false _ _ _ q.1 ∙ cond-true _ _ _ q.2)
      ∙ reads (bad f) e

  -- a part of a frame
  pub hears_part : (h' : rules.Receiver) → h' ≡ left_by (read h b) → read h b ≡ waits (left_by (read h b)) → heard_as m h' n (Ok Nothing) ≡ on_byte C (s d) b
  unfolding respond heard_read enact
  hears_part h' k e = ap (λ y. heard_as m y n (Ok Nothing)) k ∙ reads (waits (left_by (read h b))) e

  -- a packet is judged alike, whatever the receiver
  data_alike : (j : Result Packet Fault) → enact (on_data j) (lit_board m n) ≡ enact (on_data j) (s false)
  unfolding on_data enact carry_out
  data_alike (Ok p) = refl
  data_alike (Err f) = refl

  key_alike : (j : Result KeyPacket Fault) → enact (on_key j) (lit_board m n) ≡ enact (on_key j) (s false)
  unfolding on_key enact carry_out
  key_alike (Ok p) = refl
  key_alike (Err f) = refl

  obeys_alike : (core : List ℕ) (k : Command) → enact (obey C (lit_board m n) core k) (lit_board m n) ≡ enact (obey C (s false) core k) (s false)
  unfolding obey enact carry_out judge_data judge_fields judge_key judge_key_fields
  obeys_alike core MassErase = refl
  obeys_alike core Version = refl
  obeys_alike core Reset = refl
  obeys_alike core Data = data_alike (judge_data C (lit_board m n) core)
  obeys_alike core Key = key_alike (judge_key C (lit_board m n) core)
  obeys_alike core (Unknown c) = refl

  -- a core command
  pub hears_core : (o : Outcome) (core : List ℕ) → read h b ≡ good core → o ≡ enact (obey C (lit_board m n) core (command core)) (lit_board m n) → o ≡ on_byte C (s d) b
  unfolding respond heard_read
  hears_core o core e k = k ∙ obeys_alike core (command core) ∙ reads (good core) e
