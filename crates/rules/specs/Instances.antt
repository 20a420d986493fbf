-- Runs that the promises speak of, of calls that give bytes: none of the promises is empty.
use Rattle.std.specs.Prelude.{◌≡◌, ℕ, ◌<◌, List, [], ◌∷◌, ◌++◌, length, Some}
use Rattle.fault.specs.declared.Fault.TheVariants.{Dark}
use Rattle.cipher.specs.Cipher.{Cipher, Lawful}
use Rattle.rules.specs.declared.Event.{Event}
use Rattle.rules.specs.Board.{Call, Packet, history}
use Rattle.rules.specs.Words.{Each, version, Boots, Arrives, Begins, Taken, Refused, Opens}
use Rattle.rules.specs.Promises.{Given, start, UsedUp, SameKey, Endlessly, Parted}
use Rattle.rules.specs.Arrival.{GivesByte}

-- Between two boot questions, both answered 'application', an update opens and is cut by the power; its packet is sent again and taken.
pub record ResumedUpdate : Type 0 where
  pub cipher : Cipher
  pub lawful : Lawful cipher
  pub given : Given
  pub events : List Event
  pub of_bytes : Each GivesByte events
  pub first_question : Call
  pub between : List Call
  pub second_question : Call
  pub is : history cipher (start given) events ≡ first_question ∷ (between ++ second_question ∷ [])
  pub boots_first : Boots first_question
  pub boots_second : Boots second_question
  pub ahead : List Call
  pub cut : Call
  pub waiting : List Call
  pub resumed : Call
  pub between_is : between ≡ ahead ++ cut ∷ (waiting ++ resumed ∷ [])
  pub packet : Packet
  pub opens_cut : Opens cipher cut packet
  pub went_dark : cut.answer.refusal ≡ Some Dark
  pub opens_resumed : Opens cipher resumed packet
  pub taken : Taken resumed
  pub risen : version first_question.before < version second_question.before

-- A packet that begins with this byte was taken, as a key packet or in an update that is finished. It arrives again, under the same key
-- value, and is refused.
pub record Replay (command : ℕ) : Type 0 where
  pub cipher : Cipher
  pub lawful : Lawful cipher
  pub given : Given
  pub events : List Event
  pub of_bytes : Each GivesByte events
  pub ahead : List Call
  pub first_time : Call
  pub between : List Call
  pub second_time : Call
  pub is : history cipher (start given) events ≡ (ahead ++ first_time ∷ between) ++ second_time ∷ []
  pub core : List ℕ
  pub begins : Begins command core
  pub arrives : Arrives first_time core
  pub arrives_again : Arrives second_time core
  pub same_key : SameKey core first_time second_time
  pub used_up : UsedUp cipher (ahead ++ first_time ∷ between) first_time core
  pub refused : Refused second_time

-- Two boards that differ in their keys get the same calls, with supplies without end; at one packet they part.
pub record Parting : Type 0 where
  pub cipher : Cipher
  pub lawful : Lawful cipher
  pub given : Given
  pub other : Given
  pub events : List Event
  pub of_bytes : Each GivesByte events
  pub endless : Each Endlessly events
  pub ahead : List Call
  pub takes : Call
  pub other_ahead : List Call
  pub refuses : Call
  pub is : history cipher (start given) events ≡ ahead ++ takes ∷ []
  pub other_is : history cipher (start other) events ≡ other_ahead ++ refuses ∷ []
  pub same_place : length ahead ≡ length other_ahead
  pub taken : Taken takes
  pub refused : Refused refuses
  pub parted : Parted takes refuses

-- there are such runs
abbrev pub RunsExist : Type 0
RunsExist = ResumedUpdate × Replay 0x30 × Replay 0x31 × Parting
