-- Every run of a fresh board keeps the three promises.
use Rattle.std.proofs.Common.{List}
use Rattle.cipher.specs.Cipher.{Cipher, Lawful}
use Rattle.rules.specs.declared.Event.{Event}
use Rattle.rules.specs.Promises.{Given, KeptPromises}
use Rattle.rules.proofs.Twins
use Rattle.rules.proofs.Once
use Rattle.rules.proofs.Updates

pub kept_promises : (C : Cipher) → Lawful C → (g : Given) (es : List Event) → KeptPromises C g es
kept_promises C L g es = record {
  updates_are_whole = Updates.updates_are_whole C L g es;
  no_packet_is_taken_twice = Once.no_packet_is_taken_twice C L g es;
  answers_tell_nothing = λ D M k. Twins.answers_tell_nothing C D L M g k es;
}
