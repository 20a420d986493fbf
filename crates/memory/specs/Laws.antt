-- What is stored is read back, and nothing else changes.
use Rattle.std.specs.Prelude.{◌≡◌, ℕ, Ok, Err, Result, ◌≢◌}
use Rattle.fault.specs.declared.Fault.{Fault}
use Rattle.memory.specs.Meaning.{Meaning, after, answer, read_of}
use Rattle.memory.specs.Meaning.Step.{store}

-- storing v at address a: the meanings before and after, and the answer
pub record StoredBack (a v : ℕ) (before after : Meaning) (r : Result (Unit {0}) Fault) : Type 0 where
  -- if it succeeds, the address reads as the value
  pub there : r ≡ Ok tt → read_of after.contents a ≡ Ok v
  -- every other address reads as before
  pub elsewhere : (b : ℕ) → (b ≢ a) → read_of after.contents b ≡ read_of before.contents b
  -- the held record stays
  pub same_held : after.contents.held ≡ before.contents.held
  -- a refusal changes nothing
  pub refused : (e : Fault) → r ≡ Err e → after ≡ before

-- so it is of the step that stores a byte, whatever address and byte
abbrev pub StoresAreReadBack : Meaning → Type 0
StoresAreReadBack m = (a v : ℕ) → StoredBack a v m (after (store a v) m) (answer (store a v) m)
