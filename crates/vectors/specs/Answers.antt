-- What the ciphers answer.
use Rattle.std.specs.Prelude.{ℕ, List, Some, None, Ok, Err, Option, Result}
use Rattle.fault.specs.Checks.{then}
use Rattle.fault.specs.declared.Fault.{Fault}
use Rattle.fault.specs.declared.Fault.TheVariants.{NotOpened}
use Rattle.cipher.specs.Cipher.{Cipher, iv_checked}

-- the body that contents seal to, if the IV is well formed
abbrev pub sealed : Cipher → List ℕ → List ℕ → List ℕ → Result (List ℕ) Fault
sealed C key iv contents = then (iv_checked C iv) (Ok (C.seal key iv contents))

-- the contents, or refusal 12 where the body does not open
abbrev pub contents_or_none : Option (List ℕ) → Result (List ℕ) Fault
contents_or_none None = Err NotOpened
contents_or_none (Some c) = Ok c

-- the contents that a body opens to, if the IV is well formed and there are some
abbrev pub opened : Cipher → List ℕ → List ℕ → List ℕ → Result (List ℕ) Fault
opened C key iv body = then (iv_checked C iv) (contents_or_none (C.opened key iv body))
