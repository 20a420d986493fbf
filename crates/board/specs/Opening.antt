-- What opening a packet comes to, and what lies in the work buffer then.
use Rattle.std.specs.Prelude.{ℕ, List, Ok, Err, Result}
use Rattle.fault.specs.Checks.{then}
use Rattle.fault.specs.declared.Fault.{Fault}
use Rattle.cipher.specs.Cipher.{Cipher, iv_checked}
use Rattle.rules.specs.Packets.{iv_of, body_of}
use Rattle.rules.specs.Board.{on_opened}

-- what is read of the contents of a core command under a key: refused at its IV, or where it does not open
abbrev pub opened_by : {A : Type 0} → Cipher → (List ℕ → A) → List ℕ → List ℕ → Result A Fault
opened_by C f key core = then (iv_checked C (iv_of core)) (on_opened (λ c. Ok (f c)) (C.opened key (iv_of core) (body_of core)))

-- an answer whose value is completed by what lies in the work buffer
abbrev pub with_work : {X Y : Type 0} → (X → List ℕ → Y) → List ℕ → Result X Fault → Result Y Fault
with_work f work (Ok x) = Ok (f x work)
with_work f work (Err e) = Err e
