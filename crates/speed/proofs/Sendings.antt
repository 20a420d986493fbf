-- One more of what is sent.
use Rattle.std.proofs.Common.{◌≡◌, ℕ, ◌+◌, List, ◌++◌, add-one, refl, subst, sym}
use Rattle.wire.specs.Frame.{frame}
use Rattle.example.specs.Frames.{calls, erase_calls}
use Rattle.speed.specs.Sending.{erases_calls, first_packet, first_packet_calls}

-- the calls of one version more
pub update_more : (key : List ℕ) (n : ℕ) → first_packet_calls key n ++ calls (frame (first_packet key (n + 1))) ≡ first_packet_calls key (n + 1)
update_more key n =
    let P : ℕ → Type 0 = λ m. first_packet_calls key n ++ calls (frame (first_packet key m)) ≡ first_packet_calls key m in
    subst P (sym (add-one n)) refl

-- the calls of one erase more
pub erase_more : (n : ℕ) → erases_calls n ++ erase_calls ≡ erases_calls (n + 1)
erase_more n = rw add-one
