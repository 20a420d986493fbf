use Rattle.std.proofs.Common.{◌≡◌, ◌+◌, ◌≤◌, ◌++◌, length, take, vec_items, vec_len, vec_capacity}
use Rattle.example.specs.Frames.{calls}
use Rattle.example.proofs.sending.push_frame.Given as goal

abbrev pub invariant-loop-byte : goal.invariant-loop-byte
invariant-loop-byte l =
    (vec_items l.events ≡ vec_items l.initial.events ++ calls (take l.byte-index l.bytes))
    × (vec_len l.events ≡ vec_len l.initial.events + l.byte-index)
    × (vec_len l.initial.events + length l.bytes ≤ vec_capacity l.events)
