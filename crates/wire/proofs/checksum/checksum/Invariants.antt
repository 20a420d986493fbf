-- What is left of the bytes makes the checksum of them all.
use Rattle.std.proofs.Common.{◌≡◌, drop}
use Rattle.wire.specs.Checksum.{crc_from}
use Rattle.wire.proofs.checksum.checksum.Given as goal

abbrev pub invariant-loop-b : goal.invariant-loop-b
invariant-loop-b l = crc_from l.sum (drop l.b-index l.bytes) ≡ crc_from 0xFFFF l.bytes
