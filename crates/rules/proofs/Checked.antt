-- The checked examples hold.
use Rattle.std.proofs.Common.{refl}
use Rattle.wire.specs.Checksum.{Examples, crc, crc_from, crc_byte, crc_bits}
use Rattle.memory.proofs.Places.{range_examples}
use Rattle.rules.specs.Examples.{CheckedExamples}
use Rattle.rules.proofs.SameVersion.{same_version}

checksums : Examples
unfolding crc crc_from crc_byte crc_bits
checksums = (refl, (refl, (refl, (refl, (refl, tt)))))

pub checked_examples : CheckedExamples
checked_examples = record {
  checksums = checksums;
  stores = range_examples;
  held_version = same_version;
}
