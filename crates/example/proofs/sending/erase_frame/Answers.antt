use Rattle.std.proofs.Common.{refl}
use Rattle.wire.specs.Checksum.{crc, crc_bits, crc_byte, crc_from}
use Rattle.wire.specs.Frame.{frame}
use Rattle.example.proofs.sending.erase_frame.Goals as goal

pub returns : goal.returns
unfolding frame crc crc_from crc_byte crc_bits
returns c = refl
