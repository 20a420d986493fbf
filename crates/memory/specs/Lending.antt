-- A key record that is lent out of a key table.
use Rattle.std.specs.Prelude.{List, slice_set}
use Rattle.std.specs.Borrow.{Array, Fml, Lends, MutBor}
use Rattle.memory.specs.Held.{slot_place}
use Rattle.memory.specs.declared.held.KeyRecord.{KeyRecord}
use Rattle.memory.specs.declared.held.KeySlot.{KeySlot}
use Rattle.memory.specs.contracts.held.KeyRecord.{the_row}

-- the table ends with the last value behind r in the slot's place
abbrev pub LendsRecord : MutBor (List KeyRecord) → KeySlot → MutBor KeyRecord → Fml
LendsRecord s k r = Lends (Array the_row 0) the_row s r (slice_set s.now (slot_place k))
