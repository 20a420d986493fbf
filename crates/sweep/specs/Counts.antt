-- Counts of sweeps.
use Rattle.std.specs.Prelude.{◌+◌, min}
use Rattle.sweep.specs.declared.counts.Counts.{Counts}

-- those of two sweeps together, each at most 2^32 - 1
abbrev pub both : Counts → Counts → Counts
both a b = record { cuts = min (a.cuts + b.cuts) 0xFFFFFFFF; half = min (a.half + b.half) 0xFFFFFFFF }
