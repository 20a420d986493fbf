-- What was said, counted.
use Rattle.std.specs.Prelude.{ℕ, ◌+◌, cond, min, Some, None, Option, ◌==◌}
use Rattle.rules.specs.declared.Boot.{Boot}
use Rattle.rules.specs.declared.Boot.TheVariants.{Application, Blank, Unfinished}
use Rattle.sweep.specs.declared.tally.Said.{Said}
use Rattle.sweep.specs.declared.tally.Tally.{Tally}

-- nothing was said yet
abbrev pub said_never : Said
said_never = record { count = 0; first = 0; last = 0 }

-- it was said at one step more; the count stops at 2^32 - 1
abbrev pub noted : ℕ → Said → Said
noted step s = record { count = min (s.count + 1) 0xFFFFFFFF; first = cond (s.count == 0) step s.first; last = step }

-- no question was asked yet
abbrev pub said_nothing : Tally
said_nothing = record { application = said_never; blank = said_never; unfinished = said_never; refused = said_never }

-- a question was answered at a step: by what stands in the memory, or by a refusal
abbrev pub tallied : Option Boot → ℕ → Tally → Tally
tallied (Some Application) step t = record { application = noted step t.application; blank = t.blank; unfinished = t.unfinished; refused = t.refused }
tallied (Some Blank) step t = record { application = t.application; blank = noted step t.blank; unfinished = t.unfinished; refused = t.refused }
tallied (Some Unfinished) step t = record { application = t.application; blank = t.blank; unfinished = noted step t.unfinished; refused = t.refused }
tallied None step t = record { application = t.application; blank = t.blank; unfinished = t.unfinished; refused = noted step t.refused }
