-- The bars of the chart.
use Rattle.std.specs.Prelude.{ℕ, ◌*◌, max}
use Rattle.std.specs.Int.{div_ceil}

-- the length of a part's bar, where the whole has 32 characters; rounded up, a whole of 0 counts as 1
abbrev pub bar_length : ℕ → ℕ → ℕ
bar_length part whole = div_ceil (part * 32) (max whole 1)
