-- What the words behind the program's name ask for.
use Rattle.std.specs.Prelude.{ℕ, cond, List, [], ◌∷◌, codes, Some, None, Option}
use Rattle.std.specs.Str.{bytes_eq}
use Rattle.listing.specs.declared.rows.Detail.{Detail}
use Rattle.listing.specs.declared.rows.Detail.TheVariants.{Number, Place}

-- what rows are to show of refusals: the number alone, or with `--places` layer and place too; nothing at other words
abbrev pub detail_asked : List (List ℕ) → Option Detail
detail_asked [] = Some Number
detail_asked (word ∷ []) = cond (bytes_eq word (codes "--places")) (Some Place) None
detail_asked (word ∷ more ∷ rest) = None
