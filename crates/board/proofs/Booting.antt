-- What a boot question finds, from what is read.
use Rattle.std.proofs.Common.{◌≡◌, ℕ, Bool, true, false, cond, ◌&&◌, eqb, List, Some, None, Option, sym, refl, ap, ◌∙◌, ap₂}
use Rattle.std.proofs.lemmas.Bool.{cond-false, cond-true}
use Rattle.memory.specs.Areas.{place}
use Rattle.memory.specs.Meaning.{Contents, read_at, read_of}
use Rattle.rules.specs.Board.{boot}
use Rattle.rules.specs.Memory.{at_place, byte_at}
use Rattle.rules.specs.declared.Boot.TheVariants.{Application, Blank, Unfinished}
use Rattle.board.specs.Booting.{reads_blank}

blank_at : (o : Option ℕ) (xs : List ℕ) → reads_blank (read_at o xs) ≡ eqb (at_place o xs) 0xFF
blank_at None xs = refl
blank_at (Some p) xs = refl

blank_read : (c : Contents) (a : ℕ) → reads_blank (read_of c a) ≡ eqb (byte_at c a) 0xFF
unfolding read_of
blank_read c a = blank_at (place a) c.image

-- the two vector bytes, as they are read
abbrev vector_blank : Contents → Bool
vector_blank c = reads_blank (read_of c 0xFFFE) && reads_blank (read_of c 0xFFFF)

module _ (c : Contents) where
  pub boot_unfinished : c.held.unfinished ≡ true → Unfinished ≡ boot c
  unfolding boot
  boot_unfinished h = sym (cond-true _ _ _ h)

  module _ (h : c.held.unfinished ≡ false) where
    found : (b : Bool) → vector_blank c ≡ b → cond b Blank Application ≡ boot c
    unfolding boot
    found b e = ap (λ x. cond x Blank Application) (sym e ∙ ap₂ ◌&&◌ (blank_read c 0xFFFE) (blank_read c 0xFFFF)) ∙ sym (cond-false _ _ _ h)

    pub boot_blank : reads_blank (read_of c 0xFFFE) ≡ true → reads_blank (read_of c 0xFFFF) ≡ true → Blank ≡ boot c
    boot_blank l u = found true (ap₂ ◌&&◌ l u)

    pub boot_low : reads_blank (read_of c 0xFFFE) ≡ false → Application ≡ boot c
    boot_low l = found false (ap (λ x. x && reads_blank (read_of c 0xFFFF)) l)

    pub boot_high : reads_blank (read_of c 0xFFFE) ≡ true → reads_blank (read_of c 0xFFFF) ≡ false → Application ≡ boot c
    boot_high l u = found false (ap₂ ◌&&◌ l u)
