-- The fixed byte of a scrambler, known by one byte that is read through it and below it.
use Rattle.std.proofs.Common.{◌≡◌, ℕ, length, get_or, Some, Ok, Result, refl, sym, ap, ◌∙◌}
use lib.Bits.{bit_xor, xor_assoc, xor_self, xor_zero_l}
use Rattle.fault.specs.declared.Fault.{Fault}
use Rattle.memory.specs.Areas.{all_areas, map_size, place}
use Rattle.memory.specs.Meaning.{Contents, Meaning, read_at, read_of}
use Rattle.memory.specs.Scrambled.{clear_meaning, mask}
use Rattle.memory.proofs.Through.{read_clear, under}

first_place : place 0x1800 ≡ Some 0
unfolding place all_areas
first_place = refl

first_read : (c : Contents) → read_of c 0x1800 ≡ Ok (get_or c.image 0 0)
unfolding read_of
first_read c = ap (λ o. read_at o c.image) first_place

-- b is kept where x is clear
same_value : (x b : ℕ) → ◌≡◌ {A = Result ℕ Fault} (Ok x) (Ok b) → x ≡ b
same_value x b e = cc

pub fixed_known : (f k x b : ℕ) (m n : Meaning) → length m.contents.image ≡ map_size → clear_meaning f m ≡ n → Ok x ≡ read_of n.contents 0x1800
    → b ≡ get_or m.contents.image 0 0 → bit_xor b x ≡ k → f ≡ k
fixed_known f k x b m n l e h i j =
    let there = h ∙ ap (λ (q : Meaning). read_of q.contents 0x1800) (sym e) ∙ sym (read_clear f 0x1800 m.contents l) ∙ ap (under (λ y. bit_xor y (mask f 0x1800))) (first_read m.contents) in
    let clear : x ≡ bit_xor b f = same_value x _ there ∙ ap (λ y. bit_xor y (bit_xor 0 f)) (sym i) ∙ ap (bit_xor b) (xor_zero_l f) in
    sym (sym j ∙ ap (bit_xor b) clear ∙ sym (xor_assoc b b f) ∙ ap (λ y. bit_xor y f) (xor_self b) ∙ xor_zero_l f)
