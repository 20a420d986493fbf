-- What is stored is read back, and nothing else changes.
use Rattle.std.proofs.Common.{◌≡◌, ℕ, ◌<◌, length, is_some, Some, None, Ok, Err, Option, sym, refl, ap, ◌∙◌, inl, inr, arith}
use Rattle.std.proofs.lemmas.List.{get_or-set_other, get_or-set_same}
use Rattle.std.proofs.lemmas.Bool.{cases_Bool}
use Rattle.fault.specs.declared.Fault.{Fault}
use Rattle.fault.specs.declared.Fault.TheVariants.{Dark, OutsideMap}
use Rattle.memory.specs.Areas.{address_at, map_size, place}
use Rattle.memory.specs.Laws.{StoredBack, StoresAreReadBack}
use Rattle.memory.specs.Meaning.{Contents, Meaning, after, answer, put_at, read_at, read_of, with_image}
use Rattle.memory.specs.Meaning.Step.{store}
use Rattle.memory.specs.Supply.{lit, spent}
use Rattle.memory.proofs.OneStep.{dark, made, outside}
use Rattle.memory.proofs.Places.{address_back, place_within}

-- a byte that is put at a place is read there, and nowhere else
module _ (a v p : ℕ) (c : Contents) (e : place a ≡ Some p) where
  put_there : length c.image ≡ map_size → read_of (with_image (put_at (place a) v c.image) c) a ≡ Ok v
  unfolding read_of
  put_there l =
      let w : p < length c.image = omega (arith, place_within a p e) in
      ap (λ o. read_at o (put_at o v c.image)) e ∙ ap Ok (get_or-set_same c.image p v 0 w)

  other_place : (b : ℕ) (o : Option ℕ) → (b ≡ a → ⊥) → place b ≡ o → read_at o (put_at (Some p) v c.image) ≡ read_at o c.image
  other_place b None n f = refl
  other_place b (Some q) n f =
      ap Ok (get_or-set_other c.image p q v 0 (λ z. n (sym (address_back b q f) ∙ ap address_at z ∙ address_back a p e)))

  put_elsewhere : (b : ℕ) → (b ≡ a → ⊥) → read_of (with_image (put_at (place a) v c.image) c) b ≡ read_of c b
  unfolding read_of
  put_elsewhere b n = ap (λ o. read_at (place b) (put_at o v c.image)) e ∙ other_place b (place b) n refl

module _ (a v : ℕ) (m : Meaning) where
  -- a refused store: the law asks nothing of the address
  unmade : (f : Fault) → StoredBack a v m m (Err f)
  unmade f = record {
    there = λ h. let z : ◌≡◌ {A = ℕ} 0 1 = cc in absurd (omega arith);
    elsewhere = λ b n. refl;
    same_held = refl;
    refused = λ e h. refl;
  }

  kept : (p : ℕ) → place a ≡ Some p → length m.contents.image ≡ map_size
      → StoredBack a v m (record { contents = with_image (put_at (place a) v m.contents.image) m.contents; supply = spent m.supply }) (Ok tt)
  kept p e l = record {
    there = λ h. put_there a v p m.contents e l;
    elsewhere = put_elsewhere a v p m.contents e;
    same_held = refl;
    refused = λ f h. let z : ◌≡◌ {A = ℕ} 0 1 = cc in absurd (omega arith);
  }

  by_place : (o : Option ℕ) → place a ≡ o → length m.contents.image ≡ map_size → StoredBack a v m (after (store a v) m) (answer (store a v) m)
  by_place None e l =
      let q = outside (store a v) m _ refl (ap is_some e) in
      rw (← q.after, ← q.value) (unmade OutsideMap)
  by_place (Some p) e l =
      elim (cases_Bool (lit m.supply)) [
        | inl t ↦ let q = made (store a v) m _ _ refl refl (ap is_some e) t in rw (← q.after, ← q.value) (kept p e l)
        | inr t ↦ let q = dark (store a v) m (ap is_some e) t in rw (← q.after, ← q.value) (unmade Dark)
      ]

-- the law of any memory whose image is as long as the map
pub stores_are_read_back : (m : Meaning) → length m.contents.image ≡ map_size → StoresAreReadBack m
stores_are_read_back m l a v = by_place a v m (place a) refl l
