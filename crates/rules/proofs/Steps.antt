-- What lists of storing steps do to the contents, wherever the power fails.
use Rattle.std.proofs.Common.{◌≡◌, ℕ, zero, suc, ◌+◌, Bool, true, false, cond, ◌⊎◌, List, [], ◌∷◌, ◌++◌, length, get_or, set, Some, None, Option, refl, ap, ◌∙◌, inl, inr, arith, length-set}
use Rattle.std.proofs.lemmas.List.{get_or-set_same}
use Rattle.std.proofs.lemmas.Bool.{and_from, eq-eqb}
use Rattle.memory.specs.declared.held.Held.{Held}
use Rattle.memory.specs.declared.supply.Supply.{Supply}
use Rattle.memory.specs.declared.supply.Supply.TheVariants.{NoEnd, Steps}
use Rattle.memory.specs.Held.{slot_place}
use Rattle.memory.specs.Meaning.{put_at, Contents, Step, apply, perform}
use Rattle.memory.specs.Meaning.Step.{store, set_vector, set_version, set_key}
use Rattle.memory.specs.Steps.{round, store_up, blanks, erase_steps}
use Rattle.rules.specs.Memory.{at_place, lay, blank}
use Rattle.memory.specs.Areas.{map_size}
use Rattle.memory.specs.Areas.{place, all_areas}
use Rattle.std.specs.List.{flat_map}
use Rattle.memory.proofs.Performs.{Keeps, applied, perform_dark, perform_keeps}
use Rattle.memory.proofs.Places.{vector_place}
use Rattle.rules.specs.Words.{Each}

pub supply_cases : (u : Supply) → (u ≡ Steps 0) ⊎ (u ≡ Steps 0 → ⊥)
supply_cases NoEnd = inr (λ e. let z : ◌≡◌ {A = ℕ} 0 1 = cc in omega arith)
supply_cases (Steps zero) = inl refl
supply_cases (Steps (suc n)) = inr (λ e. let z : suc n ≡ 0 = cc in omega arith)

pub each_append : {A : Type 0} (P : A → Type 0) (xs ys : List A) → Each P xs → Each P ys → Each P (xs ++ ys)
each_append P [] ys h k = k
each_append P (x ∷ xs) ys h k = (h.0, each_append P xs ys h.1 k)

each_step : (P : Step → Type 0) → ((x : Step) → P x) → (xs : List Step) → Each P xs
each_step P h [] = tt
each_step P h (x ∷ xs) = (h x, each_step P h xs)

-- the first step is made, unless the supply is 0
pub performed_first : (P : Contents → Type 0) (x : Step) (xs : List Step) → Each (Keeps P) xs → (u : Supply) (c : Contents) → (u ≡ Steps 0 → ⊥) → P (apply x c)
    → P (perform (x ∷ xs) u c).contents
unfolding perform
performed_first P x xs h NoEnd c n p = perform_keeps P xs h NoEnd (apply x c) p
performed_first P x xs h (Steps zero) c n p = absurd (n refl)
performed_first P x xs h (Steps (suc k)) c n p = perform_keeps P xs h (Steps k) (apply x c) p

-- at supply 0 no step is made
pub performed_none : (x : Step) (xs : List Step) (u : Supply) (c : Contents) → u ≡ Steps 0 → ((perform (x ∷ xs) u c).contents ≡ c) × ((perform (x ∷ xs) u c).dark ≡ true)
unfolding perform
performed_none x xs NoEnd c e = let z : ◌≡◌ {A = ℕ} 0 1 = cc in absurd (omega arith)
performed_none x xs (Steps zero) c e = (refl, refl)
performed_none x xs (Steps (suc k)) c e = let z : suc k ≡ 0 = cc in absurd (omega arith)

applied_append : (xs ys : List Step) (c : Contents) → applied (xs ++ ys) c ≡ applied ys (applied xs c)
unfolding applied
applied_append [] ys c = refl
applied_append (x ∷ xs) ys c = applied_append xs ys (apply x c)

applied_stores : (a : ℕ) (bs : List ℕ) (c : Contents) → applied (store_up a bs) c ≡ record { image = lay a bs c.image; held = c.held }
unfolding applied lay
applied_stores a [] c = refl
applied_stores a (b ∷ bs) c = applied_stores (a + 1) bs _

-- the held record after the steps of a data packet: whether they open, and whether they finish the update
abbrev pub written : Bool → Bool → ℕ → Held → Held
written a true v h = record { version = v; unfinished = false; keys = h.keys }
written true false v h = record { version = v; unfinished = true; keys = h.keys }
written false false v h = h

module _ (ad : ℕ) (bs : List ℕ) (v : ℕ) where
  abbrev tail : Bool → List Step
  tail b = store_up ad bs ++ cond b (set_version v false ∷ []) []

  abbrev pub packet_steps : Bool → Bool → List Step
  packet_steps a b = cond a (set_version v true ∷ []) [] ++ tail b

  applied_tail : (b : Bool) (c : Contents) → applied (tail b) c ≡ record { image = lay ad bs c.image; held = written false b v c.held }
  unfolding applied
  applied_tail true c = applied_append (store_up ad bs) (set_version v false ∷ []) c ∙ ap (apply (set_version v false)) (applied_stores ad bs c)
  applied_tail false c = applied_append (store_up ad bs) [] c ∙ applied_stores ad bs c

  pub applied_packet : (a b : Bool) (c : Contents) → applied (packet_steps a b) c ≡ record { image = lay ad bs c.image; held = written a b v c.held }
  unfolding applied
  applied_packet true true c = applied_tail true _
  applied_packet true false c = applied_tail false _
  applied_packet false b c = applied_tail b c

  stores_keep_held : (h : Held) (a : ℕ) (ds : List ℕ) → Each (Keeps (λ c. c.held ≡ h)) (store_up a ds)
  stores_keep_held h a [] = tt
  stores_keep_held h a (d ∷ ds) = (λ c e. e, stores_keep_held h (a + 1) ds)

  -- gone dark, the closing step was not made
  dark_tail : (b : Bool) (u : Supply) (c : Contents) → (perform (tail b) u c).dark ≡ true → (perform (tail b) u c).contents.held ≡ c.held
  dark_tail true u c d = perform_dark (λ x. x.held ≡ c.held) (store_up ad bs) (set_version v false) (stores_keep_held c.held ad bs) u c d refl
  dark_tail false u c d = perform_keeps (λ x. x.held ≡ c.held) (store_up ad bs ++ []) (each_append _ (store_up ad bs) [] (stores_keep_held c.held ad bs) tt) u c refl

  pub dark_packet : (b : Bool) (u : Supply) (c : Contents) → (perform (packet_steps false b) u c).dark ≡ true → (perform (packet_steps false b) u c).contents.held ≡ c.held
  dark_packet b u c d = dark_tail b u c d

  -- a first packet: the opening step was made, unless the supply was 0
  pub dark_opening : (b : Bool) (u : Supply) (c : Contents) → (perform (packet_steps true b) u c).dark ≡ true → (u ≡ Steps 0 → ⊥)
      → (perform (packet_steps true b) u c).contents.held ≡ record { version = v; unfinished = true; keys = c.held.keys }
  unfolding perform
  dark_opening b NoEnd c d n = dark_tail b NoEnd _ d
  dark_opening b (Steps zero) c d n = absurd (n refl)
  dark_opening b (Steps (suc k)) c d n = dark_tail b (Steps k) _ d

  pub opening_none : (b : Bool) (u : Supply) (c : Contents) → u ≡ Steps 0 → ((perform (packet_steps true b) u c).contents ≡ c) × ((perform (packet_steps true b) u c).dark ≡ true)
  opening_none b u c e = performed_none (set_version v true) (tail b) u c e

-- lengths stay
pub put_long : (o : Option ℕ) (v : ℕ) (xs : List ℕ) → length (put_at o v xs) ≡ length xs
put_long None v xs = refl
put_long (Some p) v xs = length-set xs p v

length_kept : (n : ℕ) (x : Step) → Keeps (λ c. length c.image ≡ n) x
length_kept n (store a b) c e = put_long (place a) b c.image ∙ e
length_kept n (set_vector l h) c e = put_long (place 0xFFFF) h (put_at (place 0xFFFE) l c.image) ∙ (put_long (place 0xFFFE) l c.image ∙ e)
length_kept n (set_version v m) c e = e
length_kept n (set_key i k) c e = e

table_kept : (n : ℕ) (x : Step) → Keeps (λ c. length c.held.keys ≡ n) x
table_kept n (store a b) c e = e
table_kept n (set_vector l h) c e = e
table_kept n (set_version v m) c e = e
table_kept n (set_key i k) c e = length-set c.held.keys (slot_place i) k ∙ e

pub image_long : (n : ℕ) (xs : List Step) (u : Supply) (c : Contents) → length c.image ≡ n → length (perform xs u c).contents.image ≡ n
image_long n xs u c e = perform_keeps (λ x. length x.image ≡ n) xs (each_step _ (length_kept n) xs) u c e

pub table_long : (n : ℕ) (xs : List Step) (u : Supply) (c : Contents) → length c.held.keys ≡ n → length (perform xs u c).contents.held.keys ≡ n
table_long n xs u c e = perform_keeps (λ x. length x.held.keys ≡ n) xs (each_step _ (table_kept n) xs) u c e

-- Mass erase.
fill_kept : (P : Contents → Type 0) → ((a : ℕ) → Keeps P (store a 0xFF)) → (n a : ℕ) → Each (Keeps P) (blanks a n)
unfolding blanks
fill_kept P h zero a = tt
fill_kept P h (suc n) a = (h a, fill_kept P h n (a + 1))

abbrev erase_rest : List Step
erase_rest = flat_map (round true) all_areas ++ flat_map (round false) all_areas

rest_kept : (P : Contents → Type 0) → ((a : ℕ) → Keeps P (store a 0xFF)) → Each (Keeps P) erase_rest
unfolding all_areas
rest_kept P h =
    each_append (Keeps P) (blanks 65472 62 ++ []) (blanks 17408 44032 ++ (blanks 65536 16384 ++ [])) (each_append (Keeps P) (blanks 65472 62) [] (fill_kept P h 62 65472) tt)
    (each_append (Keeps P) (blanks 17408 44032) (blanks 65536 16384 ++ []) (fill_kept P h 44032 17408)
    (each_append (Keeps P) (blanks 65536 16384) [] (fill_kept P h 16384 65536) tt))

-- the held record stays
pub erase_held : (u : Supply) (c : Contents) → (perform erase_steps u c).contents.held ≡ c.held
unfolding erase_steps
erase_held u c = perform_keeps (λ x. x.held ≡ c.held) erase_steps ((λ x e. e), rest_kept (λ x. x.held ≡ c.held) (λ a x e. e)) u c refl

pub erase_none : (u : Supply) (c : Contents) → u ≡ Steps 0 → ((perform erase_steps u c).contents ≡ c) × ((perform erase_steps u c).dark ≡ true)
unfolding erase_steps
erase_none u c e = performed_none (set_vector 0xFF 0xFF) erase_rest u c e

abbrev pub Blanked : Contents → Type 0
Blanked c = (get_or c.image 44670 0 ≡ 0xFF) × (get_or c.image 44671 0 ≡ 0xFF)

still_blank : (l : List ℕ) (i j : ℕ) → get_or l j 0 ≡ 0xFF → get_or (set l i 0xFF) j 0 ≡ 0xFF
still_blank [] i j h = h
still_blank (x ∷ xs) zero zero h = refl
still_blank (x ∷ xs) zero (suc j) h = h
still_blank (x ∷ xs) (suc i) zero h = h
still_blank (x ∷ xs) (suc i) (suc j) h = still_blank xs i j h

put_blank : (o : Option ℕ) (l : List ℕ) (j : ℕ) → get_or l j 0 ≡ 0xFF → get_or (put_at o 0xFF l) j 0 ≡ 0xFF
put_blank None l j h = h
put_blank (Some i) l j h = still_blank l i j h

-- the vector is blank, unless the supply was 0
pub erase_blanks : (u : Supply) (c : Contents) → length c.image ≡ map_size → (u ≡ Steps 0 → ⊥) → Blanked (perform erase_steps u c).contents
unfolding erase_steps place all_areas
erase_blanks u c l n =
    let one : length (set c.image 44670 0xFF) ≡ 61056 = length-set c.image 44670 0xFF ∙ l in
    performed_first Blanked (set_vector 0xFF 0xFF) erase_rest
    (rest_kept Blanked (λ a x b. (put_blank (place a) x.image 44670 b.0, put_blank (place a) x.image 44671 b.1)))
    u c n (
      still_blank (set c.image 44670 0xFF) 44671 44670 (get_or-set_same c.image 44670 0xFF 0 (omega arith)),
      get_or-set_same (set c.image 44670 0xFF) 44671 0xFF 0 (omega arith),
    )

pub blanked_blank : (c : Contents) → Blanked c → blank c ≡ true
blanked_blank c b =
    and_from _ _ (eq-eqb _ _ (ap (λ o. at_place o c.image) vector_place.0 ∙ b.0)) (eq-eqb _ _ (ap (λ o. at_place o c.image) vector_place.1 ∙ b.1))
