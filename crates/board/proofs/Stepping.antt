-- The storing steps of a packet, made one after another.
use Rattle.std.proofs.Common.{◌≡◌, ℕ, suc, ◌+◌, ◌-◌, true, false, cond, eqb, List, [], ◌∷◌, ◌++◌, length, take, drop, is_ok, Ok, Err, Result, sym, refl, ap, ◌∙◌, ap₂, arith}
use Rattle.std.proofs.lemmas.List.{length-drop, length-take-le}
use Rattle.std.proofs.lemmas.Bool.{cond-false, cond-true, eq-eqb, false≢true, ne_eqb}
use Rattle.fault.specs.Checks.{then}
use Rattle.fault.specs.declared.Fault.{Fault}
use Rattle.memory.specs.Areas.{range_checked}
use Rattle.memory.specs.Meaning.{Makes, Meaning, Performs, Step, answer_of, left_by, performed, step_in_map}
use Rattle.memory.specs.Meaning.Step.{set_version}
use Rattle.memory.specs.Steps.{data_answer, data_left, store_up}
use Rattle.memory.proofs.Turns.{done_all, done_none, step_broke, step_went, steps_broke, steps_went}
use Rattle.rules.specs.declared.Session.TheVariants.{Closed, Expects}
use Rattle.rules.specs.Board.{Packet, closing_steps, data_steps, opening_steps, session_after}
use Rattle.board.specs.declared.data.Judged.{Judged}
use Rattle.board.specs.declared.data.Opened.{Opened}
use Rattle.board.specs.States.{judged_in}

-- one step
pub one_done : (x : Step) (m n : Meaning) (r : Result (Unit {0}) Fault) → step_in_map x ≡ true → Makes x m n r → Performs (x ∷ []) m n r
one_done x m n (Ok u) t d = done_all [] (x ∷ []) n m n (Ok tt) (Ok tt) (step_went x [] (x ∷ []) m n refl d) refl (done_none n)
one_done x m n (Err f) t d = step_broke x [] (x ∷ []) m n refl f t d

-- the same steps, written otherwise, on a memory of the same meaning
pub done_on : (xs ys : List Step) (k m n : Meaning) (r : Result (Unit {0}) Fault) → xs ≡ ys → k ≡ m → Performs xs k n r → Performs ys m n r
done_on xs ys k m n r e h d =
    let same = ap₂ performed e h in
    record { after = d.after ∙ ap left_by same; value = d.value ∙ ap answer_of same }

ok_unit : (r : Result (Unit {0}) Fault) → is_ok r ≡ true → r ≡ Ok tt
ok_unit (Ok u) h = refl
ok_unit (Err f) h = absurd (false≢true h)

-- a call that stores data: what it leaves and answers
abbrev Stores : ℕ → List ℕ → Meaning → Meaning → Result (Unit {0}) Fault → Type 0
Stores a bs m n r = record { after : n ≡ data_left a bs m; value : r ≡ data_answer a bs m }

-- storing data makes just its steps where all its addresses are in the map
pub data_done : (a : ℕ) (bs : List ℕ) (m n : Meaning) (r : Result (Unit {0}) Fault) → is_ok (range_checked a (length bs)) ≡ true → Stores a bs m n r
    → Performs (store_up a bs) m n r
data_done a bs m n r h d =
    record {
      after = d.after ∙ cond-true _ _ _ h;
      value = d.value ∙ ap (λ v. then v (answer_of (performed (store_up a bs) m))) (ok_unit _ h);
    }

module _ (p : Packet) (m n : Meaning) where
  -- the first step of a first packet, and of any other
  pub first_opens : (v : ℕ) (r : Result (Unit {0}) Fault) → v ≡ p.ver → p.pn ≡ 1 → Makes (set_version v true) m n r → Performs (opening_steps p) m n r
  unfolding opening_steps
  first_opens v r e h d =
      done_on _ _ m m n r (ap (λ x. set_version x true ∷ []) e ∙ sym (cond-true _ _ _ (eq-eqb _ _ h))) refl (one_done (set_version v true) m n r refl d)

  -- the last step of a last packet
  pub last_closes : (v : ℕ) (r : Result (Unit {0}) Fault) → v ≡ p.ver → p.pn ≡ p.np → Makes (set_version v false) m n r → Performs (closing_steps p) m n r
  unfolding closing_steps
  last_closes v r e h d =
      done_on _ _ m m n r (ap (λ x. set_version x false ∷ []) e ∙ sym (cond-true _ _ _ (eq-eqb _ _ h))) refl (one_done (set_version v false) m n r refl d)

module _ (p : Packet) (m : Meaning) where
  pub other_opens : (p.pn ≡ 1 → ⊥) → Performs (opening_steps p) m m (Ok tt)
  unfolding opening_steps
  other_opens h = done_on _ _ m m m (Ok tt) (sym (cond-false _ _ _ (ne_eqb _ _ h))) refl (done_none m)

  pub other_closes : (p.pn ≡ p.np → ⊥) → Performs (closing_steps p) m m (Ok tt)
  unfolding closing_steps
  other_closes h = done_on _ _ m m m (Ok tt) (sym (cond-false _ _ _ (ne_eqb _ _ h))) refl (done_none m)

-- the session behind a packet
pub session_over : (p : Packet) → p.pn ≡ p.np → Closed ≡ session_after p
unfolding session_after
session_over p h = sym (cond-true _ _ _ (eq-eqb _ _ h))

pub session_on : (p : Packet) → (p.pn ≡ p.np → ⊥) → Expects (p.pn + 1) p.np ≡ session_after p
unfolding session_after
session_on p h =
    let z : p.pn + 1 ≡ suc p.pn = omega arith in
    ap (λ k. Expects k p.np) z ∙ sym (cond-false _ _ _ (ne_eqb _ _ h))

-- the numbers are all that it looks at
pub session_as : (p q : Packet) → p.pn ≡ q.pn → p.np ≡ q.np → session_after p ≡ session_after q
unfolding session_after
session_as p q e h = ap₂ (λ i j. cond (eqb i j) Closed (Expects (suc i) j)) e h

-- what was made, answered alike
pub done_as : (xs : List Step) (m n : Meaning) (r s : Result (Unit {0}) Fault) → r ≡ s → Performs xs m n s → Performs xs m n r
done_as xs m n r s e d = record { after = d.after; value = e ∙ d.value }

-- the data of opened contents
pub data_long : (o : Opened) (work : List ℕ) → length work ≡ 266 → length (take o.count (drop o.place work)) ≡ o.count
data_long o work h = length-take-le o.count (drop o.place work) (omega (arith, length-drop o.place work, h, o.within))

-- they are the part of the work buffer that is stored, and lie in the map
pub data_part : (o : Opened) (work : List ℕ) → take (o.place + o.count - o.place) (drop o.place work) ≡ take o.count (drop o.place work)
data_part o work =
    let z : o.place + o.count - o.place ≡ o.count = omega arith in
    ap (λ k. take k (drop o.place work)) z

pub data_mapped : (j : Judged) (work : List ℕ) → length work ≡ 266 → is_ok (range_checked j.opened.address (length (judged_in j work).bytes)) ≡ true
data_mapped j work h = ap (λ k. is_ok (range_checked j.opened.address k)) (data_long j.opened work h) ∙ j.inside

-- all steps of a data packet, which lie in the map, as far as they were made
module _ (p : Packet) (m k : Meaning) (mapped : is_ok (range_checked p.address (length p.bytes)) ≡ true) where
  pub broke_open : (f : Fault) → Performs (opening_steps p) m k (Err f) → Performs (data_steps p) m k (Err f)
  unfolding data_steps
  broke_open f d = steps_broke (opening_steps p) (store_up p.address p.bytes ++ closing_steps p) (data_steps p) m k refl f d

  module _ (opens : Performs (opening_steps p) m k (Ok tt)) (l : Meaning) (bs : List ℕ) (given : bs ≡ p.bytes) where
    went : performed (store_up p.address p.bytes ++ closing_steps p) k ≡ performed (data_steps p) m
    unfolding data_steps
    went = steps_went (opening_steps p) (store_up p.address p.bytes ++ closing_steps p) (data_steps p) m k refl opens

    stored : (r : Result (Unit {0}) Fault) → Stores p.address bs k l r → Performs (store_up p.address p.bytes) k l r
    stored r d = done_on _ _ k k l r (ap (store_up p.address) given) refl (data_done p.address bs k l r (ap (λ ys. is_ok (range_checked p.address (length ys))) given ∙ mapped) d)

    pub broke_store : (f : Fault) → Stores p.address bs k l (Err f) → Performs (data_steps p) m l (Err f)
    broke_store f d =
        let s = steps_broke (store_up p.address p.bytes) (closing_steps p) (store_up p.address p.bytes ++ closing_steps p) k l refl f (stored (Err f) d) in
        done_all _ (data_steps p) k m l (Err f) (Err f) went refl s

    pub made_all : (n : Meaning) (r : Result (Unit {0}) Fault) → Stores p.address bs k l (Ok tt) → Performs (closing_steps p) l n r → Performs (data_steps p) m n r
    made_all n r d e =
        let on = steps_went (store_up p.address p.bytes) (closing_steps p) (store_up p.address p.bytes ++ closing_steps p) k l refl (stored (Ok tt) d) in
        done_all (closing_steps p) (data_steps p) l m n r r (on ∙ went) refl e
