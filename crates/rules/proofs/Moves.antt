-- What a call does at which no update opens.
use Rattle.std.proofs.Common.{◌≡◌, ℕ, Bool, false, eqb, ◌⊎◌, length, Some, sym, refl, ap, ◌∙◌, subst, inl, inr, arith}
use Rattle.std.proofs.lemmas.Bool.{cases_eq, ne_eqb, eqb-true}
use Rattle.fault.specs.declared.Fault.{Fault}
use Rattle.memory.specs.declared.supply.Supply.{Supply}
use Rattle.memory.specs.declared.supply.Supply.TheVariants.{Steps}
use Rattle.rules.specs.declared.Event.{Event}
use Rattle.memory.specs.declared.held.Held.{Held}
use Rattle.memory.specs.Meaning.{Contents}
use Rattle.rules.specs.Memory.{lay}
use Rattle.memory.specs.Areas.{map_size}
use Rattle.cipher.specs.Cipher.{Cipher}
use Rattle.rules.specs.Board.{State, Answer, Outcome, Deed, turns, clears, erases, stores, rekeys, powers, Packet, KeyPacket, call, step, decide, enact, session_after}
use Rattle.rules.specs.declared.Session.TheVariants.{Closed as closed, Expects as expects}
use Rattle.rules.specs.Words.{version, memory, Opening, Takes, Taking, Undisturbed}
use Rattle.rules.proofs.Steps.{supply_cases, written, Blanked}
use Rattle.rules.proofs.Deeds.{Goes_on, undisturbed, next_fits, passes_stores, stores_passes}
use Rattle.rules.proofs.Runs.{Stored, unpowered, cut, whole, stored, Rekeyed, key_cut, key_set, rekeyed, erased}
use Rattle.rules.proofs.Kept.{fits}
use Rattle.rules.proofs.Once.{some_none, written_version}

abbrev pub mark : State → Bool
mark s = s.contents.held.unfinished

-- version and mark stay
pub record Level (s : State) (o : Outcome) : Type 0 where
  pub same_version : version o.state ≡ version s
  pub same_mark : mark o.state ≡ mark s

pub data Move (C : Cipher) (s : State) (e : Event) (o : Outcome) : Type 0 where
  -- all but the keys and the receiver stay
  stays : Undisturbed (call C s e) → (Taking C (call C s e) → ⊥) → Level s o → memory o.state ≡ memory s → o.state.session ≡ s.session → Move C s e o
  -- the session ends, and the memory bytes stay or the vector is blank
  ends : (Taking C (call C s e) → ⊥) → Level s o → o.state.session ≡ closed
      → (length (memory s) ≡ map_size → (memory o.state ≡ memory s) ⊎ Blanked o.state.contents) → Move C s e o
  -- the power fails in a packet of an open session
  breaks : (Taking C (call C s e) → ⊥) → Level s o → o.state.session ≡ closed → (n m : ℕ) → s.session ≡ expects n m → Move C s e o
  -- a packet of an open session is taken
  takes : (p : Packet) → Takes C (call C s e) p → Undisturbed (call C s e) → s.session ≡ expects p.pn p.np → p.ver ≡ version s
      → o.state.session ≡ session_after p → memory o.state ≡ lay p.address p.bytes (memory s) → version o.state ≡ version s → Move C s e o

module _ (C : Cipher) (s : State) (e : Event) where
  abbrev none_taken : Deed → Type 0
  none_taken d = (p : Packet) → d ≡ stores p → ⊥

  -- no data packet passes, so none is taken and none opens an update
  not_taking : (d : Deed) → decide C s e ≡ d → none_taken d → Taking C (call C s e) → ⊥
  not_taking d q n (p, t) = n p (sym q ∙ passes_stores C (call C s e) p t.passes)

  not_opening : (d : Deed) → decide C s e ≡ d → none_taken d → Opening C (call C s e) → ⊥
  not_opening d q n (p, o) = n p (sym q ∙ passes_stores C (call C s e) p o.passes)

  calm : (d : Deed) → decide C s e ≡ d → Goes_on C (call C s e) d → Undisturbed (call C s e)
  calm d q g = undisturbed C (call C s e) (subst (Goes_on C (call C s e)) (sym q) g)

  -- refused, no packet is taken
  refused_taking : (f : Fault) → (step C s e).answer.refusal ≡ Some f → Taking C (call C s e) → ⊥
  refused_taking f r (p, t) = some_none _ f r t.taken

  abbrev View : Outcome → Type 0
  View o = Opening C (call C s e) ⊎ ((Opening C (call C s e) → ⊥) × Move C s e o)

  opens_none : (p : Packet) → decide C s e ≡ stores p → (p.pn ≡ 1 → s.supply ≡ Steps 0) → Opening C (call C s e) → ⊥
  opens_none p q u (r, o) =
      let same : p ≡ r = cc (q, passes_stores C (call C s e) r o.passes) in
      o.powered (u (ap (λ (x : Packet). x.pn) same ∙ o.first))

  -- a data packet that is not the first of its update
  view_next : (p : Packet) (o : Outcome) → decide C s e ≡ stores p → o ≡ step C s e → (p.pn ≡ 1 → ⊥) → Stored s p o → Move C s e o
  view_next p o q i n (unpowered one z r x c) = absurd (n one)
  view_next p o q i n (cut u r x c) =
      let k = next_fits s p (fits C s e p q) n in
      let h : o.state.contents.held ≡ s.contents.held = c ∙ subst (λ (a : Bool). written a false p.ver s.contents.held ≡ s.contents.held) (sym (ne_eqb _ _ n)) refl in
      breaks (refused_taking _ (sym (ap (λ (y : Outcome). y.answer.refusal) i) ∙ r))
      (record { same_version = ap (λ (y : Held). y.version) h; same_mark = ap (λ (y : Held). y.unfinished) h }) x _ _ k.0
  view_next p o q i n (whole u r x c) =
      let k = next_fits s p (fits C s e p q) n in
      takes p
      (record { passes = stores_passes C (call C s e) p q; taken = sym (ap (λ (y : Outcome). y.answer.refusal) i) ∙ r })
      (calm (stores p) q tt) k.0 k.1 x
      (ap (λ (y : Contents). y.image) c)
      (ap (λ (y : Contents). y.held.version) c ∙ written_version C s e (eqb p.pn 1) (eqb p.pn p.np) p.ver s.contents.held (λ t. n (eqb-true _ _ t)) k.1)

  view_none : (p : Packet) (o : Outcome) → decide C s e ≡ stores p → o ≡ step C s e → p.pn ≡ 1 → s.supply ≡ Steps 0 → Stored s p o → Move C s e o
  view_none p o q i one z (unpowered f w r x c) =
      ends (refused_taking _ (sym (ap (λ (y : Outcome). y.answer.refusal) i) ∙ r))
      (record { same_version = ap (λ (y : Contents). y.held.version) c; same_mark = ap (λ (y : Contents). y.held.unfinished) c })
      x (λ _. inl (ap (λ (y : Contents). y.image) c))
  view_none p o q i one z (cut u r x c) = absurd (u one z)
  view_none p o q i one z (whole u r x c) = absurd (u one z)

  view_stores : (p : Packet) → decide C s e ≡ stores p → enact (stores p) s ≡ step C s e → View (enact (stores p) s)
  view_stores p q i =
      elim (cases_eq p.pn 1) [
        | inl one ↦ elim (supply_cases s.supply) [
          | inl z ↦ inr (opens_none p q (λ _. z), view_none p _ q i one z (stored s p))
          | inr u ↦ inl (p, record { passes = stores_passes C (call C s e) p q; first = one; powered = u })
        ]
        | inr n ↦ inr (opens_none p q (λ t. absurd (n t)), view_next p _ q i n (stored s p))
      ]

  view_rekeys : (p : KeyPacket) (o : Outcome) → decide C s e ≡ rekeys p → Rekeyed s p o → Move C s e o
  view_rekeys p o q (key_cut r x c) =
      ends (not_taking (rekeys p) q (λ k w. let z : ◌≡◌ {A = ℕ} 0 1 = cc in omega arith))
      (record { same_version = ap (λ (y : Contents). y.held.version) c; same_mark = ap (λ (y : Contents). y.held.unfinished) c })
      x (λ _. inl (ap (λ (y : Contents). y.image) c))
  view_rekeys p o q (key_set r x c) =
      stays (calm (rekeys p) q tt) (not_taking (rekeys p) q (λ k w. let z : ◌≡◌ {A = ℕ} 0 1 = cc in omega arith))
      (record { same_version = ap (λ (y : Contents). y.held.version) c; same_mark = ap (λ (y : Contents). y.held.unfinished) c })
      (ap (λ (y : Contents). y.image) c) x

  turns_none : (r : _) (a : Answer) → none_taken (turns r a)
  turns_none r a p w = let z : ◌≡◌ {A = ℕ} 0 1 = cc in omega arith

  clears_none : none_taken clears
  clears_none p w = let z : ◌≡◌ {A = ℕ} 0 1 = cc in omega arith

  erases_none : none_taken erases
  erases_none p w = let z : ◌≡◌ {A = ℕ} 0 1 = cc in omega arith

  rekeys_none : (k : KeyPacket) → none_taken (rekeys k)
  rekeys_none k p w = let z : ◌≡◌ {A = ℕ} 0 1 = cc in omega arith

  powers_none : (u : Supply) → none_taken (powers u)
  powers_none u p w = let z : ◌≡◌ {A = ℕ} 0 1 = cc in omega arith

  view_deed : (d : Deed) → decide C s e ≡ d → enact d s ≡ step C s e → View (enact d s)
  unfolding enact
  view_deed (turns r a) q i =
      inr (not_opening _ q (turns_none r a), stays (calm _ q tt) (not_taking _ q (turns_none r a)) (record { same_version = refl; same_mark = refl }) refl refl)
  view_deed clears q i = inr (not_opening _ q clears_none, ends (not_taking _ q clears_none) (record { same_version = refl; same_mark = refl }) refl (λ _. inl refl))
  view_deed erases q i =
      let r = erased s in
      inr (
        not_opening _ q erases_none,
        ends (not_taking _ q erases_none)
            (record { same_version = ap (λ (y : Held). y.version) r.held_same; same_mark = ap (λ (y : Held). y.unfinished) r.held_same })
            r.over
            (λ l. elim (r.left l) [ inl c ↦ inl (ap (λ (y : Contents). y.image) c) | inr b ↦ inr b ]),
      )
  view_deed (stores p) q i = view_stores p q i
  view_deed (rekeys p) q i = inr (not_opening _ q (rekeys_none p), view_rekeys p _ q (rekeyed s p))
  view_deed (powers u) q i = inr (not_opening _ q (powers_none u), ends (not_taking _ q (powers_none u)) (record { same_version = refl; same_mark = refl }) refl (λ _. inl refl))

  pub view : Opening C (call C s e) ⊎ ((Opening C (call C s e) → ⊥) × Move C s e (step C s e))
  unfolding step
  view = view_deed (decide C s e) refl refl
