-- Two boards that get one list of calls, with supplies without end: their wire answers.
use Rattle.std.proofs.Common.{◌≡◌, ℕ, Bool, true, false, ◌⊎◌, List, [], ◌∷◌, Some, None, Ok, Err, Option, Result, sym, refl, ap, ◌∙◌, subst, inl, inr, true≢false, arith}
use Rattle.fault.specs.declared.Fault.{Fault}
use Rattle.memory.specs.declared.supply.Supply.{Supply}
use Rattle.memory.specs.declared.supply.Supply.TheVariants.{NoEnd}
use Rattle.rules.specs.declared.Event.{Event}
use Rattle.rules.specs.declared.Event.TheVariants.{Byte, Silence, Question, PowerUp}
use Rattle.memory.specs.Meaning.{Contents, Step, perform}
use Rattle.rules.specs.Receiver.{Receiver}
use Rattle.rules.specs.Receiver.Receiver.{idle}
use Rattle.rules.specs.declared.Command.{Command}
use Rattle.rules.specs.declared.Command.TheVariants.{MassErase as mass_erase, Version as tell_version, Reset as reset, Data as data_packet, Key as key_packet, Unknown as unknown}
use Rattle.rules.specs.Commands.{command}
use Rattle.rules.specs.Commands.{message}
use Rattle.cipher.specs.Cipher.{Cipher}
use Rattle.rules.specs.Board.{Answer, turns, no_packet, sends, State, Call, Outcome, Heard, turned_away, part, garbled, framed, silence, question, power_up, Packet}
use Rattle.rules.specs.Board.{KeyPacket, heard, respond, obey, on_data, on_key, enact, carry_out, ended, decide, step, history, fresh}
use Rattle.rules.specs.declared.Session.{Session}
use Rattle.rules.specs.Words.{Each, Begins}
use Rattle.rules.specs.Promises.{start, Endlessly, JustMessage, Alike, Pairwise, AnswersTellNothing}
use Rattle.rules.proofs.Frames.{yes_no, no_yes, begins_data, begins_key, power_up_is}

-- both refuse, or neither does
abbrev SameKind : Option Fault → Option Fault → Type 0
SameKind (Some f) (Some g) = Unit {0}
SameKind (Some f) None = ⊥
SameKind None (Some g) = ⊥
SameKind None None = Unit {0}

neither : (o o' : Option Fault) → o ≡ None → o' ≡ None → SameKind o o'
neither o o' e d = subst (λ (r : Option Fault). SameKind o r) (sym d) (subst (λ (r : Option Fault). SameKind r None) (sym e) tt)

not_parted : (o o' : Option Fault) → SameKind o o' → ((o ≡ None) × ((f : Fault) × (o' ≡ Some f))) ⊎ (((f : Fault) × (o ≡ Some f)) × (o' ≡ None)) → ⊥
not_parted (Some f) (Some g) k (inl (e, d)) = let z : ◌≡◌ {A = ℕ} 0 1 = cc in omega arith
not_parted (Some f) (Some g) k (inr (e, d)) = let z : ◌≡◌ {A = ℕ} 0 1 = cc in omega arith
not_parted (Some f) None k d = k
not_parted None (Some g) k d = k
not_parted None None k (inl (e, (f, d))) = let z : ◌≡◌ {A = ℕ} 0 1 = cc in omega arith
not_parted None None k (inr ((f, e), d)) = let z : ◌≡◌ {A = ℕ} 0 1 = cc in omega arith

pub alike_same : (c d : Call) → c.answer.sent ≡ d.answer.sent → SameKind c.answer.refusal d.answer.refusal → Alike c d
alike_same c d e k = record { same = λ _. e; parted = λ p. absurd (not_parted c.answer.refusal d.answer.refusal k p.parted) }

pub record Twin (s t : State) : Type 0 where
  pub same_receiver : s.receiver ≡ t.receiver
  pub lit : s.dark ≡ false
  pub lit' : t.dark ≡ false
  pub endless : s.supply ≡ NoEnd
  pub endless' : t.supply ≡ NoEnd

-- with a supply without end nothing goes dark
endless_dark : (xs : List Step) (c : Contents) → (perform xs NoEnd c).dark ≡ false
unfolding perform
endless_dark [] c = refl
endless_dark (x ∷ xs) c = endless_dark xs _

endless_supply : (xs : List Step) (c : Contents) → (perform xs NoEnd c).supply ≡ NoEnd
unfolding perform
endless_supply [] c = refl
endless_supply (x ∷ xs) c = endless_supply xs _

same_heard : (s t : State) (e : Event) → Twin s t → heard s e ≡ heard t e
unfolding heard
same_heard s t (Byte b r w) h = cc
same_heard s t Silence h = cc
same_heard s t Question h = cc
same_heard s t (PowerUp u) h = refl

-- what the last of a list of steps leaves, with a supply without end
pub record Carried (o : Outcome) : Type 0 where
  pub answers : o.answer ≡ sends (message 0)
  now_idle : o.state.receiver ≡ idle
  still_lit : o.state.dark ≡ false
  still_endless : o.state.supply ≡ NoEnd

ended_lit : (n : Session) (c : Contents) (u : Supply) (d : Bool) → u ≡ NoEnd → d ≡ false → Carried (ended n c u d)
unfolding ended
ended_lit n c u true e f = absurd (true≢false f)
ended_lit n c u false e f = record { answers = refl; now_idle = refl; still_lit = refl; still_endless = e }

pub carried : (xs : List Step) (n : Session) (s : State) → s.supply ≡ NoEnd → Carried (carry_out xs n s)
unfolding carry_out
carried xs n s e =
    let P : Supply → Type 0 = λ u. Carried (ended n (perform xs u s.contents).contents (perform xs u s.contents).supply (perform xs u s.contents).dark) in
    subst P (sym e) (ended_lit n _ _ _ (endless_supply xs s.contents) (endless_dark xs s.contents))

module _ (C D : Cipher) (s t : State) (e : Event) (w : Twin s t) where
  abbrev Both : Outcome → Outcome → Type 0
  Both o p =
      Alike (record { event = e; before = s; after = o.state; answer = o.answer }) (record { event = e; before = t; after = p.state; answer = p.answer })
      × Twin o.state p.state

  both_carried : (o p : Outcome) → Carried o → Carried p → Both o p
  both_carried o p h k = (
    alike_same _ _ (ap (λ (a : Answer). a.sent) (h.answers ∙ sym k.answers))
        (neither _ _ (ap (λ (a : Answer). a.refusal) h.answers) (ap (λ (a : Answer). a.refusal) k.answers)),
    record { same_receiver = h.now_idle ∙ sym k.now_idle; lit = h.still_lit; lit' = k.still_lit; endless = h.still_endless; endless' = k.still_endless },
  )

  -- a packet that the first board takes and the second refuses
  take_refuse : (core : List ℕ) (o : Outcome) (f : Fault) → heard s e ≡ framed core → Begins 0x30 core ⊎ Begins 0x31 core → Carried o → Both o (enact (no_packet f) t)
  unfolding enact
  take_refuse core o f q b h = (
    record {
      same = λ no_part. absurd
          (no_part (record { core = core; arrives = (q, sym (same_heard s t e w) ∙ q); begins = b; parted = inl (ap (λ (a : Answer). a.refusal) h.answers, (f, refl)) }));
      parted = λ _. subst (λ (a : List ℕ). JustMessage a (message 5)) (sym (ap (λ (a : Answer). a.sent) h.answers)) yes_no;
    },
    record { same_receiver = h.now_idle; lit = h.still_lit; lit' = w.lit'; endless = h.still_endless; endless' = w.endless' },
  )

  refuse_take : (core : List ℕ) (p : Outcome) (f : Fault) → heard s e ≡ framed core → Begins 0x30 core ⊎ Begins 0x31 core → Carried p → Both (enact (no_packet f) s) p
  unfolding enact
  refuse_take core p f q b h = (
    record {
      same = λ no_part. absurd
          (no_part (record { core = core; arrives = (q, sym (same_heard s t e w) ∙ q); begins = b; parted = inr ((f, refl), ap (λ (a : Answer). a.refusal) h.answers) }));
      parted = λ _. subst (λ (a : List ℕ). JustMessage (message 5) a) (sym (ap (λ (a : Answer). a.sent) h.answers)) no_yes;
    },
    record { same_receiver = sym h.now_idle; lit = w.lit; lit' = h.still_lit; endless = w.endless; endless' = h.still_endless },
  )

  -- only the receivers turn, alike
  both_turn : (r r' : Receiver) (a b : Answer) → r ≡ r' → a.sent ≡ b.sent → SameKind a.refusal b.refusal → Both (enact (turns r a) s) (enact (turns r' b) t)
  unfolding enact
  both_turn r r' a b q m k = (alike_same _ _ m k, record { same_receiver = q; lit = w.lit; lit' = w.lit'; endless = w.endless; endless' = w.endless' })

  by_data : (core : List ℕ) (j k : Result Packet Fault) → heard s e ≡ framed core → Begins 0x30 core → Both (enact (on_data j) s) (enact (on_data k) t)
  unfolding enact on_data
  by_data core (Err f) (Err g) q b = both_turn _ _ _ _ refl refl tt
  by_data core (Err f) (Ok p) q b = refuse_take core _ f q (inl b) (carried _ _ t w.endless')
  by_data core (Ok p) (Err g) q b = take_refuse core _ g q (inl b) (carried _ _ s w.endless)
  by_data core (Ok p) (Ok p') q b = both_carried _ _ (carried _ _ s w.endless) (carried _ _ t w.endless')

  by_key : (core : List ℕ) (j k : Result KeyPacket Fault) → heard s e ≡ framed core → Begins 0x31 core → Both (enact (on_key j) s) (enact (on_key k) t)
  unfolding enact on_key
  by_key core (Err f) (Err g) q b = both_turn _ _ _ _ refl refl tt
  by_key core (Err f) (Ok p) q b = refuse_take core _ f q (inr b) (carried _ _ t w.endless')
  by_key core (Ok p) (Err g) q b = take_refuse core _ g q (inr b) (carried _ _ s w.endless)
  by_key core (Ok p) (Ok p') q b = both_carried _ _ (carried _ _ s w.endless) (carried _ _ t w.endless')

  by_command : (core : List ℕ) (k : Command) → command core ≡ k → heard s e ≡ framed core → Both (enact (obey C s core k) s) (enact (obey D t core k) t)
  unfolding enact obey
  by_command core mass_erase m q = both_carried _ _ (carried _ _ s w.endless) (carried _ _ t w.endless')
  by_command core tell_version m q = both_turn _ _ _ _ refl refl tt
  by_command core reset m q = (alike_same _ _ refl tt, record { same_receiver = refl; lit = w.lit; lit' = w.lit'; endless = w.endless; endless' = w.endless' })
  by_command core data_packet m q = by_data core _ _ q (begins_data core m)
  by_command core key_packet m q = by_key core _ _ q (begins_key core m)
  by_command core (unknown b) m q = both_turn _ _ _ _ refl refl tt

  by_heard : (h : Heard) → heard s e ≡ h → Endlessly e → Both (enact (respond C s h) s) (enact (respond D t h) t)
  unfolding enact respond
  by_heard (turned_away f) q u = both_turn _ _ _ _ w.same_receiver refl tt
  by_heard (part r) q u = both_turn _ _ _ _ refl refl tt
  by_heard (garbled f) q u = both_turn _ _ _ _ refl refl tt
  by_heard (framed core) q u = by_command core (command core) refl q
  by_heard silence q u = both_turn _ _ _ _ refl refl tt
  by_heard question q u = both_turn _ _ _ _ w.same_receiver refl tt
  by_heard (power_up p) q u = let n = u p (power_up_is s e p q) in (alike_same _ _ refl tt, record { same_receiver = refl; lit = refl; lit' = refl; endless = n; endless' = n })

  turn : Endlessly e → Both (step C s e) (step D t e)
  unfolding step decide
  turn u =
      let P : Heard → Type 0 = λ h. Both (enact (respond C s (heard s e)) s) (enact (respond D t h) t) in
      subst P (same_heard s t e w) (by_heard (heard s e) refl u)

all_alike : (C D : Cipher) (s t : State) (es : List Event) → Twin s t → Each Endlessly es → Pairwise Alike (history C s es) (history D t es)
unfolding history
all_alike C D s t [] w u = tt
all_alike C D s t (e ∷ es) w u =
    let b = turn C D s t e w u.0 in
    (b.0, all_alike C D (step C s e).state (step D t e).state es b.1 u.1)

pub answers_tell_nothing : AnswersTellNothing
unfolding fresh
answers_tell_nothing C D _ _ g k es u =
    all_alike C D (start g) (start k) es (record { same_receiver = refl; lit = refl; lit' = refl; endless = refl; endless' = refl }) u
