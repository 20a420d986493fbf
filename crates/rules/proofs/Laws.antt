-- What a call answers, against what it changes.
use Rattle.std.proofs.Common.{◌≡◌, ℕ, zero, suc, Bool, true, false, cond, ltb, List, [], ◌∷◌, Some, None, Option, refl, ap, subst, arith}
use mathlib.Core.Bool.{false≢true}
use Rattle.fault.specs.declared.Fault.{Fault}
use Rattle.fault.specs.declared.Fault.TheVariants.{ReplyShort, WorkShort, Dark}
use Rattle.memory.specs.declared.supply.Supply.{Supply}
use Rattle.memory.specs.declared.supply.Supply.TheVariants.{NoEnd, Steps}
use Rattle.memory.specs.Meaning.{Contents, Step, apply, perform}
use Rattle.cipher.specs.Cipher.{Cipher}
use Rattle.rules.specs.declared.Session.{Session}
use Rattle.rules.specs.declared.Event.{Event}
use Rattle.rules.specs.declared.Event.TheVariants.{Byte, Silence, Question, PowerUp}
use Rattle.rules.specs.Board.{State, Outcome, Heard, turned_away, silence, question, heard, refuses, Deed, turns}
use Rattle.rules.specs.Board.{clears, erases, stores, rekeys, powers, respond, decide, ended, carry_out, enact, step, run}
use Rattle.rules.specs.Words.{Packets}
use Rattle.rules.specs.Laws.{Unchanged, RefusalsChangeNothing, turned_away_with, TurnedAwayUnchanged, PacketsAreOneList}
use Rattle.rules.proofs.Runs.{split}
use Rattle.rules.proofs.Once.{some_none}
use Rattle.rules.proofs.OneList.{packets_exist, packets_same}

-- a list of steps goes dark at a supply that is spent
dark_spent : (xs : List Step) (u : Supply) (c : Contents) → (perform xs u c).dark ≡ true → (perform xs u c).supply ≡ Steps 0
unfolding perform
dark_spent [] u c e = absurd (false≢true e)
dark_spent (x ∷ xs) NoEnd c e = dark_spent xs NoEnd (apply x c) e
dark_spent (x ∷ xs) (Steps zero) c e = refl
dark_spent (x ∷ xs) (Steps (suc n)) c e = dark_spent xs (Steps n) (apply x c) e

-- a list of steps ends dark, refused with 3, or refuses nothing
pub data Ends (o : Outcome) : Type 0 where
  went_dark : o.answer.refusal ≡ Some Dark → o.state.supply ≡ Steps 0 → o.state.dark ≡ true → Ends o
  went_well : o.answer.refusal ≡ None → Ends o

ended_ways : (n : Session) (c : Contents) (u : Supply) (d : Bool) → (d ≡ true → u ≡ Steps 0) → Ends (ended n c u d)
unfolding ended
ended_ways n c u true h = went_dark refl (h refl) refl
ended_ways n c u false h = went_well refl

pub carried_ways : (xs : List Step) (n : Session) (s : State) → Ends (carry_out xs n s)
unfolding carry_out
carried_ways xs n s = ended_ways n _ _ _ (dark_spent xs s.supply s.contents)

ends_unchanged : (s : State) (o : Outcome) (f : Fault) → Ends o → o.answer.refusal ≡ Some f → (f ≡ Dark → ⊥) → Unchanged s o.state
ends_unchanged s o f (went_dark r u d) e n = absurd (n (cc))
ends_unchanged s o f (went_well r) e n = some_none o.answer.refusal f e r

deed_unchanged : (s : State) (d : Deed) (f : Fault) → (enact d s).answer.refusal ≡ Some f → (f ≡ Dark → ⊥) → Unchanged s (enact d s).state
unfolding enact
deed_unchanged s (turns r a) f e n = record { contents = refl; supply = refl; session = refl; dark = refl }
deed_unchanged s clears f e n = let z : ◌≡◌ {A = ℕ} 0 1 = cc in absurd (omega arith)
deed_unchanged s erases f e n = ends_unchanged s _ f (carried_ways _ _ s) e n
deed_unchanged s (stores p) f e n = ends_unchanged s _ f (carried_ways _ _ s) e n
deed_unchanged s (rekeys p) f e n = ends_unchanged s _ f (carried_ways _ _ s) e n
deed_unchanged s (powers u) f e n = let z : ◌≡◌ {A = ℕ} 0 1 = cc in absurd (omega arith)

pub refusals_change_nothing : RefusalsChangeNothing
unfolding step
refusals_change_nothing C s e f r n = deed_unchanged s (decide C s e) f r n

-- turned away
module _ (C : Cipher) (s : State) where
  abbrev Same : Fault → Heard → Type 0
  Same f h = ((enact (respond C s h) s).state ≡ s) × ((enact (respond C s h) s).answer ≡ refuses f [])

  away : (f g : Fault) → Some f ≡ Some g → Same g (turned_away f)
  unfolding respond enact
  away f g e = let h : f ≡ g = cc in (refl, ap (λ (x : Fault). refuses x []) h)

  not_away : {A : Type 0} (g : Fault) → ◌≡◌ {A = Option Fault} None (Some g) → A
  not_away g e = let z : ◌≡◌ {A = ℕ} 0 1 = cc in absurd (omega arith)

  byte_away : (g : Fault) (h : Heard) (x y z : Bool) → cond x (Some ReplyShort) (cond y (Some WorkShort) (cond z (Some Dark) None)) ≡ Some g
      → Same g (cond x (turned_away ReplyShort) (cond y (turned_away WorkShort) (cond z (turned_away Dark) h)))
  byte_away g h true y z e = away ReplyShort g e
  byte_away g h false true z e = away WorkShort g e
  byte_away g h false false true e = away Dark g e
  byte_away g h false false false e = not_away g e

  other_away : (g : Fault) (h : Heard) (z : Bool) → cond z (Some Dark) None ≡ Some g → Same g (cond z (turned_away Dark) h)
  other_away g h true e = away Dark g e
  other_away g h false e = not_away g e

  heard_away : (e : Event) (f : Fault) → turned_away_with s.dark e ≡ Some f → Same f (heard s e)
  unfolding heard
  heard_away (Byte b reply work) f q = byte_away f _ (ltb reply 11) (ltb work 266) s.dark q
  heard_away Silence f q = other_away f silence s.dark q
  heard_away Question f q = other_away f question s.dark q
  heard_away (PowerUp u) f q = not_away f q

pub turned_away_unchanged : TurnedAwayUnchanged
unfolding step decide
turned_away_unchanged C s e f q = heard_away C s e f q

pub packets_are_one_list : PacketsAreOneList
packets_are_one_list C s events x behind c e =
    let sp = split C s events x c behind e in
    let t = (step C (run C s sp.front) sp.event).state in
    let r = packets_exist C t sp.back in
    let here : Packets C behind r.0 = subst (λ (l : List _). Packets C l r.0) sp.back_is r.1 in
    (r.0, here, λ others o. packets_same C behind others r.0 o here)
