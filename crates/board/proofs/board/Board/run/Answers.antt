use Rattle.std.proofs.Common.{◌≡◌, ◌+◌, ◌<◌, ◌≤◌, List, ◌++◌, length, IsErrAnd, vec_items, Result, sym, refl, ap, ◌∙◌, subst, arith}
use Rattle.std.proofs.lemmas.List.{append-nil, at_drop_all}
use Rattle.memory.proofs.Exits.{passed_on}
use Rattle.cipher.specs.Cipher.{Cipher}
use Rattle.rules.specs.declared.Event.{Event}
use Rattle.rules.specs.Board.{Answer, Outcome, State, run}
use Rattle.board.specs.Running.{Answered}
use Rattle.rules.proofs.Promised.{kept_promises}
use Rattle.board.proofs.Histories.{answers_from, answers_more, no_answers, none_left, state_more}
use Rattle.board.proofs.board.Board.run.Goals as goal

pub loop-event-preserved : goal.loop-event-preserved
loop-event-preserved g c =
    let C = g.C.PacketCipher.cipher in
    let s = c.loop-event.self in
    let t = c.call-answer.new.self in
    let es = c.args.events.now in
    let i = c.loop-event.event-index in
    let h : i < length es = omega arith in
    let o = c.call-answer.ensures in
    let e = ap (λ (x : Outcome). x.state) o in
    let p = c.push_reserved.ensures in
    record {
      state = state_more C s t es i _ h e ∙ c.loop-event.invariant.state;
      answers = answers_more C s t es i _ h e (vec_items c.loop-event.answers) _ _ p.items (ap (λ (x : Outcome). x.answer) o) ∙ c.loop-event.invariant.answers;
      count = p.len ∙ ap (λ n. n + 1) c.loop-event.invariant.count;
      room = omega (arith, p.capacity, c.loop-event.invariant.room);
    }

not_run : {V E : Type 0} (items : V → List Answer) (C : Cipher) (s : State) (es : List Event) (r : Result V E) (d : E) → IsErrAnd r (λ y. y ≡ d) → Answered items C s es s r
not_run {V = V} {E = E} items C s es r d h = let P : Result V E → Type 0 = λ x. Answered items C s es s x in subst P (sym (passed_on r d h)) refl

pub returns-in_err-answers : goal.returns-in_err-answers
returns-in_err-answers g c =
    let C = g.C.PacketCipher.cipher in
    let s = c.args.self.now in
    let es = c.args.events.now in
    record { answered = not_run vec_items C s es _ _ c.from_residual.ensures.1; promises = λ k past e. kept_promises C g.met.C.PacketCipher.lawful k (past ++ es) }

pub returns : goal.returns
returns g c =
    let C = g.C.PacketCipher.cipher in
    let s = c.loop-event.self in
    let es = c.args.events.now in
    let i = c.loop-event.event-index in
    let h : length es ≤ i = omega arith in
    let items = vec_items c.loop-event.answers in
    record {
      answered = (
        sym (at_drop_all (run C s) es i h ∙ none_left C s) ∙ c.loop-event.invariant.state,
        sym (append-nil items) ∙ sym (ap (λ zs. items ++ zs) (at_drop_all (answers_from C s) es i h ∙ no_answers C s)) ∙ c.loop-event.invariant.answers,
      );
      promises = λ k past e. kept_promises C g.met.C.PacketCipher.lawful k (past ++ es);
    }
