-- Runs of calls, one call on.
use Rattle.std.proofs.Common.{◌≡◌, ℕ, ◌+◌, ◌<◌, ◌≤◌, Bool, cond, ltb, min, List, [], ◌∷◌, ◌++◌, length, get_or, drop, sym, refl, ap, ◌∙◌, ap₂, inl, inr, arith}
use Rattle.std.proofs.lemmas.List.{append_assoc, at_drop_more}
use Rattle.std.proofs.lemmas.Bool.{cases_Bool, le-ltb, lt-ltb, ltb-false, ltb-true}
use Rattle.fault.specs.declared.Fault.TheVariants.{Dark, ReplyShort, WorkShort}
use Rattle.cipher.specs.Cipher.{Cipher}
use Rattle.rules.specs.declared.Event.{Event}
use Rattle.rules.specs.declared.Event.TheVariants.{Byte}
use Rattle.rules.specs.Receiver.{read}
use Rattle.rules.specs.Board as rules
use Rattle.rules.specs.Board.{Outcome, State, decide, enact, heard, heard_read, history, respond, run, step, turned_away}
use Rattle.board.specs.Running.{answers}

-- a length counts only in that it is too short
min_short : (n m : ℕ) → ltb (min n m) m ≡ ltb n m
min_short n m =
    elim (cases_Bool (ltb n m)) [
      | inl t ↦ lt-ltb _ _ (omega (arith, ltb-true n m t)) ∙ sym t
      | inr t ↦ le-ltb _ _ (omega (arith, ltb-false n m t)) ∙ sym t
    ]

pub capped_step : (C : Cipher) (s : State) (b r w : ℕ) → step C s (Byte b (min r 11) (min w 266)) ≡ step C s (Byte b r w)
unfolding step decide heard
capped_step C s b r w =
    let made : Bool → Bool → Outcome = λ x y. enact (respond C s (cond x (turned_away ReplyShort) (cond y (turned_away WorkShort) (cond s.dark (turned_away Dark) (heard_read (read s.receiver b)))))) s in
    ap₂ made (min_short r 11) (min_short w 266)

-- buffers that are long enough are as good as any such
pub long_step : (C : Cipher) (s : State) (b r w : ℕ) → 11 ≤ r → 266 ≤ w → step C s (Byte b 11 266) ≡ step C s (Byte b r w)
unfolding step decide heard
long_step C s b r w h k =
    let made : Bool → Bool → Outcome = λ x y. enact (respond C s (cond x (turned_away ReplyShort) (cond y (turned_away WorkShort) (cond s.dark (turned_away Dark) (heard_read (read s.receiver b)))))) s in
    sym (ap₂ made (le-ltb r 11 h) (le-ltb w 266 k))

-- the answers of a run
abbrev pub answers_from : Cipher → State → List Event → List rules.Answer
answers_from C s es = answers (history C s es)

more_answers : (C : Cipher) (s : State) (e : Event) (es : List Event) → answers_from C s (e ∷ es) ≡ (step C s e).answer ∷ answers_from C (step C s e).state es
unfolding history
more_answers C s e es = refl

pub no_answers : (C : Cipher) (s : State) → answers_from C s [] ≡ []
unfolding history
no_answers C s = refl

pub none_left : (C : Cipher) (s : State) → run C s [] ≡ s
unfolding run
none_left C s = refl

-- one call on: what is left to run, from the board as it is, gives what the whole list gives from the start
module _ (C : Cipher) (s t : State) (es : List Event) (i : ℕ) (d : Event) (h : i < length es) (e : t ≡ (step C s (get_or es i d)).state) where
  pub state_more : run C t (drop (i + 1) es) ≡ run C s (drop i es)
  unfolding run
  state_more = ap (λ x. run C x (drop (i + 1) es)) e ∙ sym (at_drop_more (run C s) es i d h)

  pub answers_more : (xs ys : List rules.Answer) (x : rules.Answer) → ys ≡ xs ++ x ∷ [] → x ≡ (step C s (get_or es i d)).answer
      → ys ++ answers_from C t (drop (i + 1) es) ≡ xs ++ answers_from C s (drop i es)
  answers_more xs ys x p a =
      ap (λ zs. zs ++ answers_from C t (drop (i + 1) es)) p
      ∙ append_assoc xs (x ∷ []) (answers_from C t (drop (i + 1) es))
      ∙ ap (λ y. xs ++ (y ∷ answers_from C t (drop (i + 1) es))) a
      ∙ ap (λ z. xs ++ ((step C s (get_or es i d)).answer ∷ answers_from C z (drop (i + 1) es))) e
      ∙ ap (λ zs. xs ++ zs) (sym (more_answers C s (get_or es i d) (drop (i + 1) es)))
      ∙ ap (λ zs. xs ++ zs) (sym (at_drop_more (answers_from C s) es i d h))
