-- A listing, one line on.
use Rattle.std.proofs.Common.{◌≡◌, ℕ, List, [], ◌∷◌, ◌++◌, sym, refl, ap, ◌∙◌, ap₂}
use Rattle.std.proofs.lemmas.List.{append_assoc, append-nil, map-append}
use Rattle.cipher.specs.Cipher.{Cipher}
use Rattle.rules.specs.declared.Event.{Event}
use Rattle.rules.specs.Board.{Answer, Call, State, history, run, step}
use Rattle.rules.proofs.Runs.{history_append, run_append}
use Rattle.board.specs.Running.{answers}
use Rattle.listing.specs.declared.rows.Detail.{Detail}
use Rattle.listing.specs.Rows.{row}
use Rattle.listing.specs.Listing.{Reached, with_calls, with_outcome}
use Rattle.listing.specs.Replaying.{Replayed, next_number, number_behind, rows_from}

-- a row more, and a number on
rows_more : (d : Detail) (n : ℕ) (xs : List Answer) (a : Answer) → rows_from d n (xs ++ a ∷ []) ≡ rows_from d n xs ++ row d (number_behind n xs) a
rows_more d n [] a = append-nil (row d n a)
rows_more d n (x ∷ xs) a =
    ap (λ zs. row d n x ++ zs) (rows_more d (next_number n) xs a) ∙ sym (append_assoc (row d n x) (rows_from d (next_number n) xs) (row d (number_behind (next_number n) xs) a))

number_more : (n : ℕ) (xs : List Answer) (a : Answer) → number_behind n (xs ++ a ∷ []) ≡ next_number (number_behind n xs)
number_more n [] a = refl
number_more n (x ∷ xs) a = number_more (next_number n) xs a

-- an answer more
answers_more : (C : Cipher) (s : State) (es : List Event) (e : Event) → answers (history C s (es ++ e ∷ [])) ≡ answers (history C s es) ++ (step C (run C s es) e).answer ∷ []
unfolding history
answers_more C s es e = ap answers (history_append C s es (e ∷ [])) ∙ map-append (λ (c : Call). c.answer) (history C s es) (history C (run C s es) (e ∷ []))

-- one call more
pub call_more : (C : Cipher) (es : List Event) (e : Event) (r : Reached) → with_calls C (es ++ e ∷ []) r ≡ with_outcome (step C (with_calls C es r).state e) (with_calls C es r)
unfolding run
call_more C es e r =
    let given = answers (history C r.state es) in
    let o = step C (run C r.state es) e in
    let made : State → ℕ → List ℕ → Reached = λ t m qs. record { detail = r.detail; state = t; number = m; rows = qs } in
    ap₂ (λ t zs. made t (number_behind r.number zs) (r.rows ++ rows_from r.detail r.number zs)) (run_append C r.state es (e ∷ [])) (answers_more C r.state es e)
    ∙ ap₂ (λ m qs. made o.state m (r.rows ++ qs)) (number_more r.number given o.answer) (rows_more r.detail r.number given o.answer)
    ∙ ap (λ qs. made o.state (next_number (number_behind r.number given)) qs) (sym (append_assoc r.rows (rows_from r.detail r.number given) (row r.detail (number_behind r.number given) o.answer)))

-- no call
pub calls_none : (C : Cipher) (r : Reached) → with_calls C [] r ≡ r
unfolding history run
calls_none C r = ap (λ zs. record { detail = r.detail; state = r.state; number = r.number; rows = zs }) (append-nil r.rows)

-- calls that were made and printed
pub calls_made : (C : Cipher) (s t : State) (es : List Event) (d : Detail) (n m : ℕ) (old new : List ℕ) → Replayed C s es d n old t new m
    → ◌≡◌ {A = Reached} (record { detail = d; state = t; number = m; rows = new }) (with_calls C es (record { detail = d; state = s; number = n; rows = old }))
calls_made C s t es d n m old new h =
    let made : State → ℕ → List ℕ → Reached = λ x k qs. record { detail = d; state = x; number = k; rows = qs } in
    ap₂ (λ x k. made x k new) h.state h.printed.number ∙ ap (λ qs. made (run C s es) (number_behind n (answers (history C s es))) qs) h.printed.rows
