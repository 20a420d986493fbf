-- What taking a packet comes to, exit by exit, and a mass erase.
use Rattle.std.proofs.Common.{◌≡◌, ℕ, Bool, true, false, cond, not, List, Ok, Err, Result, sym, refl, ap, ◌∙◌, ap₂}
use Rattle.std.proofs.lemmas.Bool.{cond-false, not-false, not-true}
use Rattle.fault.specs.Checks.{check}
use Rattle.fault.specs.declared.Fault.{Fault}
use Rattle.fault.specs.declared.Fault.TheVariants.{Dark}
use Rattle.cipher.specs.Cipher.{Cipher}
use Rattle.memory.specs.Meaning.{Contents, Meaning, Performs, Step, perform}
use Rattle.memory.specs.Steps.{erase_steps}
use Rattle.memory.specs.declared.supply.Supply.{Supply}
use Rattle.memory.proofs.Exits.{check_failed, check_passed}
use Rattle.rules.specs.Receiver.Receiver.{idle}
use Rattle.rules.specs.declared.Session.{Session}
use Rattle.rules.specs.declared.Session.TheVariants.{Closed}
use Rattle.rules.specs.Board.{KeyPacket, Outcome, Packet, State, carry_out, data_steps, enact, ended, judge_data, judge_key, key_steps, no_packet, on_data, on_key, refuses, session_after}
use Rattle.rules.specs.Board.Deed.{erases}
use Rattle.rules.proofs.Refusing.{OfPacket, data_refused, key_refused}
use Rattle.board.specs.Outcomes.{Working, board_with, lit, lit_board, packet_outcome, refused_sends, works}

-- an outcome of the parts that differ
abbrev outcome_by : Meaning → Session → Bool → Fault → List ℕ → Outcome
outcome_by m n d f bs = record { state = board_with m idle n d; answer = refuses f bs }

-- a packet that a check refuses
refused : (m : Meaning) (n : Session) (f : Fault) → OfPacket f → packet_outcome (works m n) (Err f) ≡ enact (no_packet f) (lit_board m n)
unfolding enact
refused m n f h =
    ap (λ d. outcome_by m n d f (refused_sends f)) h.0
    ∙ ap (outcome_by m n false f) (cond-false _ _ _ h.0 ∙ cond-false _ _ _ h.1 ∙ cond-false _ _ _ h.2)

-- steps that were made, and what they answer
abbrev left : Contents → Supply → Meaning
left c u = record { contents = c; supply = u }

ended_as : (k : Session) (c : Contents) (u : Supply) (d : Bool) → packet_outcome (works (left c u) (cond d Closed k)) (check (not d) Dark) ≡ ended k c u d
unfolding ended
ended_as k c u true = refl
ended_as k c u false = refl

module _ (xs : List Step) (k : Session) (m m' : Meaning) (n : Session) where
  carried : (n' : Session) (r : Result (Unit {0}) Fault) → Performs xs m m' r → n' ≡ cond (perform xs m.supply m.contents).dark Closed k
      → packet_outcome (works m' n') r ≡ carry_out xs k (lit_board m n)
  unfolding carry_out
  carried n' r d e =
      let p = perform xs m.supply m.contents in
      ap (λ x. packet_outcome (works x n') r) d.after
      ∙ ap (λ x. packet_outcome (works (left p.contents p.supply) n') x) d.value
      ∙ ap (λ x. packet_outcome (works (left p.contents p.supply) x) (check (not p.dark) Dark)) e
      ∙ ended_as k p.contents p.supply p.dark

  -- gone dark, the session is over
  carried_dark : (f : Fault) → Performs xs m m' (Err f) → packet_outcome (works m' Closed) (Err f) ≡ carry_out xs k (lit_board m n)
  carried_dark f d =
      let p = perform xs m.supply m.contents in
      carried Closed (Err f) d (sym (ap (λ b. cond b Closed k) (not-false _ (check_failed (not p.dark) Dark f d.value))))

  -- else it is the one given
  carried_well : Performs xs m m' (Ok tt) → packet_outcome (works m' k) (Ok tt) ≡ carry_out xs k (lit_board m n)
  carried_well d =
      let p = perform xs m.supply m.contents in
      carried k (Ok tt) d (sym (ap (λ b. cond b Closed k) (not-true _ (check_passed (not p.dark) Dark d.value))))

-- a packet on a board that is not dark: the board as it is when the packet arrives, and the memory that is left
module _ (C : Cipher) (w : Working) (m k m' : Meaning) (n : Session) (at : works m n ≡ w) (same : k ≡ m) (core : List ℕ) where
  abbrev s : State
  s = lit w

  abbrev data_end : Outcome
  data_end = enact (on_data (judge_data C s core)) s

  abbrev key_end : Outcome
  key_end = enact (on_key (judge_key C s core)) s

  -- a check refuses it
  pub data_refuses : (f : Fault) (r : Result (Unit {0}) Fault) → r ≡ Err f → judge_data C s core ≡ Err f → packet_outcome (works k n) r ≡ data_end
  unfolding on_data
  data_refuses f r e j =
      ap₂ (λ x y. packet_outcome (works x n) y) same e
      ∙ refused m n f (data_refused C s core f j)
      ∙ ap (λ x. enact (no_packet f) (lit x)) at
      ∙ sym (ap (λ i. enact (on_data i) s) j)

  pub key_refuses : (f : Fault) (r : Result (Unit {0}) Fault) → r ≡ Err f → judge_key C s core ≡ Err f → packet_outcome (works k n) r ≡ key_end
  unfolding on_key
  key_refuses f r e j =
      ap₂ (λ x y. packet_outcome (works x n) y) same e
      ∙ refused m n f (key_refused C s core f j)
      ∙ ap (λ x. enact (no_packet f) (lit x)) at
      ∙ sym (ap (λ i. enact (on_key i) s) j)

  -- it passes them, and its steps are made
  module _ (q : Packet) (j : judge_data C s core ≡ Ok q) where
    data_steps_end : carry_out (data_steps q) (session_after q) (lit_board m n) ≡ data_end
    unfolding on_data enact
    data_steps_end = ap (λ x. carry_out (data_steps q) (session_after q) (lit x)) at ∙ sym (ap (λ i. enact (on_data i) s) j)

    pub data_dark : (f : Fault) (r : Result (Unit {0}) Fault) → r ≡ Err f → Performs (data_steps q) k m' (Err f) → packet_outcome (works m' Closed) r ≡ data_end
    data_dark f r e d =
        ap (packet_outcome (works m' Closed)) e
        ∙ carried_dark (data_steps q) (session_after q) k m' n f d
        ∙ ap (λ x. carry_out (data_steps q) (session_after q) (lit_board x n)) same
        ∙ data_steps_end

    pub data_well : (next : Session) → next ≡ session_after q → Performs (data_steps q) k m' (Ok tt) → packet_outcome (works m' next) (Ok tt) ≡ data_end
    data_well next e d =
        ap (λ x. packet_outcome (works m' x) (Ok tt)) e
        ∙ carried_well (data_steps q) (session_after q) k m' n d
        ∙ ap (λ x. carry_out (data_steps q) (session_after q) (lit_board x n)) same
        ∙ data_steps_end

  module _ (q : KeyPacket) (j : judge_key C s core ≡ Ok q) where
    key_steps_end : carry_out (key_steps q) n (lit_board m n) ≡ key_end
    unfolding on_key enact
    key_steps_end = ap (λ (x : Working). carry_out (key_steps q) x.session (lit x)) at ∙ sym (ap (λ i. enact (on_key i) s) j)

    pub key_dark : (f : Fault) (r : Result (Unit {0}) Fault) → r ≡ Err f → Performs (key_steps q) k m' (Err f) → packet_outcome (works m' Closed) r ≡ key_end
    key_dark f r e d =
        ap (packet_outcome (works m' Closed)) e
        ∙ carried_dark (key_steps q) n k m' n f d
        ∙ ap (λ x. carry_out (key_steps q) n (lit_board x n)) same
        ∙ key_steps_end

    pub key_well : Performs (key_steps q) k m' (Ok tt) → packet_outcome (works m' n) (Ok tt) ≡ key_end
    key_well d =
        carried_well (key_steps q) n k m' n d
        ∙ ap (λ x. carry_out (key_steps q) n (lit_board x n)) same
        ∙ key_steps_end

-- a mass erase
pub erase_ends : (w : Working) (m m' : Meaning) (n : Session) (r : Result (Unit {0}) Fault) → works m n ≡ w → Performs erase_steps m m' r
    → packet_outcome (works m' Closed) r ≡ enact erases (lit w)
unfolding enact
erase_ends w m m' n (Ok u) e d = carried_well erase_steps Closed m m' n d ∙ ap (λ x. carry_out erase_steps Closed (lit x)) e
erase_ends w m m' n (Err f) e d = carried_dark erase_steps Closed m m' n f d ∙ ap (λ x. carry_out erase_steps Closed (lit x)) e
