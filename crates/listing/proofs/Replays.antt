-- Lines taken one by one, and their rows written now and then.
use Rattle.std.proofs.Common.{◌≡◌, ℕ, ◌+◌, ◌-◌, ◌^◌, ◌≤◌, true, false, List, [], ◌∷◌, ◌++◌, None, Some, Option, Ok, Err, Result, IfOk, IfSome, length, refl, sym, ap, ap₂, subst, ◌∙◌, arith}
use Rattle.std.proofs.lemmas.List.{append_assoc}
use Rattle.std.specs.Io.KnownBytes.{Appends}
use Rattle.std.specs.Result.{MatchResult}
use Rattle.cipher.specs.Cipher.{Cipher}
use Rattle.rules.specs.declared.Event.{Event}
use Rattle.rules.specs.Board.{State}
use Rattle.listing.specs.declared.rows.Detail.{Detail}
use Rattle.listing.specs.Lines.{whole_lines}
use Rattle.listing.specs.Listing.{Reached, behind_rows, with_calls, with_line, with_lines, without_rows}
use Rattle.text.proofs.Writers.{append_none, appends_more}
use Rattle.listing.specs.Streams.{LineRead, LinesReplayed, RowsMoved}
use Rattle.listing.proofs.Reaching.{calls_none}

-- a call that is told to have succeeded did
pub succeeded : {E : Type 0} (P : Unit {0} → Type 0) (Q : Type 0) (r : Result (Unit {0}) E) → MatchResult r P (λ e. ⊥) → IfOk r (λ _. Q) → Q
succeeded P Q (Ok u) h p = p
succeeded P Q (Err e) h p = absurd h

-- no call waits
pub none_wait : (C : Cipher) (es : List Event) (r : Reached) → es ≡ [] → with_calls C es r ≡ r
none_wait C es r none = ap (λ zs. with_calls C zs r) none ∙ calls_none C r

-- so the board is the one that is reached
pub state_reached : (C : Cipher) (es : List Event) (r : Reached) → es ≡ [] → r.state ≡ (with_calls C es r).state
state_reached C es r none = ap (λ (s : Reached). s.state) (sym (none_wait C es r none))

-- rows that were written are gone, and nothing else
pub cleared : (r s : Reached) → s.detail ≡ r.detail → s.state ≡ r.state → s.number ≡ r.number → s.rows ≡ [] → s ≡ without_rows r
cleared r s d t n none =
    let made : Detail → State → ℕ → List ℕ → Reached = λ w x y zs. record { detail = w; state = x; number = y; rows = zs } in
    ap₂ (λ w x. made w x s.number s.rows) d t ∙ ap₂ (made r.detail r.state) n none

-- rows that are written in between stay before the others
lines_behind : (C : Cipher) (lines : List (List ℕ)) (written : List ℕ) (r : Reached)
    → with_lines C lines (behind_rows written r) ≡ behind_rows written (with_lines C lines r)
lines_behind C [] written r = refl
lines_behind C (line ∷ lines) written r =
    ap (with_lines C lines) (one_behind line written r) ∙ lines_behind C lines written (with_line C line r)
  where
    one_behind : (line written : List ℕ) (r : Reached) → with_line C line (behind_rows written r) ≡ behind_rows written (with_line C line r)
    one_behind line written r =
        let s = with_line C line r in
        ap (λ zs. record { detail = s.detail; state = s.state; number = s.number; rows = zs }) (append_assoc written r.rows _)

-- Of the bytes xs that were left, n lines were taken, and ys are left: what they come to from before is what ys come to from after, behind the rows that are written.
pub record Moved (C : Cipher) (n : ℕ) (xs ys : List ℕ) (held held-new : Option (List ℕ)) (before after : Reached) : Type 0 where
  pub written : List ℕ
  pub appended : Appends held held-new written
  pub comes : with_lines C (whole_lines xs) before ≡ behind_rows written (with_lines C (whole_lines ys) after)
  pub count : length (whole_lines xs) ≡ n + length (whole_lines ys)

-- the same, where the bytes are known
abbrev pub Progress : Cipher → ℕ → Option (List ℕ) → Option (List ℕ) → Option (List ℕ) → Option (List ℕ) → Reached → Reached → Type 0
Progress C n left new held held-new before after = IfSome left (λ xs. (ys : List ℕ) × (new ≡ Some ys) × Moved C n xs ys held held-new before after)

pub begun : (C : Cipher) (left held : Option (List ℕ)) (r : Reached) → Progress C 0 left left held held r r
begun C None held r = tt
begun C (Some xs) held r = (xs, refl, record { written = []; appended = append_none held; comes = refl; count = omega arith })

-- one line on
pub goes_on : (C : Cipher) (n : ℕ) (left new newer held held-new held-newer : Option (List ℕ)) (line : List ℕ) (before r s t : Reached)
    → Progress C n left new held held-new before r → LineRead true new newer line → s ≡ with_line C line r → RowsMoved held-new held-newer s t
    → Progress C (n + 1) left newer held held-newer before t
goes_on C n None new newer held held-new held-newer line before r s t p read is moved = tt
goes_on C n (Some xs) new newer held held-new held-newer line before r s t (ys, at, m) read is (w, appended, behind) =
    let (zs, at2, lines) = read_at in
    let rest = whole_lines zs in (
      zs,
      at2,
      record {
        written = m.written ++ w;
        appended = appends_more held held-new held-newer m.written w m.appended appended;
        comes =
            m.comes
            ∙ ap (λ ls. behind_rows m.written (with_lines C ls r)) lines
            ∙ ap (λ u. behind_rows m.written (with_lines C rest u)) (sym is ∙ behind)
            ∙ ap (behind_rows m.written) (lines_behind C rest w t)
            ∙ ap (λ qs. let u = with_lines C rest t in record { detail = u.detail; state = u.state; number = u.number; rows = qs })
            (sym (append_assoc m.written w (with_lines C rest t).rows));
        count = omega (arith, m.count, ap length lines);
      },
    )
  where
    read_at : (zs : List ℕ) × (newer ≡ Some zs) × (whole_lines ys ≡ line ∷ whole_lines zs)
    read_at = subst (λ o. LineRead true o newer line) at read

-- the end: the rows that wait are written, and the board is the one that is reached
pub comes_to_end : (C : Cipher) (n : ℕ) (left new newer held held-new held-newer : Option (List ℕ)) (line : List ℕ) (before r : Reached) (s : State)
    → Progress C n left new held held-new before r → LineRead false new newer line → Appends held-new held-newer r.rows → s ≡ r.state
    → LinesReplayed C true left newer held held-newer before s
comes_to_end C n None new newer held held-new held-newer line before r s p read written is = tt
comes_to_end C n (Some xs) new newer held held-new held-newer line before r s (ys, at, m) read written is =
    let (at2, none) = read_at in
    let comes = m.comes ∙ ap (λ ls. behind_rows m.written (with_lines C ls r)) none in
    let rows = ap (λ (u : Reached). u.rows) comes in (
      at2,
      subst (Appends held held-newer) (sym rows) (appends_more held held-new held-newer m.written r.rows m.appended written),
      is ∙ sym (ap (λ (u : Reached). u.state) comes),
    )
  where
    read_at : (newer ≡ Some []) × (whole_lines ys ≡ [])
    read_at = subst (λ o. LineRead false o newer line) at read

-- as many lines as can be counted
pub comes_to_limit : (C : Cipher) (n : ℕ) (left new held held-new : Option (List ℕ)) (before r : Reached) (s : State) → 2 ^ 64 - 1 ≤ n
    → Progress C n left new held held-new before r → LinesReplayed C false left new held held-new before s
comes_to_limit C n None new held held-new before r s many p = tt
comes_to_limit C n (Some xs) new held held-new before r s many (ys, at, m) = omega (arith, m.count)
