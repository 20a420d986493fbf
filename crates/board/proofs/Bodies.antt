-- One byte more of a body.
use Rattle.std.proofs.Common.{◌≡◌, ℕ, suc, ◌<◌, ◌≤◌, true, cond, eqb, ltb, leb, List, [], ◌∷◌, ◌++◌, length, take, refl, sym, ap, ◌∙◌, arith, length-append}
use Rattle.std.proofs.lemmas.List.{take_all}
use Rattle.std.proofs.lemmas.Bool.{and_from, and_parts, cond-true, cond-false, eq-eqb, eqb-true, le-leb, leb-true, lt-ltb, ltb-true, ne_eqb}
use Rattle.rules.specs.Receiver.{read}
use Rattle.rules.specs.Receiver.Read.{waits}
use Rattle.rules.specs.Receiver.Receiver.{body, check_low}
use Rattle.board.specs.declared.receiver.Progress.{Progress}
use Rattle.board.specs.declared.receiver.Progress.TheVariants.{Body, LengthHigh}
use Rattle.board.specs.Progress.{sound}
use Rattle.board.specs.Reading.{receiver_at}

-- nothing is held before the body
pub none_yet : (p : Progress) (xs : List ℕ) (low : ℕ) → p ≡ LengthHigh low → sound p (length xs) ≡ true → xs ≡ []
none_yet p [] low at fits = refl
none_yet p (x ∷ xs) low at fits =
    let h : length (x ∷ xs) ≡ 0 = eqb-true _ _ (ap (λ q. sound q (length (x ∷ xs))) (sym at) ∙ fits) in
    absurd (omega (arith, h))

module _ (p : Progress) (xs ys : List ℕ) (n b : ℕ) (at : p ≡ Body n) (fits : sound p (length xs) ≡ true) (pushed : ys ≡ take 299 (xs ++ b ∷ [])) where
  bounds : (length xs < n) × (n ≤ 299)
  bounds =
      let h = and_parts (ltb (length xs) n) (leb n 299) (ap (λ q. sound q (length xs)) (sym at) ∙ fits) in
      (ltb-true _ _ h.0, leb-true _ _ h.1)

  grown : ys ≡ xs ++ b ∷ []
  grown = pushed ∙ take_all 299 (xs ++ b ∷ []) (omega (arith, length-append xs (b ∷ []), bounds))

  long : length ys ≡ suc (length xs)
  long = ap length grown ∙ length-append xs (b ∷ []) ∙ omega arith

  turned : waits (cond (eqb (suc (length xs)) n) (check_low ys) (body n ys)) ≡ read (receiver_at p xs) b
  turned = ap (λ zs. waits (cond (eqb (suc (length xs)) n) (check_low zs) (body n zs))) grown ∙ sym (ap (λ q. read (receiver_at q xs) b) at)

  -- the last of it
  pub body_last : length ys ≡ n → waits (check_low ys) ≡ read (receiver_at p xs) b
  body_last e = ap waits (sym (cond-true _ _ _ (eq-eqb _ _ (sym long ∙ e)))) ∙ turned

  -- another
  module _ (e : length ys ≡ n → ⊥) where
    pub body_more : waits (body n ys) ≡ read (receiver_at p xs) b
    body_more = ap waits (sym (cond-false _ _ _ (ne_eqb _ _ (λ z. e (long ∙ z))))) ∙ turned

    pub sound_more : sound p (length ys) ≡ true
    sound_more =
        ap (λ q. sound q (length ys)) at
        ∙ and_from (ltb (length ys) n) (leb n 299) (lt-ltb _ _ (omega (arith, e, long, bounds))) (le-leb _ _ bounds.1)
