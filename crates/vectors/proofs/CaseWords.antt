-- The words of a case, told apart by their number and the first of them.
use Rattle.std.proofs.Common.{◌≡◌, ℕ, ◌<◌, ◌≤◌, true, false, codes, List, [], ◌∷◌, length, get_or, map, None, Bor, refl, sym, ◌∙◌, arith}
use Rattle.std.specs.Str.{bytes_eq}
use Rattle.std.proofs.lemmas.Bool.{cond-false, cond-true}
use Rattle.text.specs.Decimal.{decimal_read}
use Rattle.vectors.specs.Cases.{answer_read, data_given, key_given}
use Rattle.vectors.specs.Words.{data_read, key_read, sealing_read}

-- the texts of words
abbrev pub texts : List (Bor (List ℕ)) → List (List ℕ)
texts ws = map (λ (w : Bor (List ℕ)). w.now) ws

-- the text of the i-th word
abbrev pub text : Bor (List ℕ) → List (Bor (List ℕ)) → ℕ → List ℕ
text d ws i = (get_or ws i d).now

-- eight words, of which the first is 'key'
pub key_words : (d : Bor (List ℕ)) (ws : List (Bor (List ℕ))) → 8 ≤ length ws → length ws < 9 → bytes_eq (text d ws 0) (codes "key") ≡ true
    → key_given (sealing_read (text d ws 1) (text d ws 2) (text d ws 3)) (key_read (text d ws 4) (text d ws 5) (text d ws 7)) (decimal_read 4294967295 (text d ws 6)) ≡ answer_read (texts ws)
key_words d [] low high t = absurd (omega arith)
key_words d (k ∷ []) low high t = absurd (omega arith)
key_words d (k ∷ a ∷ []) low high t = absurd (omega arith)
key_words d (k ∷ a ∷ b ∷ []) low high t = absurd (omega arith)
key_words d (k ∷ a ∷ b ∷ c ∷ []) low high t = absurd (omega arith)
key_words d (k ∷ a ∷ b ∷ c ∷ e ∷ []) low high t = absurd (omega arith)
key_words d (k ∷ a ∷ b ∷ c ∷ e ∷ f ∷ []) low high t = absurd (omega arith)
key_words d (k ∷ a ∷ b ∷ c ∷ e ∷ f ∷ g ∷ []) low high t = absurd (omega arith)
key_words d (k ∷ a ∷ b ∷ c ∷ e ∷ f ∷ g ∷ h ∷ []) low high t = sym (cond-true _ _ _ t)
key_words d (k ∷ a ∷ b ∷ c ∷ e ∷ f ∷ g ∷ h ∷ i ∷ x) low high t = absurd (omega arith)

-- ten words, of which the first is 'data'
pub data_words : (d : Bor (List ℕ)) (ws : List (Bor (List ℕ))) → 10 ≤ length ws → length ws < 11 → bytes_eq (text d ws 0) (codes "data") ≡ true
    → data_given (sealing_read (text d ws 1) (text d ws 2) (text d ws 3)) (data_read (text d ws 4) (text d ws 5) (text d ws 6) (text d ws 7) (text d ws 8)) (text d ws 9) ≡ answer_read (texts ws)
data_words d [] low high t = absurd (omega arith)
data_words d (k ∷ []) low high t = absurd (omega arith)
data_words d (k ∷ a ∷ []) low high t = absurd (omega arith)
data_words d (k ∷ a ∷ b ∷ []) low high t = absurd (omega arith)
data_words d (k ∷ a ∷ b ∷ c ∷ []) low high t = absurd (omega arith)
data_words d (k ∷ a ∷ b ∷ c ∷ e ∷ []) low high t = absurd (omega arith)
data_words d (k ∷ a ∷ b ∷ c ∷ e ∷ f ∷ []) low high t = absurd (omega arith)
data_words d (k ∷ a ∷ b ∷ c ∷ e ∷ f ∷ g ∷ []) low high t = absurd (omega arith)
data_words d (k ∷ a ∷ b ∷ c ∷ e ∷ f ∷ g ∷ h ∷ []) low high t = absurd (omega arith)
data_words d (k ∷ a ∷ b ∷ c ∷ e ∷ f ∷ g ∷ h ∷ i ∷ []) low high t = absurd (omega arith)
data_words d (k ∷ a ∷ b ∷ c ∷ e ∷ f ∷ g ∷ h ∷ i ∷ j ∷ []) low high t = sym (cond-true _ _ _ t)
data_words d (k ∷ a ∷ b ∷ c ∷ e ∷ f ∷ g ∷ h ∷ i ∷ j ∷ l ∷ x) low high t = absurd (omega arith)

-- any other number of words, or any other first one
pub record NoCase (d : Bor (List ℕ)) (ws : List (Bor (List ℕ))) : Type 0 where
  pub three : length ws ≡ 3 → bytes_eq (text d ws 0) (codes "block") ≡ false
  pub five : length ws ≡ 5 → (bytes_eq (text d ws 0) (codes "seal") ≡ false) × (bytes_eq (text d ws 0) (codes "open") ≡ false)
  pub eight : length ws ≡ 8 → bytes_eq (text d ws 0) (codes "key") ≡ false
  pub ten : length ws ≡ 10 → bytes_eq (text d ws 0) (codes "data") ≡ false

pub no_case : (d : Bor (List ℕ)) (ws : List (Bor (List ℕ))) → NoCase d ws → None ≡ answer_read (texts ws)
no_case d [] n = refl
no_case d (k ∷ []) n = refl
no_case d (k ∷ a ∷ []) n = refl
no_case d (k ∷ a ∷ b ∷ []) n = sym (cond-false _ _ _ (n.three refl))
no_case d (k ∷ a ∷ b ∷ c ∷ []) n = refl
no_case d (k ∷ a ∷ b ∷ c ∷ e ∷ []) n = sym (cond-false _ _ _ (n.five refl).0 ∙ cond-false _ _ _ (n.five refl).1)
no_case d (k ∷ a ∷ b ∷ c ∷ e ∷ f ∷ []) n = refl
no_case d (k ∷ a ∷ b ∷ c ∷ e ∷ f ∷ g ∷ []) n = refl
no_case d (k ∷ a ∷ b ∷ c ∷ e ∷ f ∷ g ∷ h ∷ []) n = sym (cond-false _ _ _ (n.eight refl))
no_case d (k ∷ a ∷ b ∷ c ∷ e ∷ f ∷ g ∷ h ∷ i ∷ []) n = refl
no_case d (k ∷ a ∷ b ∷ c ∷ e ∷ f ∷ g ∷ h ∷ i ∷ j ∷ []) n = sym (cond-false _ _ _ (n.ten refl))
no_case d (k ∷ a ∷ b ∷ c ∷ e ∷ f ∷ g ∷ h ∷ i ∷ j ∷ l ∷ x) n = refl
