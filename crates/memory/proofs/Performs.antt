-- Facts on lists of steps, wherever the supply ends.
use Rattle.std.proofs.Common.{◌≡◌, zero, suc, ◌-◌, true, false, cond, List, [], ◌∷◌, ◌++◌, refl, ap, arith}
use Rattle.std.specs.List.{AllByRecursion as All}
use Rattle.std.proofs.lemmas.Bool.{false≢true, ltb-false, true≢false}
use Rattle.memory.specs.Meaning.{Contents, Performed, Step, apply, perform}
use Rattle.memory.specs.Supply.{lit, spent}
use Rattle.memory.specs.declared.supply.Supply.{Supply}
use Rattle.memory.specs.declared.supply.Supply.TheVariants.{NoEnd, Steps}

-- more steps after some, unless these went dark
abbrev pub go_on : List Step → Performed → Performed
go_on ys p = cond p.dark p (perform ys p.supply p.contents)

pub perform_append : (xs ys : List Step) (u : Supply) (c : Contents) → perform (xs ++ ys) u c ≡ go_on ys (perform xs u c)
unfolding perform
perform_append [] ys u c = refl
perform_append (x ∷ xs) ys NoEnd c = perform_append xs ys NoEnd (apply x c)
perform_append (x ∷ xs) ys (Steps zero) c = refl
perform_append (x ∷ xs) ys (Steps (suc n)) c = perform_append xs ys (Steps n) (apply x c)

-- the first step is made, unless the supply is 0
pub perform_first : (x : Step) (xs : List Step) (u : Supply) (c : Contents) → lit u ≡ true → perform (x ∷ xs) u c ≡ perform xs (spent u) (apply x c)
unfolding perform
perform_first x xs NoEnd c l = refl
perform_first x xs (Steps zero) c l = absurd (false≢true l)
perform_first x xs (Steps (suc n)) c l = let z : n ≡ suc n - 1 = omega arith in ap (λ k. perform xs (Steps k) (apply x c)) z

-- at supply 0 no step is made
pub perform_none : (x : Step) (xs : List Step) (u : Supply) (c : Contents) → lit u ≡ false → perform (x ∷ xs) u c ≡ record { contents = c; supply = u; dark = true }
unfolding perform
perform_none x xs NoEnd c l = absurd (true≢false l)
perform_none x xs (Steps zero) c l = refl
perform_none x xs (Steps (suc n)) c l = absurd (omega (arith, ltb-false 0 (suc n) l))

-- a step keeps what P says
abbrev pub Keeps : (Contents → Type 0) → Step → Type 0
Keeps P x = (c : Contents) → P c → P (apply x c)

-- what each step keeps, all of them keep
pub perform_keeps : (P : Contents → Type 0) (xs : List Step) → All (Keeps P) xs → (u : Supply) (c : Contents) → P c → P (perform xs u c).contents
unfolding perform
perform_keeps P [] h u c p = p
perform_keeps P (x ∷ xs) h NoEnd c p = perform_keeps P xs h.1 NoEnd (apply x c) (h.0 c p)
perform_keeps P (x ∷ xs) h (Steps zero) c p = p
perform_keeps P (x ∷ xs) h (Steps (suc n)) c p = perform_keeps P xs h.1 (Steps n) (apply x c) (h.0 c p)

-- gone dark, the last step was not made
pub perform_dark : (P : Contents → Type 0) (xs : List Step) (y : Step) → All (Keeps P) xs → (u : Supply) (c : Contents)
    → (perform (xs ++ y ∷ []) u c).dark ≡ true → P c → P (perform (xs ++ y ∷ []) u c).contents
unfolding perform
perform_dark P [] y h NoEnd c d p = absurd (false≢true d)
perform_dark P [] y h (Steps zero) c d p = p
perform_dark P [] y h (Steps (suc n)) c d p = absurd (false≢true d)
perform_dark P (x ∷ xs) y h NoEnd c d p = perform_dark P xs y h.1 NoEnd (apply x c) d (h.0 c p)
perform_dark P (x ∷ xs) y h (Steps zero) c d p = p
perform_dark P (x ∷ xs) y h (Steps (suc n)) c d p = perform_dark P xs y h.1 (Steps n) (apply x c) d (h.0 c p)

-- all steps made
unfoldable pub applied : List Step → Contents → Contents
applied [] c = c
applied (x ∷ xs) c = applied xs (apply x c)

-- not dark, all steps were made
pub perform_all : (xs : List Step) (u : Supply) (c : Contents) → (perform xs u c).dark ≡ false → (perform xs u c).contents ≡ applied xs c
unfolding perform applied
perform_all [] u c d = refl
perform_all (x ∷ xs) NoEnd c d = perform_all xs NoEnd (apply x c) d
perform_all (x ∷ xs) (Steps zero) c d = absurd (true≢false d)
perform_all (x ∷ xs) (Steps (suc n)) c d = perform_all xs (Steps n) (apply x c) d
