-- The receiver's states against the bytes that it has read.
use Rattle.std.proofs.Common.{◌≡◌, ℕ, zero, suc, ◌+◌, ◌*◌, ◌/◌, ◌%◌, ◌<◌, ◌≤◌, true, false, eqb, ltb, List, [], ◌∷◌, ◌++◌, length, sym, refl, ap, ◌∙◌, subst, inl, inr, true≢false, append_assoc, arith, length-append}
use Rattle.std.proofs.lemmas.Bool.{and_from, and_left, and_right, eqb-true, eqb-false, ltb-true, ltb-false, lt-ltb, le-ltb, le-leb, lt-leb, cases_lt, cond_both}
use Rattle.fault.specs.declared.Fault.TheVariants.{NoHeader, BadChecksum, NoLength, TooLong}
use Rattle.wire.specs.Checksum.{crc}
use Rattle.wire.specs.Frame.{frame}
use Rattle.wire.proofs.Frames.{length_frame}
use Rattle.rules.specs.Receiver.{Receiver, Read, read}
use Rattle.rules.specs.Receiver.Receiver.{idle, length_low, length_high, body, check_low, check_high}
use Rattle.rules.specs.Receiver.Read.{waits, bad, good}
use Rattle.rules.specs.Words.{Each}
use Rattle.rules.specs.Arrival.{InByte, core_sized, begins_frame}

-- the bytes of a frame that the receiver has read
abbrev pub so_far : Receiver → List ℕ
so_far idle = []
so_far length_low = 0x80 ∷ []
so_far (length_high low) = 0x80 ∷ low ∷ []
so_far (body n bs) = 0x80 ∷ (n % 0x100) ∷ (n / 0x100) ∷ bs
so_far (check_low core) = 0x80 ∷ (length core % 0x100) ∷ (length core / 0x100) ∷ core
so_far (check_high core low) = 0x80 ∷ (length core % 0x100) ∷ (length core / 0x100) ∷ (core ++ low ∷ [])

-- which states bytes lead to
abbrev pub Possible : Receiver → Type 0
Possible idle = Unit {0}
Possible length_low = Unit {0}
Possible (length_high low) = InByte low
Possible (body n bs) = (1 ≤ n) × (n ≤ 299) × (length bs < n) × Each InByte bs
Possible (check_low core) = (1 ≤ length core) × (length core ≤ 299) × Each InByte core
Possible (check_high core low) = (1 ≤ length core) × (length core ≤ 299) × Each InByte core × InByte low

pub each_snoc : (bs : List ℕ) (b : ℕ) → Each InByte bs → InByte b → Each InByte (bs ++ b ∷ [])
each_snoc [] b h k = (k, tt)
each_snoc (x ∷ xs) b h k = (h.0, each_snoc xs b h.1 k)

pub long_snoc : (bs : List ℕ) (b : ℕ) → length (bs ++ b ∷ []) ≡ suc (length bs)
long_snoc bs b = length-append bs (b ∷ []) ∙ omega arith

-- lists that agree agree in their parts
pub same_parts : (xs ys us vs : List ℕ) → length xs ≡ length ys → xs ++ us ≡ ys ++ vs → (xs ≡ ys) × (us ≡ vs)
same_parts [] [] us vs l e = (refl, e)
same_parts [] (y ∷ ys) us vs l e = absurd (omega arith)
same_parts (x ∷ xs) [] us vs l e = absurd (omega arith)
same_parts (x ∷ xs) (y ∷ ys) us vs l e =
    let h : x ≡ y = cc in
    let t : xs ++ us ≡ ys ++ vs = cc in
    let m : length xs ≡ length ys = omega arith in
    let r = same_parts xs ys us vs m t in
    (λ i. h i ∷ r.0 i, r.1)

-- a core command in a frame, of a length that can be
pub record Framed (core bs : List ℕ) : Type 0 where
  pub frames : bs ≡ frame core
  pub sized : core_sized (length core) ≡ true

-- the parts of a frame
abbrev laid_out : ℕ → ℕ → List ℕ → ℕ → ℕ → List ℕ
laid_out low high core lo hi = 0x80 ∷ low ∷ high ∷ (core ++ lo ∷ hi ∷ [])

same_frame : (xs core : List ℕ) (lo hi : ℕ) → laid_out (length xs % 0x100) (length xs / 0x100) xs lo hi ≡ frame core
    → (xs ≡ core) × (lo ≡ crc core % 0x100) × (hi ≡ crc core / 0x100)
unfolding frame
same_frame xs core lo hi e =
    let l : length xs % 0x100 ≡ length core % 0x100 = cc in
    let h : length xs / 0x100 ≡ length core / 0x100 = cc in
    let t : xs ++ lo ∷ hi ∷ [] ≡ core ++ (crc core % 0x100) ∷ (crc core / 0x100) ∷ [] = cc in
    let r = same_parts xs core (lo ∷ hi ∷ []) ((crc core % 0x100) ∷ (crc core / 0x100) ∷ []) (omega arith) t in
    let u : lo ∷ hi ∷ [] ≡ (crc core % 0x100) ∷ (crc core / 0x100) ∷ [] = r.1 in
    (r.0, cc, cc)

-- what reading a byte comes to, for the bytes read
abbrev pub ComesTo : List ℕ → Read → Type 0
ComesTo bs (waits r) = Possible r × (so_far r ≡ bs) × (begins_frame bs ≡ true)
ComesTo bs (bad f) = (begins_frame bs ≡ false) × ((core : List ℕ) → Framed core bs → ⊥)
ComesTo bs (good core) = (begins_frame bs ≡ false) × Framed core bs × Each InByte core

sized_from : (n : ℕ) → 1 ≤ n → n ≤ 299 → core_sized n ≡ true
sized_from n h k = and_from _ _ (le-leb 1 n h) (le-leb n 299 k)

-- three bytes or more, of a given length
within : (low high : ℕ) (bs : List ℕ) (n : ℕ) → low + 0x100 * high ≡ n → 1 ≤ n → n ≤ 299 → length bs < n + 2 → begins_frame (0x80 ∷ low ∷ high ∷ bs) ≡ true
unfolding begins_frame
within low high bs n e h k l =
    and_from _ _ (sized_from (low + 0x100 * high) (omega arith) (omega arith)) (lt-ltb (length bs) (low + 0x100 * high + 2) (omega arith))

ended_frame : (low high : ℕ) (bs : List ℕ) (n : ℕ) → low + 0x100 * high ≡ n → length bs ≡ n + 2 → begins_frame (0x80 ∷ low ∷ high ∷ bs) ≡ false
unfolding begins_frame
ended_frame low high bs n e l = and_right _ _ (le-ltb (length bs) (low + 0x100 * high + 2) (omega arith))

unsized : (low high : ℕ) (bs : List ℕ) → core_sized (low + 0x100 * high) ≡ false → begins_frame (0x80 ∷ low ∷ high ∷ bs) ≡ false
unfolding begins_frame
unsized low high bs e = and_left _ _ e

positive : (n : ℕ) → (n ≡ 0 → ⊥) → 1 ≤ n
positive zero h = absurd (h refl)
positive (suc n) h = omega arith

below : (m n : ℕ) → m ≤ n → (m ≡ n → ⊥) → m < n
below m n h k = elim (cases_lt m n) [ inl l ↦ l | inr l ↦ absurd (k (omega arith)) ]

too_short : (bs core : List ℕ) → length bs < 5 → Framed core bs → ⊥
too_short bs core h f = let l = ap length f.frames ∙ length_frame core in omega arith

read_idle : (b : ℕ) → ComesTo (b ∷ []) (read idle b)
unfolding begins_frame
read_idle b =
    cond_both (eqb b 0x80) (waits length_low) (bad (NoHeader b)) (ComesTo (b ∷ []))
    (λ e. (tt, ap (λ (n : ℕ). n ∷ []) (sym (eqb-true b 0x80 e)), e))
    (λ e. (e, λ core. too_short (b ∷ []) core (omega arith)))

read_high : (low b : ℕ) → InByte low → InByte b → ComesTo (0x80 ∷ low ∷ b ∷ []) (read (length_high low) b)
read_high low b h k =
    let none : (core : List ℕ) → Framed core (0x80 ∷ low ∷ b ∷ []) → ⊥ = λ core. too_short (0x80 ∷ low ∷ b ∷ []) core (omega arith) in
    cond_both (eqb (low + 0x100 * b) 0) (bad NoLength) _ (ComesTo (0x80 ∷ low ∷ b ∷ []))
    (λ e. let z = eqb-true (low + 0x100 * b) 0 e in (unsized low b [] (and_left _ _ (lt-leb 1 (low + 0x100 * b) (omega arith))), none))
    (λ e.
    let z : low + 0x100 * b ≡ 0 → ⊥ = eqb-false (low + 0x100 * b) 0 e in
    cond_both (ltb 299 (low + 0x100 * b)) (bad (TooLong (low + 0x100 * b))) (waits (body (low + 0x100 * b) [])) (ComesTo (0x80 ∷ low ∷ b ∷ []))
    (λ f. let m = ltb-true 299 (low + 0x100 * b) f in (unsized low b [] (and_right _ _ (lt-leb (low + 0x100 * b) 299 (omega arith))), none))
    (λ f.
    let m = ltb-false 299 (low + 0x100 * b) f in
    let l : (low + 0x100 * b) % 0x100 ≡ low = omega arith in
    let g : (low + 0x100 * b) / 0x100 ≡ b = omega arith in
    let p : 1 ≤ low + 0x100 * b = positive (low + 0x100 * b) z in
    ((p, m, omega arith, tt), (λ i. 0x80 ∷ l i ∷ g i ∷ []), within low b [] (low + 0x100 * b) refl p m (omega arith))))

read_body : (n : ℕ) (bs : List ℕ) (b : ℕ) → Possible (body n bs) → InByte b → ComesTo (so_far (body n bs) ++ b ∷ []) (read (body n bs) b)
read_body n bs b h k =
    let l = long_snoc bs b in
    let w : begins_frame (so_far (body n bs) ++ b ∷ []) ≡ true = within (n % 0x100) (n / 0x100) (bs ++ b ∷ []) n (omega arith) h.0 h.1 (omega arith) in
    cond_both (eqb (suc (length bs)) n) (check_low (bs ++ b ∷ [])) (body n (bs ++ b ∷ [])) (λ r. ComesTo (so_far (body n bs) ++ b ∷ []) (waits r))
    (λ e.
    let m : length (bs ++ b ∷ []) ≡ n = l ∙ eqb-true (suc (length bs)) n e in
    ((omega arith, omega arith, each_snoc bs b h.3 k), (λ i. 0x80 ∷ (m i % 0x100) ∷ (m i / 0x100) ∷ (bs ++ b ∷ [])), w))
    (λ e. let m : suc (length bs) ≡ n → ⊥ = eqb-false (suc (length bs)) n e in ((h.0, h.1, below _ n (omega arith) (λ i. m (sym l ∙ i)), each_snoc bs b h.3 k), refl, w))

read_check : (core : List ℕ) (low b : ℕ) → Possible (check_high core low) → InByte b → ComesTo (so_far (check_high core low) ++ b ∷ []) (read (check_high core low) b)
unfolding frame
read_check core low b h k =
    let same : so_far (check_high core low) ++ b ∷ [] ≡ laid_out (length core % 0x100) (length core / 0x100) core low b =
    ap (λ (t : List ℕ). 0x80 ∷ (length core % 0x100) ∷ (length core / 0x100) ∷ t) (append_assoc core (low ∷ []) (b ∷ [])) in
    let over : begins_frame (so_far (check_high core low) ++ b ∷ []) ≡ false =
    ended_frame (length core % 0x100) (length core / 0x100) ((core ++ low ∷ []) ++ b ∷ []) (length core) (omega arith)
    (length-append (core ++ low ∷ []) (b ∷ []) ∙ (let l = long_snoc core low in omega arith)) in
    cond_both (eqb (low + 0x100 * b) (crc core)) (good core) (bad (BadChecksum (low + 0x100 * b))) (ComesTo (so_far (check_high core low) ++ b ∷ []))
    (λ e.
    let c = eqb-true (low + 0x100 * b) (crc core) e in
    let lo : low ≡ crc core % 0x100 = omega arith in
    let hi : b ≡ crc core / 0x100 = omega arith in
    (over, record { frames = same ∙ (λ i. laid_out (length core % 0x100) (length core / 0x100) core (lo i) (hi i)); sized = sized_from (length core) h.0 h.1 }, h.2))
    (λ e. (
      over,
      λ other f.
          let p = same_frame core other low b (sym same ∙ f.frames) in
          let c : crc core ≡ crc other = ap crc p.0 in
          eqb-false (low + 0x100 * b) (crc core) e (omega (arith, p.1, p.2)),
    ))

pub reading : (h : Receiver) (b : ℕ) → Possible h → InByte b → ComesTo (so_far h ++ b ∷ []) (read h b)
unfolding begins_frame
reading idle b h k = read_idle b
reading length_low b h k = (k, refl, refl)
reading (length_high low) b h k = read_high low b h k
reading (body n bs) b h k = read_body n bs b h k
reading (check_low core) b h k =
    let l = long_snoc core b in
    let w : begins_frame (so_far (check_low core) ++ b ∷ []) ≡ true =
    within (length core % 0x100) (length core / 0x100) (core ++ b ∷ []) (length core) (omega arith) h.0 h.1 (omega arith) in
    ((h.0, h.1, h.2, k), refl, w)
reading (check_high core low) b h k = read_check core low b h k

-- a whole frame is at its end
pub frame_ended : (core : List ℕ) → begins_frame (frame core) ≡ false
unfolding frame
frame_ended core =
    let l = length-append core ((crc core % 0x100) ∷ (crc core / 0x100) ∷ []) in
    ended_frame (length core % 0x100) (length core / 0x100) (core ++ (crc core % 0x100) ∷ (crc core / 0x100) ∷ []) (length core) (omega arith) (omega arith)

-- frames tell core commands apart
pub frame_apart : (core other : List ℕ) → frame core ≡ frame other → core ≡ other
unfolding frame
frame_apart core other e = (same_frame core other (crc core % 0x100) (crc core / 0x100) e).0

good_from : (bs : List ℕ) (core : List ℕ) (r : Read) → ComesTo bs r → Framed core bs → r ≡ good core
good_from bs core (waits r) h f = absurd (true≢false (sym h.2 ∙ (ap begins_frame f.frames ∙ frame_ended core)))
good_from bs core (bad x) h f = absurd (h.1 core f)
good_from bs core (good other) h f = ap good (frame_apart other core (sym h.1.frames ∙ f.frames))

-- a core command is there exactly when the bytes read are its frame
module _ (h : Receiver) (b : ℕ) (p : Possible h) (k : InByte b) where
  pub good_framed : (core : List ℕ) → read h b ≡ good core → Framed core (so_far h ++ b ∷ []) × Each InByte core
  good_framed core e = let c : ComesTo (so_far h ++ b ∷ []) (good core) = subst (ComesTo (so_far h ++ b ∷ [])) e (reading h b p k) in (c.1, c.2)

  pub framed_good : (core : List ℕ) → Framed core (so_far h ++ b ∷ []) → read h b ≡ good core
  framed_good core f = good_from (so_far h ++ b ∷ []) core (read h b) (reading h b p k) f
