-- Updates are whole.
use Rattle.std.proofs.Common.{◌≡◌, ℕ, suc, ◌<◌, ◌≤◌, Bool, true, false, cond, eqb, ◌⊎◌, List, [], ◌∷◌, ◌++◌, length, Some, sym, refl, ap, ◌∙◌, subst, inl, inr, true≢false, arith}
use mathlib.Core.Path.{transport}
use Rattle.std.proofs.lemmas.Bool.{cases_eq, eq-eqb, ne_eqb, cond-true, cond-false}
use Rattle.fault.specs.declared.Fault.TheVariants.{Dark}
use Rattle.rules.specs.declared.Event.{Event}
use Rattle.rules.specs.declared.Boot.{Boot}
use Rattle.rules.specs.declared.Boot.TheVariants.{Application, Blank, Unfinished}
use Rattle.memory.specs.declared.held.Held.{Held}
use Rattle.memory.specs.Meaning.{Contents}
use Rattle.rules.specs.Memory.{blank, lay, data_key}
use Rattle.cipher.specs.Cipher.{Cipher, Lawful}
use Rattle.rules.specs.Board.{run, State, Call, Outcome, Packet, turned_away, question, call, step, decide, respond, heard, enact}
use Rattle.rules.specs.Board.{boot, boot_number, session_after, history}
use Rattle.rules.specs.declared.Session.{Session}
use Rattle.rules.specs.declared.Session.TheVariants.{Closed as closed, Expects as expects}
use Rattle.rules.specs.Words.{here, later, Each, version, memory, Boots, Taken, Opens, Opened, Latest, Delivery, Packets, end}
use Rattle.rules.specs.Words.{another, one, skip, Unbroken, done, next, calm, Numbered, Sealed, laid_over, Whole}
use Rattle.rules.specs.Promises.{start, Complete, Updated, UpdatesAreWhole}
use Rattle.rules.proofs.Steps.{written, Blanked, blanked_blank}
use Rattle.rules.proofs.Deeds.{Fits, first_fits, next_fits, passes_fits, sealed}
use Rattle.rules.proofs.Runs.{split, run_append, history_append, Stored, unpowered, cut, whole}
use Rattle.rules.proofs.Kept.{each_at, Sound, sound_start, sound_step, sound_run, Past, passed_above, past_step}
use Rattle.rules.proofs.Once.{any_cons, step_stored, opened_version, version_kept}
use Rattle.rules.proofs.Moves.{mark, stays, ends, breaks, takes, view}

-- A board that answers 'application': no mark, and a vector.
pub record Ready (s : State) : Type 0 where
  pub unmarked : mark s ≡ false
  pub vector : blank s.contents ≡ false

boot_ready : (m b : Bool) → cond m Unfinished (cond b Blank Application) ≡ Application → (m ≡ false) × (b ≡ false)
boot_ready true b e = let z : ◌≡◌ {A = ℕ} 0 1 = cc in absurd (omega arith)
boot_ready false true e = let z : ◌≡◌ {A = ℕ} 0 1 = cc in absurd (omega arith)
boot_ready false false e = (refl, refl)

question_ready : (C : Cipher) (s : State) (d : Bool) → (enact (respond C s (cond d (turned_away Dark) question)) s).answer.said ≡ Some Application
    → Ready s × ((enact (respond C s (cond d (turned_away Dark) question)) s).state ≡ s)
unfolding respond enact boot
question_ready C s true e = let z : ◌≡◌ {A = ℕ} 0 1 = cc in absurd (omega arith)
question_ready C s false e =
    let is : cond (mark s) Unfinished (cond (blank s.contents) Blank Application) ≡ Application = cc in
    let r = boot_ready (mark s) (blank s.contents) is in
    (record { unmarked = r.0; vector = r.1 }, refl)

-- of the answers only 'application' has the number 1
one_boots : (b : Boot) → boot_number b ≡ 1 → b ≡ Application
one_boots Application e = refl
one_boots Blank e = absurd (omega arith)
one_boots Unfinished e = absurd (omega arith)

boots_ready : (C : Cipher) (s : State) (e : Event) → Boots (call C s e) → Ready s × ((step C s e).state ≡ s)
unfolding step decide heard
boots_ready C s e b =
    subst (λ (x : Event). Ready s × ((step C s x).state ≡ s)) (sym b.asks)
    (question_ready C s s.dark (subst (λ (x : Event). (step C s x).answer.said ≡ Some Application) b.asks (b.answers ∙ ap Some (one_boots b.said b.application))))

data_key_bytes : (s : State) → Sound s → length (data_key s.contents.held) ≡ 16
data_key_bytes s g = each_at s.contents.held.keys 0 g.sixteen (omega (arith, g.two))

no_session : (s : State) → Sound s → mark s ≡ false → (n : Session) → s.session ≡ n → s.session ≡ closed
no_session s g m closed q = q
no_session s g m (expects n k) q = absurd (true≢false (sym (g.marked n k q) ∙ m))

apart : {A : Type 0} (t : Session) (n m : ℕ) → t ≡ closed → t ≡ expects n m → A
apart t n m e q = let z : ◌≡◌ {A = ℕ} 0 1 = cc in absurd (omega arith)

-- with no session no packet is taken until an update opens
closed_packets : (C : Cipher) (s : State) (es : List Event) → s.session ≡ closed → Packets C (history C s es) []
unfolding history
closed_packets C s [] c = end
closed_packets C s (e ∷ es) c =
    elim (view C s e) [
      | inl o ↦ another o
      | inr (n, stays u t l i x) ↦ skip t n (closed_packets C (step C s e).state es (x ∙ c))
      | inr (n, ends t l x i) ↦ skip t n (closed_packets C (step C s e).state es x)
      | inr (n, breaks t l x k m q) ↦ skip t n (closed_packets C (step C s e).state es x)
      | inr (n, takes p t u q v x i w) ↦ apart _ _ _ c q
    ]

-- the vector stays blank until an update opens
blank_stays : (C : Cipher) → Lawful C → (s : State) (es : List Event) → Sound s → s.session ≡ closed → Blanked s.contents → (Opened C (history C s es) → ⊥)
    → Blanked (run C s es).contents
unfolding history run
blank_stays C L s [] g c b n = b
blank_stays C L s (e ∷ es) g c b n =
    let g' = sound_step C s e L g in
    let n' : Opened C (history C (step C s e).state es) → ⊥ = λ o. n (later o) in
    elim (view C s e) [
      | inl o ↦ absurd (n (here o))
      | inr (k, stays u t l i x) ↦ blank_stays C L (step C s e).state es g' (x ∙ c) (kept b i) n'
      | inr (k, ends t l x i) ↦ elim (i g.long) [
        | inl same ↦ blank_stays C L (step C s e).state es g' x (kept b same) n'
        | inr b' ↦ blank_stays C L (step C s e).state es g' x b' n'
      ]
      | inr (k, breaks t l x m j q) ↦ apart _ _ _ c q
      | inr (k, takes p t u q v x i w) ↦ apart _ _ _ c q
    ]
  where
    kept : Blanked s.contents → memory (step C s e).state ≡ memory s → Blanked (step C s e).state.contents
    kept b i = subst (λ (l : List ℕ). Blanked (record { image = l; held = (step C s e).state.contents.held })) (sym i) b

-- an update that broke off leaves the mark until another opens
broken_stays : (C : Cipher) (s : State) (es : List Event) → s.session ≡ closed → mark s ≡ true → (Opened C (history C s es) → ⊥) → mark (run C s es) ≡ true
unfolding history run
broken_stays C s [] c m n = m
broken_stays C s (e ∷ es) c m n =
    let n' : Opened C (history C (step C s e).state es) → ⊥ = λ o. n (later o) in
    elim (view C s e) [
      | inl o ↦ absurd (n (here o))
      | inr (k, stays u t l i x) ↦ broken_stays C (step C s e).state es (x ∙ c) (l.same_mark ∙ m) n'
      | inr (k, ends t l x i) ↦ broken_stays C (step C s e).state es x (l.same_mark ∙ m) n'
      | inr (k, breaks t l x h j q) ↦ apart _ _ _ c q
      | inr (k, takes p t u q v x i w) ↦ apart _ _ _ c q
    ]

-- with no session, no update opened and a vector at the end: every memory byte is unchanged
bytes_stay : (C : Cipher) → Lawful C → (s : State) (es : List Event) → Sound s → s.session ≡ closed → (Opened C (history C s es) → ⊥)
    → blank (run C s es).contents ≡ false → memory (run C s es) ≡ memory s
unfolding history run
bytes_stay C L s [] g c n b = refl
bytes_stay C L s (e ∷ es) g c n b =
    let g' = sound_step C s e L g in
    let n' : Opened C (history C (step C s e).state es) → ⊥ = λ o. n (later o) in
    elim (view C s e) [
      | inl o ↦ absurd (n (here o))
      | inr (k, stays u t l i x) ↦ bytes_stay C L (step C s e).state es g' (x ∙ c) n' b ∙ i
      | inr (k, ends t l x i) ↦ elim (i g.long) [
        | inl same ↦ bytes_stay C L (step C s e).state es g' x n' b ∙ same
        | inr b' ↦ absurd (true≢false (sym (blanked_blank (run C (step C s e).state es).contents (blank_stays C L (step C s e).state es g' x b' n')) ∙ b))
      ]
      | inr (k, breaks t l x h j q) ↦ apart _ _ _ c q
      | inr (k, takes p t u q v x i w) ↦ apart _ _ _ c q
    ]

version_stays : (C : Cipher) (s : State) (es : List Event) → (Opened C (history C s es) → ⊥) → version (run C s es) ≡ version s
unfolding history run
version_stays C s [] n = refl
version_stays C s (e ∷ es) n = version_stays C (step C s e).state es (λ o. n (later o)) ∙ version_kept C s e (λ o. n (here o))

-- An open session, up to a board that answers 'application': the rest of the update's packets.
pub record Rest (C : Cipher) (s : State) (es fs : List Event) (n v m : ℕ) : Type 0 where
  pub packets : List Delivery
  pub unbroken_there : Unbroken C (history C s es) packets
  pub unbroken : Unbroken C (history C s (es ++ fs)) packets
  pub numbered : Numbered n v m packets
  pub sealed_all : Each (Sealed C) packets
  pub laid : memory (run C s es) ≡ laid_over packets (memory s)

after_last : (p : Packet) → p.pn ≡ p.np → session_after p ≡ closed
unfolding session_after
after_last p l = cond-true (eqb p.pn p.np) closed (expects (suc p.pn) p.np) (eq-eqb _ _ l)

after_other : (p : Packet) → (p.pn ≡ p.np → ⊥) → session_after p ≡ expects (suc p.pn) p.np
unfolding session_after
after_other p l = cond-false (eqb p.pn p.np) closed (expects (suc p.pn) p.np) (ne_eqb _ _ l)

-- the session is over: so are the packets
rest_over : (C : Cipher) → Lawful C → (s : State) (es fs : List Event) (n v m : ℕ) → Sound s → s.session ≡ closed → n ≡ suc m → (Opened C (history C s es) → ⊥)
    → Ready (run C s es) → Rest C s es fs n v m
rest_over C L s es fs n v m g c k o r = record {
  packets = [];
  unbroken_there = done (closed_packets C s es c);
  unbroken = done (closed_packets C s (es ++ fs) c);
  numbered = k;
  sealed_all = tt;
  laid = bytes_stay C L s es g c o r.vector;
}

session_rest : (C : Cipher) → Lawful C → (s : State) (es fs : List Event) (n v m : ℕ) → Sound s → s.session ≡ expects n m → version s ≡ v
    → (Opened C (history C s es) → ⊥) → Ready (run C s es) → Rest C s es fs n v m
unfolding history run
session_rest C L s [] fs n v m g x w o r = absurd (true≢false (sym (g.marked n m x) ∙ r.unmarked))
session_rest C L s (e ∷ es) fs n v m g x w o r =
    let s' = (step C s e).state in
    let g' = sound_step C s e L g in
    let o' : Opened C (history C s' es) → ⊥ = λ k. o (later k) in
    let broken : s'.session ≡ closed → mark s' ≡ mark s → Rest C s (e ∷ es) fs n v m =
    λ c k. absurd (true≢false (sym (broken_stays C s' es c (k ∙ g.marked n m x) o') ∙ r.unmarked)) in
    elim (view C s e) [
      | inl k ↦ absurd (o (here k))
      | inr (k, stays u t l i y) ↦
          let h = session_rest C L s' es fs n v m g' (y ∙ x) (l.same_version ∙ w) o' r in
          record {
            packets = h.packets;
            unbroken_there = calm u t k h.unbroken_there;
            unbroken = calm u t k h.unbroken;
            numbered = h.numbered;
            sealed_all = h.sealed_all;
            laid = h.laid ∙ ap (laid_over h.packets) i;
          }
      | inr (k, ends t l y i) ↦ broken y l.same_mark
      | inr (k, breaks t l y a b q) ↦ broken y l.same_mark
      | inr (k, takes p t u q z y i a) ↦
          let pn_is : p.pn ≡ n = cc in
          let np_is : p.np ≡ m = cc in
          let more : Rest C s' es fs (suc n) v m → Rest C s (e ∷ es) fs n v m = λ h. record {
            packets = record { at = call C s e; packet = p } ∷ h.packets;
            unbroken_there = next t k h.unbroken_there;
            unbroken = next t k h.unbroken;
            numbered = (pn_is, z ∙ w, np_is, h.numbered);
            sealed_all = (sealed C L (record { at = call C s e; packet = p }) (data_key_bytes s g) t.passes, h.sealed_all);
            laid = h.laid ∙ ap (laid_over h.packets) i;
          } in
          elim (cases_eq p.pn p.np) [
            | inl last ↦ more (rest_over C L s' es fs (suc n) v m g' (y ∙ after_last p last) (ap suc (sym pn_is ∙ (last ∙ np_is))) o' r)
            | inr other ↦
                let open_again : s'.session ≡ expects (suc n) m = cc (y, after_other p other) in
                more (session_rest C L s' es fs (suc n) v m g' open_again (a ∙ w) o' r)
          ]
    ]

-- the update that opens at a call, if none opens behind it and the board comes to answer 'application'
first_rest : (C : Cipher) → Lawful C → (s : State) (e : Event) (es fs : List Event) (p : Packet) → Sound s → Opens C (call C s e) p → (o : Outcome) → o ≡ step C s e
    → Stored s p o → (Opened C (history C (step C s e).state es) → ⊥) → Ready (run C (step C s e).state es)
    → Taken (call C s e) × (memory (step C s e).state ≡ lay p.address p.bytes (memory s)) × Rest C (step C s e).state es fs 2 p.ver p.np
first_rest C L s e es fs p g u o i (unpowered f z r x c) n y = absurd (u.powered z)
first_rest C L s e es fs p g u o i (cut f r x c) n y =
    let s' = (step C s e).state in
    let closes : s'.session ≡ closed = sym (ap (λ (t : Outcome). t.state.session) i) ∙ x in
    let marks : mark s' ≡ true =
    sym (ap (λ (t : Outcome). mark t.state) i)
    ∙ (ap (λ (h : Held). h.unfinished) c ∙ ap (λ (a : Bool). (written a false p.ver s.contents.held).unfinished) (eq-eqb _ _ u.first)) in
    absurd (true≢false (sym (broken_stays C s' es closes marks n) ∙ y.unmarked))
first_rest C L s e es fs p g u o i (whole f r x c) n y =
    let s' = (step C s e).state in
    let g' = sound_step C s e L g in
    let pn_is = u.first in
    let taken : Taken (call C s e) = sym (ap (λ (t : Outcome). t.answer.refusal) i) ∙ r in
    let bytes : memory s' ≡ lay p.address p.bytes (memory s) = sym (ap (λ (t : Outcome). memory t.state) i) ∙ ap (λ (t : Contents). t.image) c in
    let ses : s'.session ≡ session_after p = sym (ap (λ (t : Outcome). t.state.session) i) ∙ x in
    let ver_is : version s' ≡ p.ver = opened_version C s e p (step C s e) (step_stored C s e p u.passes) pn_is u.powered in
    elim (cases_eq p.pn p.np) [
      | inl last ↦ (taken, bytes, rest_over C L s' es fs 2 p.ver p.np g' (ses ∙ after_last p last) (omega arith) n y)
      | inr other ↦
          let open_now : s'.session ≡ expects 2 p.np = ses ∙ (after_other p other ∙ ap (λ (k : ℕ). expects (suc k) p.np) pn_is) in
          (taken, bytes, session_rest C L s' es fs 2 p.ver p.np g' open_now ver_is n y)
    ]

unbroken_packets : {C : Cipher} {cs : List Call} {ds : List Delivery} → Unbroken C cs ds → Packets C cs ds
unbroken_packets (done p) = p
unbroken_packets (next t n u) = one t n (unbroken_packets u)
unbroken_packets (calm h t n u) = skip t n (unbroken_packets u)

-- whether an update opened
opened_cases : (C : Cipher) (s : State) (es : List Event) → Opened C (history C s es) ⊎ (Opened C (history C s es) → ⊥)
unfolding history
opened_cases C s [] = inr (λ a. elim a [ ])
opened_cases C s (e ∷ es) =
    elim (view C s e) [
      | inl o ↦ inl (here o)
      | inr (n, m) ↦ elim (opened_cases C (step C s e).state es) [
        | inl a ↦ inl (later a)
        | inr b ↦ inr (λ a. elim (any_cons a) [ inl h ↦ n h | inr k ↦ b k ])
      ]
    ]

-- if one did, there is a latest
latest_opened : (C : Cipher) (s : State) (es : List Event) → Opened C (history C s es) → Latest C (history C s es)
unfolding history
latest_opened C s [] a = elim a [ ]
latest_opened C s (e ∷ es) a =
    elim (opened_cases C (step C s e).state es) [
      | inl o ↦
          let l = latest_opened C (step C s e).state es o in
          record { ahead = call C s e ∷ l.ahead; at = l.at; behind = l.behind; packet = l.packet; split = λ i. call C s e ∷ l.split i; opens = l.opens; last = l.last }
      | inr n ↦
          elim (any_cons a) [
            | inl o ↦ record { ahead = []; at = call C s e; behind = history C (step C s e).state es; packet = o.0; split = refl; opens = o.1; last = n }
            | inr o ↦ absurd (n o)
          ]
    ]

-- The firmware version never falls.
written_up : (a b : Bool) (v : ℕ) (h : Held) → h.version ≤ v → h.version ≤ (written a b v h).version
written_up a true v h l = l
written_up true false v h l = l
written_up false false v h l = omega arith

fits_up : (s : State) (p : Packet) → Fits s p → version s ≤ p.ver
fits_up s p f =
    elim (cases_eq p.pn 1) [
      | inl i ↦ elim (first_fits s p f i) [ inl up ↦ omega arith | inr same ↦ omega (arith, same.0) ]
      | inr n ↦ omega (arith, (next_fits s p f n).1)
    ]

stored_up : (s : State) (p : Packet) (o : Outcome) → Fits s p → Stored s p o → version s ≤ version o.state
stored_up s p o f (unpowered i z r x c) = omega (arith, ap (λ (t : Contents). t.held.version) c)
stored_up s p o f (cut u r x c) = omega (arith, ap (λ (t : Held). t.version) c, written_up (eqb p.pn 1) false p.ver s.contents.held (fits_up s p f))
stored_up s p o f (whole u r x c) =
    omega (arith, ap (λ (t : Contents). t.held.version) c, written_up (eqb p.pn 1) (eqb p.pn p.np) p.ver s.contents.held (fits_up s p f))

version_up : (C : Cipher) (s : State) (e : Event) → version s ≤ version (step C s e).state
version_up C s e =
    elim (view C s e) [
      | inl (p, o) ↦ stored_up s p (step C s e) (passes_fits C (call C s e) p o.passes) (step_stored C s e p o.passes)
      | inr (n, m) ↦ omega (arith, version_kept C s e n)
    ]

version_up_run : (C : Cipher) (s : State) (es : List Event) → version s ≤ version (run C s es)
unfolding run
version_up_run C s [] = omega arith
version_up_run C s (e ∷ es) = let a = version_up C s e in let b = version_up_run C (step C s e).state es in omega arith

rises_over : (C : Cipher) → Lawful C → (s : State) (es : List Event) (v : ℕ) → Sound s → Past v s.contents.held → Opened C (history C s es) → v < version (run C s es)
unfolding history run
rises_over C L s [] v g h a = elim a [ ]
rises_over C L s (e ∷ es) v g h a =
    elim (any_cons a) [
      | inl (p, o) ↦
          let up = passed_above v s p g h (passes_fits C (call C s e) p o.passes) in
          let is = opened_version C s e p (step C s e) (step_stored C s e p o.passes) o.first o.powered in
          let then = version_up_run C (step C s e).state es in
          omega arith
      | inr b ↦ rises_over C L (step C s e).state es v (sound_step C s e L g) (past_step C s e v g h) b
    ]

-- From a board s that answers 'application' to one that does, behind the events es; e is the second question, and fs come behind it.
module _ (C : Cipher) (L : Lawful C) (s : State) (es : List Event) (e : Event) (fs : List Event) (g : Sound s) (b : Ready (run C s es)) where
  abbrev end_state : State
  end_state = run C s es

  abbrev tail : List Call
  tail = history C (step C end_state e).state fs

  -- ds are the packets behind the first among the calls l, and with them the update is whole
  abbrev Found : List Call → Packet → Call → List Delivery → Type 0
  Found l p u ds = Packets C l ds × Whole C (record { at = u; packet = p }) l ds

  abbrev Laid : Packet → Call → List Delivery → Type 0
  Laid p u ds = memory end_state ≡ laid_over (record { at = u; packet = p } ∷ ds) (memory u.before)

  latest_whole : (u : Latest C (history C s es)) → (ds : List Delivery) × Complete C u (call C end_state e) tail ds
  unfolding run history
  latest_whole u =
      let sp = split C s es u.ahead u.at u.behind u.split in
      let p = u.packet in
      let t = run C s sp.front in
      let t' = (step C t sp.event).state in
      let c : Call = call C t sp.event in
      let there : run C s es ≡ run C t' sp.back = ap (run C s) (sym sp.events_are) ∙ run_append C s sp.front (sp.event ∷ sp.back) in
      let opens : Opens C c p = subst (λ (k : Call). Opens C k p) (sym sp.call_is) u.opens in
      let gt = sound_run C L s sp.front g in
      let r = first_rest C L t sp.event sp.back (e ∷ fs) p gt opens (step C t sp.event) refl (step_stored C t sp.event p opens.passes)
      (subst (λ (l : List Call). Opened C l → ⊥) (sym sp.back_is) u.last) (subst Ready there b) in
      let rest = r.2 in
      let ds = rest.packets in
      let calls : history C t' (sp.back ++ e ∷ fs) ≡ u.behind ++ call C end_state e ∷ tail =
      history_append C t' sp.back (e ∷ fs) ∙ (λ i. sp.back_is i ++ (call C (sym there i) e ∷ history C (step C (sym there i) e).state fs)) in
      let bytes : Laid p c ds = ap (λ (k : State). memory k) there ∙ (rest.laid ∙ ap (laid_over ds) r.1) in
      let found : (l : List Call) → Unbroken C l ds → Found l p c ds = λ l b. (
        unbroken_packets b,
        record {
          taken = r.0;
          unbroken = b;
          numbered = (opens.first, refl, refl, rest.numbered);
          sealed = (sealed C L (record { at = c; packet = p }) (data_key_bytes t gt) opens.passes, rest.sealed_all);
        },
      ) in
      let here : Found u.behind p u.at ds = transport (λ i. Found (sp.back_is i) p (sp.call_is i) ds) (found _ rest.unbroken_there) in
      let on : Found (u.behind ++ call C end_state e ∷ tail) p u.at ds = transport (λ i. Found (calls i) p (sp.call_is i) ds) (found _ rest.unbroken) in (
        ds,
        record {
          all_there = here.0;
          whole_there = here.1;
          packets = on.0;
          whole = on.1;
          laid = transport (λ i. Laid p (sp.call_is i) ds) bytes;
        },
      )

  updated : (q : Call) → Ready s → version q.before ≡ version s → memory q.before ≡ memory s → Updated C q (history C s es) (call C end_state e) tail
  updated q a v m =
      let c = no_session s g a.unmarked s.session refl in
      record {
        rises = λ o. rises_over C L s es (version q.before) g (inl (sym v, a.unmarked)) o;
        only_then = λ up. elim (opened_cases C s es) [ inl o ↦ o | inr n ↦ let same = version_stays C s es n in absurd (omega arith) ];
        else_kept = λ n. (version_stays C s es n ∙ sym v, bytes_stay C L s es g c n b.vector ∙ sym m);
        some_latest = latest_opened C s es;
        latest = latest_whole;
      }

moved : (C : Cipher) {q q' r r' : Call} {m m' t t' : List Call} → q ≡ q' → m ≡ m' → r ≡ r' → t ≡ t' → Updated C q m r t → Updated C q' m' r' t'
moved C a b c d u = transport (λ i. Updated C (a i) (b i) (c i) (d i)) u

pub updates_are_whole : UpdatesAreWhole
updates_are_whole C L g es x mid rest q r h bq br =
    let sp = split C (start g) es x q (mid ++ r ∷ rest) h in
    let s = run C (start g) sp.front in
    let s' = (step C s sp.event).state in
    let gs = sound_step C s sp.event L (sound_run C L (start g) sp.front (sound_start g)) in
    let first = boots_ready C s sp.event (subst Boots (sym sp.call_is) bq) in
    let sp' = split C s' sp.back mid r rest sp.back_is in
    let second = boots_ready C (run C s' sp'.front) sp'.event (subst Boots (sym sp'.call_is) br) in
    let done' : Updated C (call C s sp.event) (history C s' sp'.front) (call C (run C s' sp'.front) sp'.event)
    (history C (step C (run C s' sp'.front) sp'.event).state sp'.back) =
    updated C L s' sp'.front sp'.event sp'.back gs second.0 (call C s sp.event) (subst Ready (sym first.1) first.0)
    (ap (λ (k : State). version k) (sym first.1)) (ap (λ (k : State). memory k) (sym first.1)) in
    moved C sp.call_is sp'.front_is sp'.call_is sp'.back_is done'
