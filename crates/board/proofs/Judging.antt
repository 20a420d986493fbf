-- From what the code opens and judges to the rules' judging of a packet.
use Rattle.std.proofs.Common.{◌≡◌, ℕ, false, ◌&&◌, eqb, leb, List, length, Some, None, Ok, Err, Option, Result, sym, refl, ap, ◌∙◌, inl, inr, arith}
use Rattle.std.proofs.lemmas.Bool.{and_left, and_right, cases_Bool, eqb-false, eqb-true, leb-true, lt-leb}
use Rattle.fault.specs.Checks.{check, then}
use Rattle.fault.specs.declared.Fault.{Fault}
use Rattle.fault.specs.declared.Fault.TheVariants.{PacketLength}
use Rattle.cipher.specs.Cipher.{Cipher, iv_checked}
use Rattle.memory.specs.Meaning.{Meaning, Step}
use Rattle.memory.specs.declared.held.Held.{Held}
use Rattle.rules.specs.Packets.{iv_of, body_of}
use Rattle.rules.specs.Memory.{data_key, kek}
use Rattle.rules.specs.declared.Session.{Session}
use Rattle.rules.specs.Board.{KeyPacket, Packet, State, fields, judge_data, judge_fields, judge_key, judge_key_fields, key_fields, key_steps, on_opened}
use Rattle.board.specs.Judging.{judge_by, judge_key_by, sized}
use Rattle.board.specs.Keys.{steps_of}
use Rattle.board.specs.Opening.{opened_by}
use Rattle.board.specs.Outcomes.{Working, lit, works}

-- judging a data packet looks at the session and the held record alone, judging a key packet at the held record
by_fields : (s : State) (p : Packet) → judge_fields s p ≡ judge_by s.session s.contents.held p
unfolding judge_fields
by_fields s p = refl

by_key_fields : (s : State) (p : KeyPacket) → judge_key_fields s p ≡ judge_key_by s.contents.held p
unfolding judge_key_fields
by_key_fields s p = refl

-- opening that failed, and opening that passed, with what follows
module _ {A : Type 0} (f : List ℕ → A) (j : A → Result A Fault) where
  failed : (v : Result (Unit {0}) Fault) (o : Option (List ℕ)) (d : Fault) → Err d ≡ then v (on_opened (λ c. Ok (f c)) o) → then v (on_opened (λ c. j (f c)) o) ≡ Err d
  unfolding on_opened
  failed (Ok u) None d e = cc
  failed (Ok u) (Some c) d e = cc
  failed (Err g) o d e = cc

  passed : (v : Result (Unit {0}) Fault) (o : Option (List ℕ)) (x : A) → Ok x ≡ then v (on_opened (λ c. Ok (f c)) o) → then v (on_opened (λ c. j (f c)) o) ≡ j x
  unfolding on_opened
  passed (Ok u) None x e = cc
  passed (Ok u) (Some c) x e = let q : f c ≡ x = cc in ap j q
  passed (Err g) o x e = cc

-- a packet of either kind, from its length to the checks of its fields
module _ {A : Type 0} (C : Cipher) (f : List ℕ → A) (j : A → Result A Fault) (key core : List ℕ) (v : Result (Unit {0}) Fault) where
  abbrev all_checked : Result A Fault
  all_checked = then v (then (iv_checked C (iv_of core)) (on_opened (λ c. j (f c)) (C.opened key (iv_of core) (body_of core))))

  unsized : (d : Fault) → Err d ≡ v → all_checked ≡ Err d
  unsized d e = ap (λ w. then w (then (iv_checked C (iv_of core)) (on_opened (λ c. j (f c)) (C.opened key (iv_of core) (body_of core))))) (sym e)

  module _ (long : Ok tt ≡ v) where
    opens : all_checked ≡ then (iv_checked C (iv_of core)) (on_opened (λ c. j (f c)) (C.opened key (iv_of core) (body_of core)))
    opens = ap (λ w. then w (then (iv_checked C (iv_of core)) (on_opened (λ c. j (f c)) (C.opened key (iv_of core) (body_of core))))) (sym long)

    shut : (d : Fault) → Err d ≡ opened_by C f key core → all_checked ≡ Err d
    shut d e = opens ∙ failed f j (iv_checked C (iv_of core)) (C.opened key (iv_of core) (body_of core)) d e

    judges : (x : A) → Ok x ≡ opened_by C f key core → all_checked ≡ j x
    judges x e = opens ∙ passed f j (iv_checked C (iv_of core)) (C.opened key (iv_of core) (body_of core)) x e

-- the steps of a key packet that failed its checks, and of one that passed
no_steps : (r : Result KeyPacket Fault) (d : Fault) → Err d ≡ steps_of r → r ≡ Err d
no_steps (Ok p) d e = cc
no_steps (Err f) d e = let q : f ≡ d = cc in ap Err q

all_steps : (r : Result KeyPacket Fault) (xs : List Step) → Ok xs ≡ steps_of r → (q : KeyPacket) × ((r ≡ Ok q) × (xs ≡ key_steps q))
all_steps (Ok p) xs e = (p, (refl, cc))
all_steps (Err f) xs e = cc

-- the length of a key packet
just_51 : (n : ℕ) → (leb 51 n && leb n 51) ≡ eqb n 51
just_51 n =
    elim (cases_Bool (eqb n 51)) [
      | inl t ↦ ap (λ k. leb 51 k && leb k 51) (eqb-true n 51 t) ∙ sym t
      | inr t ↦ below n (eqb-false n 51 t) ∙ sym t
    ]
  where
    below : (n : ℕ) → (n ≡ 51 → ⊥) → (leb 51 n && leb n 51) ≡ false
    below n h =
        elim (cases_Bool (leb n 51)) [
          | inl t ↦ and_left _ _ (lt-leb 51 n (omega (arith, h, leb-true n 51 t)))
          | inr t ↦ and_right (leb 51 n) _ t
        ]

-- a packet on a board that is not dark: held is the record that was read
module _ (C : Cipher) (w : Working) (m : Meaning) (n : Session) (at : works m n ≡ w) (held : Held) (same : held ≡ m.contents.held) (core : List ℕ) where
  abbrev s : State
  s = lit w

  abbrev data_checked : Held → Result Packet Fault
  data_checked h = all_checked C fields (judge_by n h) (data_key h) core (sized 44 299 core)

  -- judging by the session and the held record is the judging of the board
  data_is : data_checked held ≡ judge_data C s core
  unfolding judge_data judge_fields
  data_is = ap data_checked same ∙ ap (λ x. judge_data C (lit x) core) at

  pub data_unsized : (d : Fault) → Err d ≡ sized 44 299 core → judge_data C s core ≡ Err d
  data_unsized d e = sym data_is ∙ unsized C fields (judge_by n held) (data_key held) core (sized 44 299 core) d e

  abbrev key_checked : Held → Result KeyPacket Fault
  key_checked h = all_checked C key_fields (judge_key_by h) (kek h) core (sized 51 51 core)

  -- a key packet's judging by the held record likewise
  key_is : key_checked held ≡ judge_key C s core
  unfolding judge_key judge_key_fields
  key_is =
      ap key_checked same
      ∙ ap (λ b. all_checked C key_fields (judge_key_by m.contents.held) (kek m.contents.held) core (check b (PacketLength (length core)))) (just_51 (length core))
      ∙ ap (λ x. judge_key C (lit x) core) at

  pub key_unsized : (d : Fault) → Err d ≡ sized 51 51 core → judge_key C s core ≡ Err d
  key_unsized d e = sym key_is ∙ unsized C key_fields (judge_key_by held) (kek held) core (sized 51 51 core) d e

  module _ (long : Ok tt ≡ sized 44 299 core) where
    pub data_shut : (d : Fault) → Err d ≡ opened_by C fields (data_key held) core → judge_data C s core ≡ Err d
    data_shut d e = sym data_is ∙ shut C fields (judge_by n held) (data_key held) core (sized 44 299 core) long d e

    pub data_judged : (x : Packet) → Ok x ≡ opened_by C fields (data_key held) core → (r : Result Packet Fault) → r ≡ judge_by n held x → judge_data C s core ≡ r
    data_judged x e r h = sym data_is ∙ judges C fields (judge_by n held) (data_key held) core (sized 44 299 core) long x e ∙ sym h

  module _ (long : Ok tt ≡ sized 51 51 core) where
    pub key_shut : (d : Fault) → Err d ≡ opened_by C key_fields (kek held) core → judge_key C s core ≡ Err d
    key_shut d e = sym key_is ∙ shut C key_fields (judge_key_by held) (kek held) core (sized 51 51 core) long d e

    -- with the steps of the packet, where it passes
    module _ (x : KeyPacket) (opens : Ok x ≡ opened_by C key_fields (kek held) core) where
      key_same : judge_key_by held x ≡ judge_key C s core
      key_same = sym (judges C key_fields (judge_key_by held) (kek held) core (sized 51 51 core) long x opens) ∙ key_is

      pub key_failed : (d : Fault) → Err d ≡ steps_of (judge_key_by held x) → judge_key C s core ≡ Err d
      key_failed d e = sym key_same ∙ no_steps (judge_key_by held x) d e

      pub key_passed : (xs : List Step) → Ok xs ≡ steps_of (judge_key_by held x) → (q : KeyPacket) × ((judge_key C s core ≡ Ok q) × (xs ≡ key_steps q))
      key_passed xs e =
          let p = all_steps (judge_key_by held x) xs e in
          (p.0, (sym key_same ∙ p.1.0, p.1.1))
