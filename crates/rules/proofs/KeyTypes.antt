-- Which key a key packet replaces: by its type.
use Rattle.std.proofs.Common.{◌≡◌, ℕ, List, ◌⊎◌, sym, refl, ap, ◌∙◌, subst, inl, inr, arith, eqb}
use Rattle.std.proofs.lemmas.List.{get_or-set_same, get_or-set_other}
use Rattle.std.proofs.lemmas.Bool.{cond-true, cond-false, eq-eqb, ne_eqb}
use Rattle.memory.specs.declared.held.KeySlot.{KeySlot}
use Rattle.memory.specs.declared.held.KeySlot.TheVariants.{Data, Kek}
use Rattle.memory.specs.Held.{slot_place}
use Rattle.memory.specs.Meaning.{Contents, apply}
use Rattle.memory.specs.Meaning.Step.{set_key}
use Rattle.cipher.specs.Cipher.{Cipher}
use Rattle.rules.specs.declared.Event.{Event}
use Rattle.rules.specs.Memory.{key_record, no_key}
use Rattle.rules.specs.Board.{State, Call, KeyPacket, slot, judge_key, call, run, step}
use Rattle.rules.specs.Words.{Arrives, Begins, Taken}
use Rattle.rules.specs.Promises.{start}
use Rattle.rules.specs.Laws.{Replaced, ReplacedByType, KeyTaken, KeyTypesNameKeys}
use Rattle.rules.proofs.Deeds.{key_passed, key_decides}
use Rattle.rules.proofs.Runs.{split}
use Rattle.rules.proofs.Kept.{Sound, sound_start, sound_run, slot_small}
use Rattle.rules.proofs.Once.{key_taken}

slot_zero : (kt : ℕ) → kt ≡ 0 → slot kt ≡ Data
unfolding slot
slot_zero kt e = cond-true (eqb kt 0) Data Kek (eq-eqb _ _ e)

slot_two : (kt : ℕ) → kt ≡ 2 → slot kt ≡ Kek
unfolding slot
slot_two kt e = cond-false (eqb kt 0) Data Kek (ne_eqb _ _ (λ z. omega arith))

module _ (s : State) (g : Sound s) (p : KeyPacket) (c : Contents) (e : c ≡ apply (set_key (slot p.kt) (record { key = p.key; version = p.kv })) s.contents) where
  set_there : Replaced (slot_place (slot p.kt)) p s.contents.held c.held
  set_there =
      let small = slot_small p.kt in
      record {
        there = ap (λ (d : Contents). key_record d.held (slot_place (slot p.kt))) e
            ∙ get_or-set_same s.contents.held.keys (slot_place (slot p.kt)) (record { key = p.key; version = p.kv }) no_key (omega (arith, g.two));
        elsewhere = λ j n. ap (λ (d : Contents). key_record d.held j) e ∙ get_or-set_other s.contents.held.keys (slot_place (slot p.kt)) j _ no_key n;
      }

  by_type : (p.kt ≡ 0) ⊎ (p.kt ≡ 2) → ReplacedByType p s.contents.held c.held
  by_type (inl z) = inl (z, subst (λ (k : KeySlot). Replaced (slot_place k) p s.contents.held c.held) (slot_zero p.kt z) set_there)
  by_type (inr t) = inr (t, subst (λ (k : KeySlot). Replaced (slot_place k) p s.contents.held c.held) (slot_two p.kt t) set_there)

key_call : (C : Cipher) (s : State) (e : Event) (core : List ℕ) → Sound s → Arrives (call C s e) core → Begins 0x31 core → Taken (call C s e) → KeyTaken C (call C s e) core
key_call C s e core g a b t =
    let k = key_taken C s e core (judge_key C s core) refl (key_decides C (call C s e) core a b) t in
    let o = key_passed C s core k.0 k.1 in
    record {
      contents = o.contents;
      opens = o.opens;
      replaced = subst (λ (p : KeyPacket). ReplacedByType p s.contents.held (step C s e).state.contents.held) (sym o.holds) (by_type s g k.0 _ k.2 o.typed);
    }

pub key_types_name_keys : KeyTypesNameKeys
key_types_name_keys C L g events x z c core h a b t =
    let sp = split C (start g) events x c z h in
    subst (λ (d : Call). Arrives d core → Taken d → KeyTaken C d core) sp.call_is
    (λ i k. key_call C (run C (start g) sp.front) sp.event core (sound_run C L (start g) sp.front (sound_start g)) i b k) a t
