use Rattle.std.proofs.Common.{◌≡◌, ℕ, ◌+◌, List, sym, ◌∙◌, ap₂, arith}
use Rattle.cipher.specs.declared.aes.columns.Columns.{Columns}
use Rattle.cipher.specs.Bytes.{xors}
use Rattle.cipher.specs.Aes.{aes, round, round_key, last_round, state}
use Rattle.cipher.specs.Columns.{flat}
use Rattle.cipher.specs.Schedules.{state_none, state_more, round_key_none}
use Rattle.cipher.proofs.aes.Aes128.encrypted.Goals as goal

-- a round more
next : (key b : List ℕ) (i : ℕ) (s k r : Columns) → flat r ≡ round (flat k) (flat s) → flat k ≡ round_key key (i + 1) → flat s ≡ state key b i
    → flat r ≡ state key b (i + 1)
next key b i s k r made is_key is_state = made ∙ ap₂ round is_key is_state ∙ sym (state_more key b i)

pub returns : goal.returns
unfolding aes
returns c =
    let a = c.args.self.now in
    let b = c.args.block.now in
    let s0 = c.bitxor-s.ensures ∙ ap₂ xors c.from.ensures (a.schedule 0 (omega arith) ∙ round_key_none a.key) ∙ sym (state_none a.key b) in
    let s1 = next a.key b 0 _ _ _ c.step.ensures (a.schedule 1 (omega arith)) s0 in
    let s2 = next a.key b 1 _ _ _ c.step-2.ensures (a.schedule 2 (omega arith)) s1 in
    let s3 = next a.key b 2 _ _ _ c.step-s.ensures (a.schedule 3 (omega arith)) s2 in
    let s4 = next a.key b 3 _ _ _ c.step-3.ensures (a.schedule 4 (omega arith)) s3 in
    let s5 = next a.key b 4 _ _ _ c.step-4.ensures (a.schedule 5 (omega arith)) s4 in
    let s6 = next a.key b 5 _ _ _ c.step-s-2.ensures (a.schedule 6 (omega arith)) s5 in
    let s7 = next a.key b 6 _ _ _ c.step-5.ensures (a.schedule 7 (omega arith)) s6 in
    let s8 = next a.key b 7 _ _ _ c.step-6.ensures (a.schedule 8 (omega arith)) s7 in
    let s9 = next a.key b 8 _ _ _ c.step-s-3.ensures (a.schedule 9 (omega arith)) s8 in
    c.into.ensures ∙ c.last_step.ensures ∙ ap₂ last_round (a.schedule 10 (omega arith)) s9
