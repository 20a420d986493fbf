use Rattle.std.proofs.Common.{◌≡◌, ℕ, ◌+◌, ◌<◌, ◌≢◌, length, get_or, set, replicate, sym, refl, ap, ◌∙◌, subst, arith, get_or-set_other, get_or-set_same, rules, below_more}
use Rattle.cipher.specs.Aes.{round_key, next_key, rcon}
use Rattle.cipher.specs.Columns.{flat, no_columns}
use Rattle.cipher.specs.Schedules.{round_key_none, round_key_more}
use Rattle.cipher.proofs.aes.expanded.Goals as goal

pub loop-i-init : goal.loop-i-init
loop-i-init c =
    let key = c.args.key.now in
    let e : flat c.from-k.result ≡ round_key key 0 = c.from-k.ensures ∙ sym (round_key_none key) in
    (e, refl, λ i h. let z : 0 ≡ i = omega arith in subst (λ (j : ℕ). flat (get_or (replicate 11 c.from-k.result) j no_columns) ≡ round_key key j) z e)

pub loop-i-preserved : goal.loop-i-preserved
loop-i-preserved c =
    let key = c.args.key.now in
    let i = c.loop-i.i in
    let k = c.next_round_key-k.result in
    let ks = c.loop-i.keys in
    let h : flat k ≡ next_key (rcon i) (flat c.loop-i.k) = c.next_round_key-k.ensures in
    let e : flat k ≡ round_key key (i + 1) = h ∙ ap (next_key (rcon i)) c.loop-i.invariant.0 ∙ sym (round_key_more key i) in
    let lt : i + 1 < length ks = omega (arith, c.loop-i.invariant.1) in (
      e,
      search rules,
      below_more (λ j. flat (get_or (set ks (i + 1) k) j no_columns) ≡ round_key key j) (i + 1)
          (λ j l. let ne : j ≢ i + 1 = omega arith in rw get_or-set_other (c.loop-i.invariant.2 j l))
          (rw get_or-set_same e),
    )
