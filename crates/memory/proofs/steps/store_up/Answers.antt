use Rattle.std.proofs.Common.{◌≡◌, ◌-◌, ◌⊎◌, length, inl, inr}
use Rattle.memory.proofs.Exits.{passed_on}
use Rattle.memory.proofs.Loops.{store_up_end, store_up_more}
use Rattle.memory.proofs.Turns.{turn_broke, turn_went, turns_done}
use Rattle.memory.proofs.steps.store_up.Goals as goal

pub returns-in_err-store : goal.returns-in_err-store
returns-in_err-store g c =
    let h = c.in-Some.ensures.steps in
    let o = store_up_more _ _ _ _ _ _ h.0 h.1 in
    turn_broke _ _ _ _ _ _ _ o c.loop-at.invariant _ _ (passed_on _ _ c.from_residual.ensures.1) c.in_err-store.ensures

pub loop-at-preserved : goal.loop-at-preserved
loop-at-preserved g c =
    let h = c.in-Some.ensures.steps in
    turn_went _ _ _ _ _ _ _ (store_up_more _ _ _ _ _ _ h.0 h.1) c.loop-at.invariant c.in_ok-store.ensures

pub returns : goal.returns
returns g c =
    let it = c.loop-at.at-iterator in
    let e : (0xFFFFFFFF - it.a.start ≡ 0) ⊎ (length it.b.rest.now ≡ 0) = elim c.in-None.ensures.steps [ inl p ↦ inl p.1.0 | inr p ↦ inr p.1.0 ] in
    turns_done _ _ _ _ (store_up_end _ _ e c.loop-at.invariant.in_map) c.loop-at.invariant
