use Rattle.std.proofs.Common.{◌≡◌, ◌+◌, Some, None, Option, refl, ap, arith}
use Rattle.memory.specs.declared.areas.Range.{Range}
use Rattle.memory.specs.Steps.{blanks_of}
use Rattle.memory.proofs.Exits.{passed_on}
use Rattle.memory.proofs.Loops.{blanks_end, blanks_more}
use Rattle.memory.proofs.Turns.{done_end, turn_broke, turn_went, turns_done}
use Rattle.memory.proofs.steps.erase_area.Goals as goal

nothing : (o : Option Range) → ((x : Range) → o ≡ Some x → ⊥) → o ≡ None
nothing None h = refl
nothing (Some x) h = absurd (h x refl)

pub returns-in_err-store : goal.returns-in_err-store
returns-in_err-store g c =
    let o = blanks_more c.loop-address.address c.erase_last-address-end.result (omega arith) in
    turn_broke _ _ _ _ _ _ _ o c.loop-address.invariant _ _ (passed_on _ _ c.from_residual.ensures.1) c.in_err-store.ensures

pub loop-address-preserved : goal.loop-address-preserved
loop-address-preserved g c =
    let o = blanks_more c.loop-address.address c.erase_last-address-end.result (omega arith) in
    turn_went _ _ _ _ _ _ _ o c.loop-address.invariant c.in_ok-store.ensures

-- the last address
pub returns-in_ok-store : goal.returns-in_ok-store
returns-in_ok-store g c =
    let a = c.loop-address.address in
    let l = c.erase_last-address-end.result in
    let d = turn_went _ _ _ _ _ _ _ (blanks_more a l (omega arith)) c.loop-address.invariant c.in_ok-store.ensures in
    turns_done _ _ _ _ (blanks_end (a + 1) l (omega arith)) d

-- no address, and nothing to erase
pub returns-in-Some : goal.returns-in-Some
returns-in-Some g c = turns_done _ _ _ _ (blanks_end c.loop-address.address c.erase_last-address-end.result (omega arith)) c.loop-address.invariant

pub returns-in_default : goal.returns-in_default
returns-in_default g c = done_end _ _ _ _ (ap blanks_of (nothing _ c.in_default.not-Some)) refl
