use Rattle.std.proofs.Common.{◌≡◌, ◌-◌, ◌<◌, ◌≤◌, true, is_some, sym, ap, ◌∙◌, arith}
use Rattle.memory.specs.Areas.{first_outside, place}
use Rattle.memory.proofs.Places.{map_below, outside_here, outside_none, outside_on}
use Rattle.memory.proofs.areas.first_outside.Goals as goal

pub loop-init : goal.loop-init
loop-init c = let z : c.args.count - 0 ≡ c.args.count = omega arith in ap (first_outside c.args.address) z

pub returns-then-is_none : goal.returns-then-is_none
returns-then-is_none c =
    let h : c.loop.counter < c.args.count = omega arith in
    sym (outside_here _ _ _ h (sym (ap is_some c.place_of.ensures.value) ∙ c.if-is_none.ensures)) ∙ c.loop.invariant

known : (c : goal.Else-is_none) → is_some (place c.loop.at) ≡ true
known c = sym (ap is_some c.place_of.ensures.value) ∙ c.if-is_none.ensures

pub overflow_add-at : goal.overflow_add-at
overflow_add-at c = omega (arith, map_below c.loop.at (known c))

pub loop-preserved : goal.loop-preserved
loop-preserved c = let h : c.loop.counter < c.args.count = omega arith in sym (outside_on _ _ _ h (known c)) ∙ c.loop.invariant

pub returns : goal.returns
returns c =
    let h : c.args.count ≤ c.loop.counter = omega arith in
    sym (outside_none c.loop.at _ _ h) ∙ c.loop.invariant
