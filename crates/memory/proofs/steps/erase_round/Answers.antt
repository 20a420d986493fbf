use Rattle.std.proofs.Common.{◌≡◌, ℕ, ◌+◌, ◌<◌, Bool, ◌++◌, get_or, drop, sym, ap, ◌∙◌}
use Rattle.std.specs.List.{flat_map}
use Rattle.std.proofs.lemmas.List.{at_drop_all, at_drop_more}
use Rattle.memory.specs.Areas.{all_areas}
use Rattle.memory.specs.Meaning.{all_in_map}
use Rattle.memory.specs.Steps.{round, round_steps}
use Rattle.memory.proofs.Exits.{passed_on}
use Rattle.memory.proofs.InMap.{append_parts, no_area, rounds_in}
use Rattle.memory.proofs.Turns.{part_broke, part_went, to_do_all, turns_done}
use Rattle.memory.proofs.steps.erase_round.Goals as goal

-- the i-th area, and those behind it
opened : (v : Bool) (i : ℕ) → i < 4 → flat_map (round v) (drop i all_areas) ≡ round v (get_or all_areas i no_area) ++ flat_map (round v) (drop (i + 1) all_areas)
unfolding all_areas
opened v i h = at_drop_more (flat_map (round v)) all_areas i no_area h

pub loop-area-init : goal.loop-area-init
unfolding all_areas
loop-area-init g c = to_do_all (round_steps c.args.vector) (g.M.Memory.meaning c.args.memory.now) (rounds_in c.args.vector)

pub erase_in_round-requires : goal.erase_in_round-requires
unfolding all_areas
erase_in_round-requires g c =
    let v = c.args.vector in
    let i = c.loop-area.area-index in
    let o = opened v i c.loop-area-test.true in
    (append_parts (round v (get_or all_areas i no_area)) (flat_map (round v) (drop (i + 1) all_areas)) (sym (ap all_in_map o) ∙ c.loop-area.invariant.in_map)).0

pub returns-in_err-erase_in_round : goal.returns-in_err-erase_in_round
unfolding all_areas
returns-in_err-erase_in_round g c =
    let o = opened c.args.vector c.loop-area.area-index c.loop-area-test.true in
    part_broke _ _ _ _ _ _ _ o c.loop-area.invariant _ _ (passed_on _ _ c.from_residual.ensures.1) c.in_err-erase_in_round.ensures

pub loop-area-preserved : goal.loop-area-preserved
unfolding all_areas
loop-area-preserved g c =
    part_went _ _ _ _ _ _ _ (opened c.args.vector c.loop-area.area-index c.loop-area-test.true) c.loop-area.invariant c.in_ok-erase_in_round.ensures

pub returns : goal.returns
unfolding all_areas
returns g c =
    turns_done _ _ _ _ (at_drop_all (flat_map (round c.args.vector)) all_areas c.loop-area.area-index c.loop-area-test.false) c.loop-area.invariant
