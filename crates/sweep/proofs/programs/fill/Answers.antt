use Rattle.std.proofs.Common.{◌≡◌, ℕ, ◌+◌, ◌<◌, ◌++◌, get_or, drop, sym, ap, ◌∙◌}
use Rattle.std.specs.List.{flat_map}
use Rattle.std.proofs.lemmas.List.{at_drop_all, at_drop_more}
use Rattle.memory.specs.Areas.{all_areas}
use Rattle.memory.specs.Meaning.{all_in_map}
use Rattle.memory.proofs.Exits.{passed_on}
use Rattle.memory.proofs.InMap.{append_parts, no_area}
use Rattle.memory.proofs.Turns.{part_broke, part_went, to_do_all, turns_done}
use Rattle.sweep.specs.Fillings.{area_fillers, map_fillers}
use Rattle.sweep.proofs.Fillers.{fill_in}
use Rattle.sweep.proofs.programs.fill.Goals as goal

-- the i-th area, and those behind it
opened : (i : ℕ) → i < 4 → flat_map area_fillers (drop i all_areas) ≡ area_fillers (get_or all_areas i no_area) ++ flat_map area_fillers (drop (i + 1) all_areas)
unfolding all_areas
opened i h = at_drop_more (flat_map area_fillers) all_areas i no_area h

pub loop-area-init : goal.loop-area-init
unfolding map_fillers all_areas
loop-area-init g c = to_do_all map_fillers (g.M.Memory.meaning c.args.memory.now) fill_in

pub fill_area-requires : goal.fill_area-requires
unfolding all_areas
fill_area-requires g c =
    let i = c.loop-area.area-index in
    let o = opened i c.loop-area-test.true in
    (append_parts (area_fillers (get_or all_areas i no_area)) _ (sym (ap all_in_map o) ∙ c.loop-area.invariant.in_map)).0

pub returns-in_err-fill_area : goal.returns-in_err-fill_area
unfolding all_areas
returns-in_err-fill_area g c =
    let o = opened c.loop-area.area-index c.loop-area-test.true in
    part_broke _ _ _ _ _ _ _ o c.loop-area.invariant _ _ (passed_on _ _ c.from_residual.ensures.1) c.in_err-fill_area.ensures

pub loop-area-preserved : goal.loop-area-preserved
unfolding all_areas
loop-area-preserved g c = part_went _ _ _ _ _ _ _ (opened c.loop-area.area-index c.loop-area-test.true) c.loop-area.invariant c.in_ok-fill_area.ensures

pub returns : goal.returns
unfolding all_areas
returns g c = turns_done _ _ _ _ (at_drop_all (flat_map area_fillers) all_areas c.loop-area.area-index c.loop-area-test.false) c.loop-area.invariant
