use Rattle.std.proofs.Common.{◌≡◌, ◌++◌, ◌∷◌, true, false, length, Result, refl}
use Rattle.fault.specs.declared.Fault.{Fault}
use Rattle.memory.specs.Meaning.{Meaning, Performs}
use Rattle.memory.specs.Meaning.Step.{set_vector}
use Rattle.memory.specs.Steps.{erase_steps, round_steps, EraseAsWritten}
use Rattle.memory.proofs.Exits.{passed_on}
use Rattle.memory.proofs.InMap.{as_written, erase_count, erase_in}
use Rattle.memory.proofs.Turns.{done_all, part_broke, part_went, to_do_all, turn_broke, turn_went}
use Rattle.memory.proofs.steps.mass_erase.Goals as goal

-- all clauses
told : (m n : Meaning) (r : Result (Unit {0}) Fault) → Performs erase_steps m n r
    → record { made : Performs erase_steps m n r; written : EraseAsWritten; count : length erase_steps ≡ 60479 }
told m n r d = record { made = d; written = as_written; count = erase_count }

opened : erase_steps ≡ set_vector 0xFF 0xFF ∷ (round_steps true ++ round_steps false)
unfolding erase_steps
opened = refl

pub returns-in_err-set_vector : goal.returns-in_err-set_vector
returns-in_err-set_vector g c =
    let d = to_do_all erase_steps (g.M.Memory.meaning c.args.memory.now) erase_in in
    told _ _ _ (turn_broke _ _ _ _ _ _ _ opened d _ _ (passed_on _ _ c.from_residual.ensures.1) c.in_err-set_vector.ensures)

pub returns-in_err-erase_round : goal.returns-in_err-erase_round
returns-in_err-erase_round g c =
    let d = turn_went _ _ _ _ _ _ _ opened (to_do_all erase_steps (g.M.Memory.meaning c.args.memory.now) erase_in) c.in_ok-set_vector.ensures in
    told _ _ _ (part_broke (round_steps true) (round_steps false) _ _ _ _ _ refl d _ _ (passed_on _ _ c.from_residual-in_err-erase_round.ensures.1) c.in_err-erase_round.ensures)

pub returns : goal.returns
returns g c =
    let d = turn_went _ _ _ _ _ _ _ opened (to_do_all erase_steps (g.M.Memory.meaning c.args.memory.now) erase_in) c.in_ok-set_vector.ensures in
    let e = part_went (round_steps true) (round_steps false) _ _ _ _ _ refl d c.in_ok-erase_round.ensures in
    told _ _ _ (done_all _ _ _ _ _ _ _ e.same refl c.«erase_round-2».ensures)
