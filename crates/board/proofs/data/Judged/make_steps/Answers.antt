use Rattle.memory.proofs.Exits.{passed_on}
use Rattle.board.specs.States.{judged_in}
use Rattle.board.proofs.Stepping.{broke_open, broke_store, data_mapped, data_part, done_as, made_all}
use Rattle.board.proofs.data.Judged.make_steps.Goals as goal

pub returns-in_err-open_update : goal.returns-in_err-open_update
returns-in_err-open_update g c =
    let p = judged_in c.args.self.now c.args.work.now in
    done_as _ _ _ _ _ (passed_on _ _ c.from_residual.ensures.1)
    (broke_open p _ _ (data_mapped c.args.self.now _ c.told-work) _ (c.in_err-open_update.ensures p.bytes))

pub returns-in_err-store_data : goal.returns-in_err-store_data
returns-in_err-store_data g c =
    let p = judged_in c.args.self.now c.args.work.now in
    done_as _ _ _ _ _ (passed_on _ _ c.from_residual-in_err-store_data.ensures.1)
    (broke_store p _ _ (data_mapped c.args.self.now _ c.told-work) (c.in_ok-open_update.ensures p.bytes) _ _ (data_part c.args.self.now.opened _) _ (record { after = c.in_err-store_data.ensures.after; value = c.in_err-store_data.ensures.value }))

pub returns : goal.returns
returns g c =
    let p = judged_in c.args.self.now c.args.work.now in
    made_all p _ _ (data_mapped c.args.self.now _ c.told-work) (c.in_ok-open_update.ensures p.bytes) _ _ (data_part c.args.self.now.opened _) _ _
    (record { after = c.in_ok-store_data.ensures.after; value = c.in_ok-store_data.ensures.value }) (c.close_update.ensures p.bytes)
