use Rattle.std.proofs.Common.{[], ◌∷◌, refl, ap}
use Rattle.memory.specs.Meaning.Step.{set_key}
use Rattle.board.proofs.Stepping.{done_on, one_done}
use Rattle.board.proofs.key.JudgedKey.store.Goals as goal

pub returns : goal.returns
returns g c =
    let j = c.args.self in
    done_on _ _ _ _ _ _ (ap (λ k. set_key j.slot (record { key = k; version = j.kv }) ∷ []) c.key.ensures) refl (one_done _ _ _ _ refl c.set_key.ensures)
