use Rattle.std.proofs.Common.{Err, sym, ap, ◌∙◌}
use Rattle.memory.specs.Lent.{lent_meaning}
use Rattle.memory.proofs.Exits.{none_found, passed_on}
use Rattle.memory.proofs.OneStep.{read_found}
use Rattle.memory.proofs.lent.lending.LentImageMemory.read.Goals as goal

pub returns-in_err-p-clause-value : goal.returns-in_err-p-clause-value
returns-in_err-p-clause-value c =
    let m = lent_meaning c.args.self.now in
    let o = c.in_err-p.ensures in
    let r = passed_on _ _ c.from_residual.ensures.1 ∙ ap Err (none_found _ _ _ o.value) in
    r ∙ read_found _ _ m.contents (sym c.place_of.ensures.value ∙ o.ok_part)

pub returns-clause-value : goal.returns-clause-value
returns-clause-value c = read_found _ _ (lent_meaning c.args.self.now).contents (sym c.place_of.ensures.value ∙ c.in_ok-p.ensures.ok_part)
