use Rattle.std.proofs.Common.{is_some, Err, sym, ap, ◌∙◌}
use Rattle.memory.specs.Lent.{lent_meaning}
use Rattle.memory.specs.Meaning.Step.{store}
use Rattle.memory.proofs.Exits.{none_found, passed_on}
use Rattle.memory.proofs.OneStep.{outside, put_found, spend_dark, spend_made}
use Rattle.memory.proofs.lent.lending.LentImageMemory.store.Goals as goal

pub returns-in_err-p : goal.returns-in_err-p
returns-in_err-p c =
    let o = c.in_err-p.ensures in
    let r = passed_on _ _ c.from_residual.ensures.1 ∙ ap Err (none_found _ _ _ o.value) in
    outside (store c.args.address c.args.value) (lent_meaning c.args.self.now) _ r (ap is_some (sym c.place_of.ensures.value ∙ o.ok_part))

pub returns-in_err-spend : goal.returns-in_err-spend
returns-in_err-spend c =
    let p = sym c.place_of.ensures.value ∙ c.in_ok-p.ensures.ok_part in
    spend_dark (store c.args.address c.args.value) (lent_meaning c.args.self.now) _ _ _
    (passed_on _ _ c.from_residual-in_err-spend.ensures.1) (ap is_some p) c.in_err-spend.ensures

pub returns : goal.returns
returns c =
    let m = lent_meaning c.args.self.now in
    let p = sym c.place_of.ensures.value ∙ c.in_ok-p.ensures.ok_part in
    spend_made (store c.args.address c.args.value) m _ _ (put_found _ c.args.value _ m.contents p) (ap is_some p)
    c.in_ok-spend.ensures
