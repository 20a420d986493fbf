use Rattle.std.proofs.Common.{ap, ap₂, ◌∙◌}
use Rattle.memory.specs.Lent.{lent_meaning, meaning_of}
use Rattle.memory.specs.Meaning.{Meaning}
use Rattle.memory.specs.Scrambled.{clear_meaning}
use Rattle.memory.specs.declared.held.Held.{Held}
use Rattle.memory.specs.declared.supply.Supply.TheVariants.{NoEnd}
use Rattle.sweep.specs.Counts.{both}
use Rattle.sweep.specs.Programs.{prepared}
use Rattle.sweep.specs.Swept.{counts_of_all}
use Rattle.sweep.proofs.sweep_both.Goals as goal

pub returns : goal.returns
returns c =
    let counts = λ (m : Meaning). counts_of_all c.args.every (prepared 1 m) in
    let lent = c.over-memory.ensures.meaning ∙ ap (λ (h : Held). meaning_of c.args.lent.now h NoEnd) c.old_record-held.ensures in
    let below = c.over.ensures.meaning ∙ ap (λ (h : Held). meaning_of c.args.scrambled.now h NoEnd) c.old_record-held.ensures in
    c.and.ensures ∙ ap₂ both (c.in_ok-first.ensures ∙ ap counts lent) (c.in_ok-second.ensures ∙ ap counts (ap₂ (λ f b. clear_meaning f (lent_meaning b)) c.over-memory-2.ensures.fixed c.over-memory-2.ensures.below ∙ ap (clear_meaning 0x5A) below))
