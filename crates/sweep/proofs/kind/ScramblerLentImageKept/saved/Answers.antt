use Rattle.std.proofs.Common.{◌≡◌, get_or, sym, ap, ◌∙◌, arith}
use Rattle.std.proofs.lemmas.List.{get_or_read}
use Rattle.memory.specs.Lent.{lent_long, lent_meaning}
use Rattle.memory.specs.Meaning.{Meaning}
use Rattle.memory.specs.Scrambled.{clear_meaning}
use Rattle.sweep.proofs.Fixed.{fixed_known}
use Rattle.sweep.proofs.kind.ScramblerLentImageKept.saved.Goals as goal

-- the fixed byte is the one that is looked for
known : (c : goal.After-over) → c.read.new.self.fixed ≡ 0x5A
known c =
    let s = c.read.new.self in
    let image = ap (λ (m : Meaning). m.contents.image) (c.in_ok-below.ensures.saved ∙ ap lent_meaning c.into_below.ensures) in
    let kept = get_or_read c.saved.new.to.image.items _ _ (omega (arith, c.saved.new.to.long)) c.index.ensures 0 ∙ ap (λ xs. get_or xs 0 0) image in
    fixed_known s.fixed 0x5A c.in_ok-first.first c.index.result.now (lent_meaning s.below) _ (lent_long s.below) c.read.ensures.same c.in_ok-first.ensures.value kept c.if-index-first-ne-FIXED.false

-- below it stands what it meant
meant : (c : goal.After-over) → clear_meaning 0x5A (lent_meaning c.into_below.result) ≡ clear_meaning c.args.self.fixed (lent_meaning c.args.self.below)
meant c =
    let s = c.read.new.self in
    ap (λ b. clear_meaning 0x5A (lent_meaning b)) c.into_below.ensures ∙ ap (λ f. clear_meaning f (lent_meaning s.below)) (sym (known c)) ∙ c.read.ensures.same

pub returns-clause-stays : goal.returns-clause-stays
returns-clause-stays c =
    ap (λ b. clear_meaning c.over.result.fixed (lent_meaning b)) c.over.ensures.below
    ∙ ap (λ f. clear_meaning f (lent_meaning c.in_ok-below.below)) c.over.ensures.fixed
    ∙ ap (clear_meaning 0x5A) c.in_ok-below.ensures.stays ∙ meant c

pub returns-clause-saved : goal.returns-clause-saved
returns-clause-saved c = ap (clear_meaning 0x5A) c.in_ok-below.ensures.saved ∙ meant c
