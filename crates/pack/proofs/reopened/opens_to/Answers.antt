use Rattle.std.proofs.Common.{refl, sym, ◌∙◌}
use Rattle.std.proofs.lemmas.Bool.Decides.{Decides-eqb}
use Rattle.std.proofs.lemmas.Slice.Eq.{slice_eq-Decides}
use Rattle.fault.specs.declared.Fault.TheVariants.{BadIv}
use Rattle.pack.proofs.Opened.{other_front, reopened_is, two_parts}
use Rattle.pack.proofs.reopened.opens_to.Goals as goal

pub returns-in-Some : goal.returns-in-Some
returns-in-Some g c =
    let C = g.C.PacketCipher.cipher in
    let iv = c.args.iv.now in
    let r = reopened_is (C.well_formed iv) (BadIv (C.first_wrong iv)) (C.opened c.args.key.now iv c.args.body.now) c.in-Ok.count c.open.new.work c.in-Ok.ensures.answer c.open.ensures.work in
    let h = c.in-Some.ensures.cases in
    two_parts _ _ c.args.head.now c.args.rest.now r c.in-Some.tail.now c.eq.result ((slice_eq-Decides Decides-eqb _ _ _ refl).0 h.0) h.1 (slice_eq-Decides Decides-eqb _ _ _ c.eq.ensures)

pub returns-in-None : goal.returns-in-None
returns-in-None g c =
    let C = g.C.PacketCipher.cipher in
    let iv = c.args.iv.now in
    let r = reopened_is (C.well_formed iv) (BadIv (C.first_wrong iv)) (C.opened c.args.key.now iv c.args.body.now) c.in-Ok.count c.open.new.work c.in-Ok.ensures.answer c.open.ensures.work in
    let h = c.in-None.ensures.cases in
    (λ f. cc, λ y. sym h ∙ (slice_eq-Decides Decides-eqb _ _ _ refl).1 (other_front _ _ c.args.head.now c.args.rest.now r y))
