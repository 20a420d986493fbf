use Rattle.std.proofs.Common.{◌≡◌, slice_index, rules, ap, ◌∙◌}
use Rattle.cipher.specs.Horner.{horner, times_x4}
use Rattle.cipher.proofs.gcm.ghash.Factor.new.Goals as goal

pub invariant_of-result-clause-low_made : goal.invariant_of-result-clause-low_made
invariant_of-result-clause-low_made c = λ t h.
    let p : slice_index c.from_fn-high.result t ≡ horner t c.args.value 4 = search rules in
    (c.map-low.ensures.items.at t 0 0 h).2.met ∙ ap times_x4 p
