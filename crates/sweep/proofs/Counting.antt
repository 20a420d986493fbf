-- One step more of a sweep.
use Rattle.std.proofs.Common.{◌≡◌, ℕ, suc, ◌+◌, List, sym, ap, ◌∙◌, add-one}
use Rattle.memory.specs.Meaning.{Meaning}
use Rattle.rules.specs.declared.Event.{Event}
use Rattle.sweep.specs.Cuts.{steps_of}
use Rattle.sweep.specs.Swept.{cut_at_step, no_cut, report_of}
use Rattle.sweep.specs.declared.sweeping.Report.{Report}

pub counted_none : (every steps : ℕ) (calls more : List Event) (m : Meaning) (r : Report) → r ≡ no_cut steps → steps ≡ steps_of calls m → r ≡ report_of every calls more m 0
unfolding report_of
counted_none every steps calls more m r h e = h ∙ ap no_cut e

pub counted_more : (every n : ℕ) (calls more : List Event) (m : Meaning) (r q : Report) → r ≡ report_of every calls more m n
    → q ≡ cut_at_step every calls more m (n + 1) r → q ≡ report_of every calls more m (n + 1)
unfolding report_of
counted_more every n calls more m r q h k =
    let last : cut_at_step every calls more m (suc n) (report_of every calls more m n) ≡ report_of every calls more m (n + 1) = ap (report_of every calls more m) (sym (add-one n)) in
    k ∙ ap (cut_at_step every calls more m (n + 1)) h ∙ ap (λ k. cut_at_step every calls more m k (report_of every calls more m n)) (add-one n) ∙ last
