use Rattle.std.proofs.Common.{◌≡◌, ℕ, List, IfOk, sym, subst}
use Rattle.std.proofs.lemmas.Bool.{cond-false, cond-true, le-ltb, lt-ltb}
use Rattle.wire.specs.Frame.{frame}
use Rattle.example.specs.Parts.{part_packet}
use Rattle.example.proofs.update.pack_part.Goals as goal

pub returns-then-number-lt-COUNT-clause-made : goal.returns-then-number-lt-COUNT-clause-made
returns-then-number-lt-COUNT-clause-made c =
    let P : List ℕ → Type 0 = λ bs. IfOk c.pack_bytes.result (λ f. f ≡ frame (part_packet c.args.key.now c.args.version c.args.number bs)) in
    subst P (sym (cond-true _ _ _ (lt-ltb _ _ c.if-number-lt-COUNT.true))) c.pack_bytes.ensures.made

pub returns-else-number-lt-COUNT-clause-made : goal.returns-else-number-lt-COUNT-clause-made
returns-else-number-lt-COUNT-clause-made c =
    let P : List ℕ → Type 0 = λ bs. IfOk c.pack_bytes-else-number-lt-COUNT.result (λ f. f ≡ frame (part_packet c.args.key.now c.args.version c.args.number bs)) in
    subst P (sym (cond-false _ _ _ (le-ltb _ _ c.if-number-lt-COUNT.false))) c.pack_bytes-else-number-lt-COUNT.ensures.made
