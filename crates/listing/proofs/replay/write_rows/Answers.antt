use Rattle.std.proofs.Common.{◌≡◌, ◌+◌, ◌<◌, ◌≤◌, ◌∷◌, ◌++◌, length, drop, sym, refl, ap, ap₂, ◌∙◌, arith}
use Rattle.std.proofs.lemmas.List.{append_assoc, append-nil, at_drop_more, at_drop_all}
use Rattle.listing.specs.Rows.{row}
use Rattle.listing.specs.Replaying.{next_number, number_behind, rows_from}
use Rattle.listing.proofs.replay.write_rows.Goals as goal

pub loop-answer-init : goal.loop-answer-init
loop-answer-init c = (refl, refl)

pub loop-answer-preserved : goal.loop-answer-preserved
loop-answer-preserved c =
    let i = c.loop-answer.answer-index in
    let given = c.args.answers.now in
    let x = c.answer-item.result in
    let old = c.loop-answer.rows.items in
    let n = c.loop-answer.next in
    let d = c.args.detail in
    let h : i < length given = omega arith in
    let left = drop (i + 1) given in
    let first : drop i given ≡ x ∷ left = at_drop_more (λ zs. zs) given i x h ∙ ap (λ y. y ∷ left) (sym c.answer-item.is) in
    let shown = ap₂ (λ f b. record { refusal = f; sent = c.sent.result.now; said = b }) c.refusal.ensures c.boot.ensures
    ∙ ap (λ bs. record { refusal = x.refusal; sent = bs; said = x.said }) c.sent.ensures.bytes in
    let e = c.in_ok-write_row.ensures.items ∙ ap (λ a. old ++ row d n a) shown in (
      ap₂ (λ rs m. rs ++ rows_from d m left) e c.number_after-next.ensures
          ∙ append_assoc old (row d n x) (rows_from d (next_number n) left)
          ∙ ap (λ zs. old ++ rows_from d n zs) (sym first)
          ∙ c.loop-answer.invariant.0,
      ap (λ m. number_behind m left) c.number_after-next.ensures ∙ ap (number_behind n) (sym first) ∙ c.loop-answer.invariant.1,
    )

pub returns : goal.returns
returns c =
    let i = c.loop-answer.answer-index in
    let given = c.args.answers.now in
    let h : length given ≤ i = omega arith in
    let none = at_drop_all (λ zs. zs) given i h in
    record {
      rows = sym (append-nil c.loop-answer.rows.items) ∙ ap (λ zs. c.loop-answer.rows.items ++ rows_from c.args.detail c.loop-answer.next zs) (sym none) ∙ c.loop-answer.invariant.0;
      number = ap (number_behind c.loop-answer.next) (sym none) ∙ c.loop-answer.invariant.1;
    }
