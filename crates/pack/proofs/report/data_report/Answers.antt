use Rattle.std.proofs.Common.{string_bytes, ap, ap₂, ◌∙◌}
use Rattle.text.specs.Hex.{hex_read}
use Rattle.pack.specs.Report.{data_given}
use Rattle.pack.proofs.Given.{not_asked}
use Rattle.pack.proofs.Words.{eight_words}
use Rattle.pack.proofs.report.data_report.Goals as goal

pub returns : goal.returns
returns c =
    c.data_given-2.ensures ∙ ap₂ data_given c.data_arguments-asked.ensures c.in_ok-bytes.ensures
    ∙ eight_words string_bytes _ _ _ _ _ _ _ _ _ _ _ _ _ _ _ _ c.args.words.now c.in-len8.len_at_least c.in-len8.len_below
    (c.deref.ensures ∙ ap string_bytes c.cipher-item.is) (c.deref-2.ensures ∙ ap string_bytes c.key-item.is) (c.deref-3.ensures ∙ ap string_bytes c.iv-item.is) (c.deref-4.ensures ∙ ap string_bytes c.ver-item.is) (c.deref-5.ensures ∙ ap string_bytes c.pn-item.is) (c.deref-6.ensures ∙ ap string_bytes c.np-item.is) (c.deref-7.ensures ∙ ap string_bytes c.address-item.is) (c.as_bytes.ensures.value ∙ ap string_bytes c.data-item.is)

pub returns-then-is_err : goal.returns-then-is_err
returns-then-is_err c =
    let bytes = hex_read (string_bytes c.data-item.result) in
    c.data_given.ensures ∙ not_asked c.data_arguments-asked.result _ bytes c.if-is_err.ensures.negation
    ∙ ap (λ a. data_given a bytes) c.data_arguments-asked.ensures
    ∙ eight_words string_bytes _ _ _ _ _ _ _ _ _ _ _ _ _ _ _ _ c.args.words.now c.in-len8.len_at_least c.in-len8.len_below
    (c.deref.ensures ∙ ap string_bytes c.cipher-item.is) (c.deref-2.ensures ∙ ap string_bytes c.key-item.is) (c.deref-3.ensures ∙ ap string_bytes c.iv-item.is) (c.deref-4.ensures ∙ ap string_bytes c.ver-item.is) (c.deref-5.ensures ∙ ap string_bytes c.pn-item.is) (c.deref-6.ensures ∙ ap string_bytes c.np-item.is) (c.deref-7.ensures ∙ ap string_bytes c.address-item.is) (ap string_bytes c.data-item.is)
