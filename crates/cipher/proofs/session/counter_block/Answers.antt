use Rattle.std.proofs.Common.{[], ◌∷◌, ◌++◌, get_or, take, drop, ap, ◌∙◌, rules}
use Rattle.cipher.proofs.Streams.{last_two}
use Rattle.cipher.proofs.session.counter_block.Goals as goal

pub returns : goal.returns
returns c =
    let iv = c.args.iv.now in
    let b = c.to_be_bytes.result in
    ap (λ l. take 12 iv ++ (l ++ drop 4 (drop 12 iv))) c.copy_from_slice.ensures.after
    ∙ last_two iv (get_or b 0 0) (get_or b 1 0) (search rules) ∙ ap (λ l. take 14 iv ++ get_or l 0 0 ∷ get_or l 1 0 ∷ []) c.to_be_bytes.ensures
