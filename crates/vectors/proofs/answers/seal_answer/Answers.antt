use Rattle.std.proofs.Common.{◌≡◌, ◌+◌, ◌-◌, length, drop, replicate, Ok, sym, ap, ◌∙◌, arith, length-drop}
use Rattle.std.proofs.lemmas.List.{length-replicate}
use Rattle.fault.specs.Checks.{then}
use Rattle.packer.proofs.Packs.{formed}
use Rattle.vectors.proofs.Fronts.{contents_front, front}
use Rattle.vectors.proofs.answers.seal_answer.Goals as goal

pub returns : goal.returns
returns g c =
    let C = g.C.PacketCipher.cipher in
    let key = c.args.key.now in
    let iv = c.args.iv.now in
    let contents = c.args.contents.now in
    let body = c.seal.new.out in
    let more : length (drop (length contents - 0) (replicate 282 0)) ≡ 282 - length contents = simp (length-drop, length-replicate) (omega arith) in
    let e : body ≡ C.seal key iv contents =
    c.seal.ensures ∙ ap (C.seal key iv) (contents_front contents c.copy_from_slice.new.self (drop (length contents - 0) (replicate 282 0)) c.copy_from_slice.ensures.after more c.requires) in
    let l : length body ≡ length contents + 16 =
    ap length e ∙ g.met.C.PacketCipher.lawful.longer key iv contents (c.told-key, c.told-iv, formed C iv c.in_ok-check_iv.ensures) (omega arith) in
    ap Ok (c.from_slice.ensures ∙ front body _ (length contents + 16) (sym l) (omega arith) ∙ e)
    ∙ ap (λ r. then r (Ok (C.seal key iv contents))) c.in_ok-check_iv.ensures
