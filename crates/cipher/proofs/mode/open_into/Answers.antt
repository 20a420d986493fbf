use Rattle.std.proofs.Common.{◌≡◌, true, length, Ok, sym, refl, ap, ◌∙◌, rules}
use Rattle.cipher.specs.Cipher.{opening, yielded}
use Rattle.cipher.specs.Sealing.{xor_from}
use Rattle.cipher.specs.Schemes.{length_xor_from}
use Rattle.cipher.specs.Sessions.{Setup}
use Rattle.cipher.proofs.Opens.{decided, filled}
use Rattle.cipher.proofs.mode.open_into.Goals as goal

pub returns : goal.returns
returns g c =
    let E = g.M.Block.BlockCipher.block c.args.key.now in
    let iv = c.args.iv.now in
    let s = g.M.Mode.stream E iv in
    let tag = g.M.Mode.tag E iv in
    let body = c.args.body.now in
    let p = c.in-Some.ensures in
    let xs = c.decrypt-tag.new.contents in
    let ex : xs ≡ xor_from s 0 c.in-Some.covered.now =
    c.decrypt-tag.ensures.contents ∙ ap (λ (u : Setup). xor_from (g.M.Mode.stream (g.M.Block.BlockCipher.block u.key) u.iv) 0 c.in-Some.covered.now) c.new.ensures in
    let et : c.decrypt-tag.result ≡ tag xs = c.decrypt-tag.ensures.tag ∙ ap (λ (u : Setup). g.M.Mode.tag (g.M.Block.BlockCipher.block u.key) u.iv xs) c.new.ensures in
    let l : length xs ≡ length c.in-Some.covered.now = ap length ex ∙ length_xor_from s 0 c.in-Some.covered.now in
    let d = decided s tag body c.in-Some.covered.now c.in-Some.given.now xs c.decrypt-tag.result p.0 p.1 p.2 ex et true (search rules) in
    record {
      answer = ap Ok (sym l) ∙ ap opening (sym d);
      work = filled c.args.work.now xs c.fill.new.self (length c.in-Some.covered.now) _ c.told-work l (search rules) refl ∙ ap yielded (sym d);
    }
