use Rattle.std.proofs.Common.{◌≡◌, ℕ, List, length, take, drop, sym, ap, ◌∙◌}
use Rattle.std.proofs.lemmas.List.{take_at}
use Rattle.wire.specs.Frame.{over}
use Rattle.rules.specs.Board.{refuses, sends}
use Rattle.board.specs.Sending.{replied, sent_of}
use Rattle.board.proofs.calls.answered.Goals as goal

-- what stands in front of the reply buffer is what was sent
front : (bs xs ys : List ℕ) (n : ℕ) → ys ≡ over bs xs → n ≡ length bs → take n ys ≡ bs
front bs xs ys n e l = ap (take n) e ∙ take_at bs (drop (length bs) xs) n (sym l)

pub returns-in-Ok : goal.returns-in-Ok
returns-in-Ok c =
    let xs = c.args.reply.now in
    let e = c.write.ensures in
    let is = sym c.in-Ok.is in
    record {
      answer = ap sends (front (sent_of c.in-Ok.what) xs _ _ e.reply e.count) ∙ ap replied is;
      reply = e.reply ∙ ap (λ d. over (replied d).sent xs) is;
      bound = e.bound;
    }

pub returns-in-Err : goal.returns-in-Err
returns-in-Err c =
    let xs = c.args.reply.now in
    let f = c.in-Err.fault in
    let e = c.write-in-Err.ensures in
    let s = c.to_refusal.ensures in
    let is = sym c.in-Err.is in
    record {
      answer = ap (refuses f) (front (sent_of c.to_refusal.result) xs _ _ e.reply e.count ∙ s) ∙ ap replied is;
      reply = e.reply ∙ ap (λ bs. over bs xs) s ∙ ap (λ d. over (replied d).sent xs) is;
      bound = e.bound;
    }
