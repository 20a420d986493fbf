use Rattle.std.proofs.Common.{length, sym, ap, ◌∙◌, arith}
use Rattle.wire.specs.Frame.{frame, over}
use Rattle.board.specs.Sending.{sent_of}
use Rattle.board.proofs.reply.Reply.write.Goals as goal

pub returns-in-Version : goal.returns-in-Version
unfolding frame
returns-in-Version c =
    let xs = c.args.reply.now in
    let e = c.acknowledge.ensures in
    let is = sym c.in-Version.is in
    record { reply = e.reply ∙ ap (λ r. over (sent_of r) xs) is; count = e.count ∙ ap (λ r. length (sent_of r)) is; bound = omega (arith, e.count) }

pub returns-in-Done : goal.returns-in-Done
unfolding frame
returns-in-Done c =
    let xs = c.args.reply.now in
    let e = c.acknowledge-in-Done.ensures in
    let is = sym c.in-Done.is in
    record { reply = e.reply ∙ ap (λ r. over (sent_of r) xs) is; count = e.count ∙ ap (λ r. length (sent_of r)) is; bound = omega (arith, e.count) }

pub returns-in-Refused : goal.returns-in-Refused
unfolding frame
returns-in-Refused c =
    let xs = c.args.reply.now in
    let e = c.acknowledge-in-Refused.ensures in
    let is = sym c.in-Refused.is in
    record { reply = e.reply ∙ ap (λ r. over (sent_of r) xs) is; count = e.count ∙ ap (λ r. length (sent_of r)) is; bound = omega (arith, e.count) }

pub returns-in-Unknown : goal.returns-in-Unknown
unfolding frame
returns-in-Unknown c =
    let xs = c.args.reply.now in
    let e = c.acknowledge-in-Unknown.ensures in
    let is = sym c.in-Unknown.is in
    record { reply = e.reply ∙ ap (λ r. over (sent_of r) xs) is; count = e.count ∙ ap (λ r. length (sent_of r)) is; bound = omega (arith, e.count) }
