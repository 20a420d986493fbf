use Rattle.std.proofs.Common.{◌≡◌, sym, ap, ◌∙◌, rules}
use Rattle.std.proofs.lemmas.Result.{IfOk-weaker}
use Rattle.speed.specs.Sending.{obeyed_of}
use Rattle.speed.specs.declared.work.Work.TheVariants.{Packet, Erase}
use Rattle.speed.proofs.work.Work.turn.Goals as goal

pub returns-in_ok-calls-in-Packet-clause-obeyed : goal.returns-in_ok-calls-in-Packet-clause-obeyed
returns-in_ok-calls-in-Packet-clause-obeyed c =
    λ g i d k.
    IfOk-weaker c.call.result _ _
    (λ turn e. (
      λ p. e ∙ ap (obeyed_of g) (search rules),
      λ p. absurd (let q : Packet ≡ Erase = sym c.in-Packet.is ∙ p in cc),
    ))
    (c.call.ensures g i d k)

pub returns-in_ok-erases-in-Erase-clause-obeyed : goal.returns-in_ok-erases-in-Erase-clause-obeyed
returns-in_ok-erases-in-Erase-clause-obeyed c =
    λ g i d k.
    IfOk-weaker c.call-in-Erase.result _ _
    (λ turn e. (
      λ p. absurd (let q : Erase ≡ Packet = sym c.in-Erase.is ∙ p in cc),
      λ p. e ∙ ap (obeyed_of g) (search rules),
    ))
    (c.call-in-Erase.ensures g i d k)
