use Rattle.std.proofs.Common.{Ok, sym, ap, ◌∙◌}
use Rattle.memory.proofs.Exits.{passed_on}
use Rattle.rules.specs.Board.{State}
use Rattle.rules.specs.Receiver.{read}
use Rattle.board.specs.Reading.{handed, left_by, receiver_of}
use Rattle.board.specs.Sending.{on_byte}
use Rattle.board.proofs.Hearing.{heard_as, hears_bad, hears_core, hears_part, read_bad, read_good, read_waits}
use Rattle.board.proofs.board.Board.hear.Goals as goal

pub returns-in_err-byte : goal.returns-in_err-byte
returns-in_err-byte g c =
    let C = g.C.PacketCipher.cipher in
    let b = c.self.inside in
    let w = b.device in
    let lit = ap (λ (s : State). s.dark) c.self.view_is ∙ c.requires in
    ap (heard_as w.memory _ w.session) (passed_on _ _ c.from_residual.ensures.1)
    ∙ hears_bad C w.memory (receiver_of b.receiver) w.session b.dark lit c.args.byte _ _ c.byte.ensures.after (read_bad _ _ c.in_err-byte.ensures.value)
    ∙ ap (λ s. on_byte C s c.args.byte) c.self.view_is

pub returns-in-None : goal.returns-in-None
returns-in-None g c =
    let C = g.C.PacketCipher.cipher in
    let b = c.self.inside in
    let w = b.device in
    let lit = ap (λ (s : State). s.dark) c.self.view_is ∙ c.requires in
    let v = sym (ap (λ x. handed (Ok x)) c.in-None.is) ∙ c.in_ok-byte.ensures.value in
    hears_part C w.memory (receiver_of b.receiver) w.session b.dark lit c.args.byte _ c.byte.ensures.after (read_waits _ v)
    ∙ ap (λ s. on_byte C s c.args.byte) c.self.view_is

pub returns-in-Some : goal.returns-in-Some
returns-in-Some g c =
    let C = g.C.PacketCipher.cipher in
    let b = c.self.inside in
    let w = b.device in
    let h = receiver_of b.receiver in
    let lit = ap (λ (s : State). s.dark) c.self.view_is ∙ c.requires in
    let v = read_good (read h c.args.byte) c.in-Some.core.buffer (sym (ap (λ x. handed (Ok x)) c.in-Some.is) ∙ c.in_ok-byte.ensures.value) in
    let left = c.obey.new.self in
    ap (λ r. heard_as left.memory r left.session c.obey.result) (c.byte.ensures.after ∙ ap left_by v)
    ∙ hears_core C w.memory h w.session b.dark lit c.args.byte _ _ v c.obey.ensures
    ∙ ap (λ s. on_byte C s c.args.byte) c.self.view_is
