use Rattle.std.proofs.Common.{refl, ◌∙◌, ap₂}
use Rattle.memory.proofs.Exits.{passed_on}
use Rattle.rules.specs.Board.{key_fields}
use Rattle.board.specs.Opening.{opened_by}
use Rattle.board.proofs.Judging.{key_failed, key_passed, key_shut, key_unsized}
use Rattle.board.proofs.Outcome.{key_dark, key_refuses, key_well}
use Rattle.board.proofs.Stepping.{done_on}
use Rattle.board.proofs.device.Device.take_key.Goals as goal

pub returns-in_err-sealed : goal.returns-in_err-sealed
returns-in_err-sealed g c =
    let C = g.C.PacketCipher.cipher in
    let w = c.args.self.now in
    let core = c.args.core.buffer in
    key_refuses C w w.memory w.memory w.memory w.session refl refl core _ _ (passed_on _ _ c.from_residual.ensures.1)
    (key_unsized C w w.memory w.session refl w.memory.contents.held refl core _ c.in_err-sealed.ensures.value)

pub returns-in_err-opened : goal.returns-in_err-opened
returns-in_err-opened g c =
    let C = g.C.PacketCipher.cipher in
    let w = c.args.self.now in
    let core = c.args.core.buffer in
    let h = c.record-held in
    let o = c.in_err-opened.ensures ∙ ap₂ (opened_by C key_fields) c.key_of-key.ensures c.in_ok-sealed.ensures.same in
    key_refuses C w _ _ w.memory _ c.self.view_is h.ensures.same core _ _ (passed_on _ _ c.from_residual-in_err-opened.ensures.1)
    (key_shut C w _ _ c.self.view_is h.result h.ensures.value core c.in_ok-sealed.ensures.value _ o)

pub returns-in_err-judged : goal.returns-in_err-judged
returns-in_err-judged g c =
    let C = g.C.PacketCipher.cipher in
    let w = c.args.self.now in
    let core = c.args.core.buffer in
    let h = c.record-held in
    let o = c.in_ok-opened.ensures ∙ ap₂ (opened_by C key_fields) c.key_of-key.ensures c.in_ok-sealed.ensures.same in
    key_refuses C w _ _ w.memory _ c.self.view_is h.ensures.same core _ _ (passed_on _ _ c.from_residual-in_err-judged.ensures.1)
    (key_failed C w _ _ c.self.view_is h.result h.ensures.value core c.in_ok-sealed.ensures.value _ o _ (c.in_err-judged.ensures c.open.new.work))

pub returns-in_err-store : goal.returns-in_err-store
returns-in_err-store g c =
    let C = g.C.PacketCipher.cipher in
    let w = c.args.self.now in
    let core = c.args.core.buffer in
    let h = c.record-held in
    let o = c.in_ok-opened.ensures ∙ ap₂ (opened_by C key_fields) c.key_of-key.ensures c.in_ok-sealed.ensures.same in
    let p = key_passed C w _ _ c.self.view_is h.result h.ensures.value core c.in_ok-sealed.ensures.value _ o _ (c.in_ok-judged.ensures c.open.new.work) in
    key_dark C w _ _ _ _ c.self.view_is h.ensures.same core p.0 p.1.0 _ _ (passed_on _ _ c.from_residual-in_err-store.ensures.1)
    (done_on _ _ _ _ _ _ p.1.1 refl c.in_err-store.ensures)

pub returns : goal.returns
returns g c =
    let C = g.C.PacketCipher.cipher in
    let w = c.args.self.now in
    let core = c.args.core.buffer in
    let h = c.record-held in
    let o = c.in_ok-opened.ensures ∙ ap₂ (opened_by C key_fields) c.key_of-key.ensures c.in_ok-sealed.ensures.same in
    let p = key_passed C w _ _ c.self.view_is h.result h.ensures.value core c.in_ok-sealed.ensures.value _ o _ (c.in_ok-judged.ensures c.open.new.work) in
    key_well C w _ _ _ _ c.self.view_is h.ensures.same core p.0 p.1.0 (done_on _ _ _ _ _ _ p.1.1 refl c.in_ok-store.ensures)
