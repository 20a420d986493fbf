use Rattle.std.proofs.Common.{refl, ◌∙◌, ap₂}
use Rattle.memory.proofs.Exits.{passed_on}
use Rattle.rules.specs.Board.{fields}
use Rattle.board.specs.Opening.{opened_by}
use Rattle.board.proofs.Judging.{data_judged, data_shut, data_unsized}
use Rattle.board.proofs.Outcome.{data_dark, data_refuses, data_well}
use Rattle.board.proofs.Stepping.{session_as}
use Rattle.board.proofs.device.Device.take_data.Goals as goal

pub returns-in_err-sealed : goal.returns-in_err-sealed
returns-in_err-sealed g c =
    let C = g.C.PacketCipher.cipher in
    let w = c.args.self.now in
    let core = c.args.core.buffer in
    data_refuses C w w.memory w.memory w.memory w.session refl refl core _ _ (passed_on _ _ c.from_residual.ensures.1)
    (data_unsized C w w.memory w.session refl w.memory.contents.held refl core _ c.in_err-sealed.ensures.value)

pub returns-in_err-opened : goal.returns-in_err-opened
returns-in_err-opened g c =
    let C = g.C.PacketCipher.cipher in
    let w = c.args.self.now in
    let core = c.args.core.buffer in
    let h = c.record-held in
    let o = c.in_err-opened.ensures ∙ ap₂ (opened_by C fields) c.key_of-key.ensures c.in_ok-sealed.ensures.same in
    data_refuses C w _ _ w.memory _ c.self.view_is h.ensures.same core _ _ (passed_on _ _ c.from_residual-in_err-opened.ensures.1)
    (data_shut C w _ _ c.self.view_is h.result h.ensures.value core c.in_ok-sealed.ensures.value _ o)

pub returns-in_err-judged : goal.returns-in_err-judged
returns-in_err-judged g c =
    let C = g.C.PacketCipher.cipher in
    let w = c.args.self.now in
    let core = c.args.core.buffer in
    let work = c.open.new.work in
    let h = c.record-held in
    let o = c.in_ok-opened.ensures ∙ ap₂ (opened_by C fields) c.key_of-key.ensures c.in_ok-sealed.ensures.same in
    data_refuses C w _ _ w.memory _ c.self.view_is h.ensures.same core _ _ (passed_on _ _ c.from_residual-in_err-judged.ensures.1)
    (data_judged C w _ _ c.self.view_is h.result h.ensures.value core c.in_ok-sealed.ensures.value _ o _ (c.in_err-judged.ensures work c.open.array_long))

pub returns-in_err-stored : goal.returns-in_err-stored
returns-in_err-stored g c =
    let C = g.C.PacketCipher.cipher in
    let w = c.args.self.now in
    let core = c.args.core.buffer in
    let work = c.open.new.work in
    let h = c.record-held in
    let o = c.in_ok-opened.ensures ∙ ap₂ (opened_by C fields) c.key_of-key.ensures c.in_ok-sealed.ensures.same in
    data_dark C w _ _ _ _ c.self.view_is h.ensures.same core _
    (data_judged C w _ _ c.self.view_is h.result h.ensures.value core c.in_ok-sealed.ensures.value _ o _ (c.in_ok-judged.ensures work c.open.array_long))
    _ _ (passed_on _ _ c.from_residual-in_err-stored.ensures.1) c.in_err-stored.ensures.steps

pub returns : goal.returns
returns g c =
    let C = g.C.PacketCipher.cipher in
    let w = c.args.self.now in
    let core = c.args.core.buffer in
    let work = c.open.new.work in
    let h = c.record-held in
    let o = c.in_ok-opened.ensures ∙ ap₂ (opened_by C fields) c.key_of-key.ensures c.in_ok-sealed.ensures.same in
    let s = c.in_ok-stored.ensures in
    data_well C w _ _ _ _ c.self.view_is h.ensures.same core _
    (data_judged C w _ _ c.self.view_is h.result h.ensures.value core c.in_ok-sealed.ensures.value _ o _ (c.in_ok-judged.ensures work c.open.array_long))
    _ (c.session-self-inside.ensures ∙ session_as _ _ s.stored.0 s.stored.1) s.steps
