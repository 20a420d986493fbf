use Rattle.std.proofs.Common.{rules, length, sym, ap, ◌∙◌}
use Rattle.board.specs.Reading.{left_by, receiver_at, receiver_of}
use Rattle.board.proofs.Bodies.{body_last, body_more, none_yet, sound_more}
use Rattle.board.proofs.receiver.Receiver.byte.Goals as goal
use Rattle.board.proofs.receiver.Receiver.byte.Goals.{in-Idle-eq128, in-LengthLow-default, in-LengthHigh-default+else-n-eq0+else-n-gt299, in-Body-default+then-as_slice-n, in-Body-default+else-as_slice-n, in-CheckLow-default}

pub invariant_of-self-else-as_slice-n : goal.invariant_of-self-else-as_slice-n
invariant_of-self-else-as_slice-n c =
    let r = c.args.self.now in
    record { sound = sound_more r.progress r.core _ _ c.args.b c.in-Body-default.is-0 r.sound c.push.ensures (λ e. c.if-as_slice-n.false (ap length c.as_slice.ensures.bytes ∙ e)) }

pub returns-clause-after : goal.returns-clause-after
returns-clause-after c =
    let r = c.args.self.now in
    elim c.match-self.branch [
      | in-Idle-eq128 w ↦ search rules
      | in-LengthLow-default w ↦ search rules
      | in-LengthHigh-default+else-n-eq0+else-n-gt299 w ↦ let e = none_yet r.progress r.core _ w.in-LengthHigh-default.is-0 r.sound in search rules
      | in-Body-default+then-as_slice-n w ↦ ap receiver_of w.self-is
          ∙ ap left_by (body_last r.progress r.core _ _ c.args.b w.in-Body-default.is-0 r.sound w.push.ensures (ap length (sym w.as_slice.ensures.bytes) ∙ w.if-as_slice-n.true))
      | in-Body-default+else-as_slice-n w ↦ ap receiver_of w.self-is
          ∙ ap (λ p. receiver_at p w.push.new.self) w.in-Body-default.is-0
          ∙ ap left_by (body_more r.progress r.core _ _ c.args.b w.in-Body-default.is-0 r.sound w.push.ensures (λ e. w.if-as_slice-n.false (ap length w.as_slice.ensures.bytes ∙ e)))
      | in-CheckLow-default w ↦ search rules
    ]
