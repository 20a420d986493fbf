-- The room is there before the first byte is written.
use Rattle.std.proofs.Common.{vec_items, arith}
use Rattle.listing.specs.Rows.{answer_of}
use Rattle.listing.proofs.Printed.{row_long, row_printed}
use Rattle.listing.proofs.rows.write_row.Goals as goal

pub returns-in_err-reserve-clause-succeeds : goal.returns-in_err-reserve-clause-succeeds
returns-in_err-reserve-clause-succeeds c =
    λ h. absurd (omega (arith, c.in_err-reserve.ensures.full, row_long c.args.detail c.args.number (answer_of c.args.refusal c.args.boot c.args.sent.now)))

pub returns-clause-items : goal.returns-clause-items
returns-clause-items c =
    let a = answer_of c.args.refusal c.args.boot c.args.sent.now in
    row_printed c.args.detail c.args.number c.refusal_number.result a (vec_items c.args.out.now) (vec_items c.reserve.new.self)
    (vec_items c.push_event.new.out)
    (vec_items c.push_byte.new.out)
    (vec_items c.push_detail.new.out)
    (vec_items c.push_said.new.out)
    (vec_items c.push_bytes.new.out)
    (vec_items c.push_reserved.new.self)
    c.in_ok-reserve.ensures.items
    c.push_event.ensures.items
    c.refusal_number.ensures
    c.push_byte.ensures.items
    c.push_detail.ensures.items
    c.push_said.ensures.items
    c.push_bytes.ensures.items
    c.push_reserved.ensures.items
