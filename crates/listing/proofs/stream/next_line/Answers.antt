use Rattle.std.proofs.Common.{rules, ◌≡◌, ◌++◌, ◌∷◌, [], length, length-append, sym, ap, ◌∙◌, arith}
use Rattle.listing.proofs.Reading.{last_same, line_read, none_read}
use Rattle.listing.proofs.stream.next_line.Goals as goal

pub returns-in-Some-eq10 : goal.returns-in-Some-eq10
returns-in-Some-eq10 g c =
    let read = c.in_ok-read_through.ensures in
    line_read (g.R.Read.remaining c.args.input.now) (g.R.Read.remaining c.read_through.new.input) c.read_through.new.line.items c.pop.new.self.items
    read.bytes read.rest (c.in-Some-eq10.ensures.items ∙ ap (λ b. c.pop.new.self.items ++ b ∷ []) c.in-Some-eq10.field-0-test)

-- a byte that is popped and is no line end
pub returns-in_default : goal.returns-in_default
returns-in_default g c =
    let read = c.in_ok-read_through.ensures in
    none_read (g.R.Read.remaining c.args.input.now) (g.R.Read.remaining c.read_through.new.input) c.read_through.new.line.items c.pop.new.self.items
    read.bytes read.rest (λ l e. c.in_default.field-0-test.1 (last_same c.pop.new.self.items l _ 10 (sym c.in_default.ensures.items ∙ e)))

-- no byte
pub returns-in_default-2 : goal.returns-in_default-2
returns-in_default-2 g c =
    let empty : length c.read_through.new.line.items ≡ 0 = search rules in
    let read = c.in_ok-read_through.ensures in
    none_read (g.R.Read.remaining c.args.input.now) (g.R.Read.remaining c.read_through.new.input) c.read_through.new.line.items c.pop.new.self.items
    read.bytes read.rest (λ l e. omega (arith, empty, ap length e, length-append l (10 ∷ [])))
