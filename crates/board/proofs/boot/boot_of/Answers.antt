use Rattle.std.proofs.Common.{sym, ap, ◌∙◌, inl, inr}
use Rattle.memory.specs.Meaning.{Meaning, read_of}
use Rattle.memory.specs.declared.held.Held.{Held}
use Rattle.board.specs.Booting.{reads_blank}
use Rattle.board.proofs.Booting.{boot_blank, boot_high, boot_low, boot_unfinished}
use Rattle.board.proofs.boot.boot_of.Goals as goal

pub returns-then-record : goal.returns-then-record
returns-then-record g c =
    let m = g.M.Memory.meaning c.args.memory.now in
    let e = c.record.ensures in
    record { same = e.same; value = boot_unfinished m.contents (sym (ap (λ (h : Held). h.unfinished) e.value) ∙ c.if-record.true) }

pub returns-then-high : goal.returns-then-high
returns-then-high g c =
    let m = g.M.Memory.meaning c.args.memory.now in
    let e = c.record.ensures in
    let l = c.is_blank-low.ensures in
    let u = c.is_blank-high.ensures in
    let k = sym (ap (λ (h : Held). h.unfinished) e.value) ∙ c.if-record.false in
    let a = sym (ap (λ (x : Meaning). reads_blank (read_of x.contents 0xFFFE)) e.same) ∙ sym l.value in
    let b = sym (ap (λ (x : Meaning). reads_blank (read_of x.contents 0xFFFF)) (l.same ∙ e.same)) ∙ sym u.value in
    record { same = u.same ∙ l.same ∙ e.same; value = boot_blank m.contents k (a ∙ c.if-low.true) (b ∙ c.if-high.true) }

pub returns-else-low : goal.returns-else-low
returns-else-low g c =
    let m = g.M.Memory.meaning c.args.memory.now in
    let e = c.record.ensures in
    let l = c.is_blank-low.ensures in
    let u = c.is_blank-high.ensures in
    let k = sym (ap (λ (h : Held). h.unfinished) e.value) ∙ c.if-record.false in
    let a = sym (ap (λ (x : Meaning). reads_blank (read_of x.contents 0xFFFE)) e.same) ∙ sym l.value in
    let b = sym (ap (λ (x : Meaning). reads_blank (read_of x.contents 0xFFFF)) (l.same ∙ e.same)) ∙ sym u.value in
    record {
      same = u.same ∙ l.same ∙ e.same;
      value = elim c.else-low.either [ inl h ↦ boot_high m.contents k (a ∙ h.0) (b ∙ h.1) | inr h ↦ boot_low m.contents k (a ∙ h) ];
    }
