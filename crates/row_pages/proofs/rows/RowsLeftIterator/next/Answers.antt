use Rattle.std.proofs.Common.{◌≡◌, ◌<◌, None, ap, sym, ◌∙◌, length, arith, slice_get, []}
use Rattle.std.proofs.lemmas.Option.{slice_get-get_or}
use Rattle.row_pages.proofs.Encodings.{first_left}
use Rattle.row_pages.proofs.rows.RowsLeftIterator.next.Goals as goal

pub unreachable-requires : goal.unreachable-requires
unreachable-requires c =
    let inside : c.self.inside.next < length c.self.inside.rows.now = omega (arith, c.self.invariant, c.len.ensures, c.if-self-len.false) in
    let there = slice_get-get_or c.self.inside.rows.now c.self.inside.next [] inside in
    let none : None ≡ slice_get c.self.inside.rows.now c.self.inside.next = sym c.in-None.is ∙ c.get.ensures in
    absurd (let e = none ∙ there in cc e)

pub returns-clause-steps : goal.returns-clause-steps
returns-clause-steps c =
    let inside : c.self.inside.next < length c.self.inside.rows.now = omega (arith, c.self.invariant, c.len.ensures, c.if-self-len.false) in
    sym c.self.view_is ∙ first_left c.self.inside.rows.now c.self.inside.next c.in-Some.row (sym c.in-Some.is ∙ c.get.ensures) inside

pub returns-clause-goes : goal.returns-clause-goes
returns-clause-goes c =
    let inside : c.self.inside.next < length c.self.inside.rows.now = omega (arith, c.self.invariant, c.len.ensures, c.if-self-len.false) in
    let first = sym c.self.view_is ∙ first_left c.self.inside.rows.now c.self.inside.next c.in-Some.row (sym c.in-Some.is ∙ c.get.ensures) inside in
    let longer = ap (λ rows. length rows) first in
    record {
      on = λ _. (tt, tt, omega (arith, longer));
      keeps = tt;
      rests = λ _. tt;
    }
