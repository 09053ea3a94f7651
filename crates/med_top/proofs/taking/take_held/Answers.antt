use Rattle.med_top.proofs.TakingLaws.{given_more}
use Rattle.med_top.proofs.taking.take_held.Goals as goal

pub rows-smaller : goal.rows-smaller
rows-smaller g c =
    let t = c.rows.invariant.taken c.requires.0 c.requires.1 in
    given_more g.S.Source c.rows.wrapper c.next_row.new.self t.given c.in-Row.row t.has (c.in-Row.ensures.gave t.given t.has) c.in-Row.ensures.answer.0
