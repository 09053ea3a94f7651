use Rattle.std.proofs.Common.{◌≡◌, ◌-◌, ap, ◌∙◌, subst, arith}
use Rattle.std.proofs.lemmas.Result.{on_ok_weaker}
use Rattle.spill_blocks.specs.Blocks.{GivesMore, shape_at}
use Rattle.frag_store.specs.Spools.{spooled_count}
use Rattle.frag_store.proofs.ScanLaws.{gives_part}
use Rattle.frag_store.proofs.spool.Spool.scan_block.Goals as goal

pub overflow_cast-from : goal.overflow_cast-from
overflow_cast-from g c =
    let cursor = c.cursor_at-self-inside.result in
    let high = c.cursor_at-self-inside.ensures.high (omega (arith, c.requires.inside, c.requires.within, ap spooled_count c.self.view_is)) in
    let counted = c.count.ensures ∙ ap (λ b. (shape_at c.self.inside.file b).count) c.in-Some.ensures.0 in
    omega (arith, high, counted)

pub returns-clause-rows : goal.returns-clause-rows
returns-clause-rows g c =
    let cursor = c.cursor_at-self-inside.result in
    let high = c.cursor_at-self-inside.ensures.high (omega (arith, c.requires.inside, c.requires.within, ap spooled_count c.self.view_is)) in
    let counted : c.count.result ≡ (shape_at c.self.inside.file cursor.block).count = c.count.ensures ∙ ap (λ b. (shape_at c.self.inside.file b).count) c.in-Some.ensures.0 in
    rw (← c.self.view_is)
    (on_ok_weaker c.add_rows_of.result (λ more.
    gives_part c.self.inside.file cursor c.args.position c.args.stop c.min-room.result c.args.entries.now c.add_rows_of.new.entries
    c.self.invariant.shapes_told c.cursor_at-self-inside.ensures.cursor c.cursor_at-self-inside.ensures.low c.requires.inside c.in-Some.ensures.1 high
    (omega (arith, c.min-room.ensures, c.from-count.ensures, counted))
    (subst (λ b. GivesMore c.self.inside.file b (c.args.position - cursor.before) c.min-room.result c.args.entries.now c.add_rows_of.new.entries) c.in-Some.ensures.0 more))
    c.add_rows_of.ensures.rows)
