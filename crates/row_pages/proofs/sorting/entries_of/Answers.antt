use Rattle.std.proofs.Common.{◌≡◌, ◌<◌, ◌∷◌, ◌++◌, [], length, rules, arith}
use Rattle.row_pages.proofs.Indexed.{each_more, row_at_index, rows_more}
use Rattle.row_pages.specs.declared.sorting.Entry.{Entry}
use Rattle.row_pages.proofs.sorting.entries_of.Goals as goal

pub loop-index-preserved : goal.loop-index-preserved
loop-index-preserved c =
    let rows = c.args.rows.now in
    let index = c.loop-index.index in
    let entry : Entry = record { rank = c.rank-rank.result; index = index; row = c.in-Some.row } in
    let pushed : c.push.new.self.items ≡ c.loop-index.entries.items ++ entry ∷ [] = search rules in
    let here = row_at_index rows index c.in-Some.row c.in-Some.ensures in
    let inside : index < length rows = omega arith in
    record {
      rows = rows_more rows c.loop-index.entries.items c.push.new.self.items index entry inside pushed c.loop-index.invariant.rows here;
      each = each_more c.args.skip rows c.loop-index.entries.items c.push.new.self.items entry pushed c.loop-index.invariant.each (record { inside = inside; row = here; fits = c.rank-rank.ensures.fits; rank = c.rank-rank.ensures.rank });
    }
