use Rattle.std.proofs.Common.{◌≡◌, slice_get, None, Some, sym, arith}
use Rattle.std.proofs.lemmas.Grind.{common_steps}
use Rattle.std.proofs.lemmas.Option.{gets}
use Rattle.spill_blocks.proofs.EntryLaws.{get_kept, none_by_numbers, none_by_rows}
use Rattle.spill_blocks.proofs.entries.Entries.get.Goals as goal

pub returns-in_err-numbers : goal.returns-in_err-numbers
returns-in_err-numbers c =
    let none : slice_get c.self.inside.numbers.items c.args.index ≡ None = grind (arith, common_steps, gets) in
    rw (c.from_residual.ensures, ← c.self.view_is) (sym (none_by_numbers c.self.inside.numbers.items c.self.inside.rows c.args.index none))

pub returns-in_err-row : goal.returns-in_err-row
returns-in_err-row c =
    rw (c.from_residual-in_err-row.ensures, ← c.self.view_is) (sym (none_by_rows c.self.inside.numbers.items c.self.inside.rows c.args.index (sym c.in_err-row.ensures)))

pub returns : goal.returns
returns c =
    let some : slice_get c.self.inside.numbers.items c.args.index ≡ Some c.in_ok-numbers.field-0.now = grind (arith, common_steps, gets) in
    rw (← c.self.view_is) (sym (get_kept c.self.inside.numbers.items c.self.inside.rows c.args.index c.in_ok-numbers.field-0.now c.in_ok-row.row some (sym c.in_ok-row.ensures)))
