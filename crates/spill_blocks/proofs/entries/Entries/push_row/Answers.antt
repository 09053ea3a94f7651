use Rattle.std.proofs.Common.{◌++◌, ◌∷◌, [], ap, ap₂, ◌∙◌}
use Rattle.spill_blocks.specs.Entries.{kept_list}
use Rattle.spill_blocks.specs.declared.entries.Numbers.{Numbers}
use Rattle.spill_blocks.proofs.EntryLaws.{kept_push}
use Rattle.spill_blocks.proofs.entries.Entries.push_row.Goals as goal

pub returns-clause-ok : goal.returns-clause-ok
returns-clause-ok c =
    let n : Numbers = record { a = c.args.a; d = c.args.d } in
    rw (← c.self.view_is)
    (ap₂ kept_list (c.put.ensures ∙ ap (λ ns. ns ++ n ∷ []) c.reserve.ensures.items) c.in_ok-push.ensures.ok
    ∙ kept_push c.self.inside.numbers.items c.self.inside.rows n c.args.row.now c.self.invariant)
