use Rattle.std.proofs.Common.{sym, subst, ◌∙◌}
use Rattle.std.specs.List.{AllByRecursion}
use Rattle.tuple_core.specs.Encoded.{value_seen}
use Rattle.tuple_core.specs.Ranks.{FitsRank}
use Rattle.tuple_core.specs.Values.{FitsValue}
use Rattle.tuple_core.proofs.Ranks.{cut_ranks, rank_none, rank_whole, row_puts, values_rank}
use Rattle.tuple_core.proofs.encoded.EncodedRow.rank.Goals as goal

pub put_value-requires : goal.put_value-requires
put_value-requires c =
    let fits = subst (AllByRecursion FitsValue) (sym c.values-values.ensures.value ∙ c.in-Some.ensures.steps) c.values-values.ensures.fits.each in
    subst FitsRank (sym c.cut.ensures) (cut_ranks c.args.skip (value_seen c.in-Some.first) fits.0)

pub number_behind-requires : goal.number_behind-requires
number_behind-requires c =
    let fits = subst (AllByRecursion FitsValue) (sym c.values-values.ensures.value ∙ c.in-Some.ensures.steps) c.values-values.ensures.fits.each in
    values_rank c.next.new.self fits.1

pub returns-in-Some-clause-rank : goal.returns-in-Some-clause-rank
returns-in-Some-clause-rank c =
    let rest = c.next.new.self in
    let whole = sym c.values-values.ensures.value ∙ c.in-Some.ensures.steps in
    let fits = subst (AllByRecursion FitsValue) whole c.values-values.ensures.fits.each in
    c.number_behind.ensures
    ∙ sym (row_puts (value_seen c.cut.result) rest c.new.result.number c.new.result.free c.put_value.result.number c.put_value.result.free (values_rank rest fits.1) c.put_value.ensures)
    ∙ rank_whole c.args.skip c.args.self.now rest (value_seen c.in-Some.first) (value_seen c.cut.result) c.new.result.number c.new.result.free whole c.cut.ensures c.new.ensures.number c.new.ensures.free

pub returns-in-None-clause-rank : goal.returns-in-None-clause-rank
returns-in-None-clause-rank c = rank_none c.args.skip c.args.self.now (sym c.values-values.ensures.value ∙ c.in-None.ensures.steps.0)
