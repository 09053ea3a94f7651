use Rattle.std.proofs.Common.{◌+◌, sym, ap, subst, ◌∙◌}
use Rattle.std.specs.List.{AllByRecursion}
use Rattle.tuple_core.specs.Encoded.{value_seen}
use Rattle.tuple_core.specs.Ranks.{FitsRank, row_rank}
use Rattle.tuple_core.proofs.Ranks.{row_ended, row_full, row_puts}
use Rattle.tuple_core.proofs.ranking.number_behind.Goals as goal

pub returns-then-room-eq0 : goal.returns-then-room-eq0
returns-then-room-eq0 c =
    let room = c.loop-value.room in
    let before = c.loop-value.invariant in
    sym (before.left ∙ row_full c.loop-value.value-iterator room.number room.free before.fits c.if-room-eq0.true)

pub loop-value-preserved : goal.loop-value-preserved
loop-value-preserved c =
    let room = c.loop-value.room in
    let after = c.put_value-room.result in
    let before = c.loop-value.invariant in
    let rest = c.next.new.self in
    let fits = subst (AllByRecursion FitsRank) c.in-Some.ensures.steps before.fits in
    record {
      left = before.left ∙ ap (λ row. room.number + row_rank row room.free) c.in-Some.ensures.steps ∙ row_puts (value_seen c.in-Some.value) rest room.number room.free after.number after.free fits.1 c.put_value-room.ensures;
      fits = fits.1;
    }

pub returns : goal.returns
returns c =
    let room = c.loop-value.room in
    sym (c.loop-value.invariant.left ∙ ap (λ row. room.number + row_rank row room.free) c.in-None.ensures.steps.0 ∙ row_ended room.number room.free)
