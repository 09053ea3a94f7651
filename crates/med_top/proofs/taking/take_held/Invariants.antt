use Rattle.std.proofs.Common.{◌≡◌, ◌-◌, ◌^◌, List}
use Rattle.tuple_core.specs.declared.value.Value.{Value}
use Rattle.med_top.specs.Taking.{HasTaken}
use Rattle.med_top.proofs.taking.take_held.Given as goal

abbrev pub invariant-rows : goal.invariant-rows
invariant-rows g l = record {
  taken : (before : List (List Value)) → HasTaken g.S.Source l.fn.wrapper before l.fn.rows → HasTaken g.S.Source l.wrapper before l.rows;
  columns : l.wrapper.ahead.columns ≡ l.fn.wrapper.ahead.columns;
  source : l.wrapper.source ≡ l.fn.wrapper.source;
  kept : l.wrapper.kept ≡ l.fn.wrapper.kept;
  ended : l.wrapper.ahead.framed.ended ≡ l.fn.wrapper.ahead.framed.ended;
}

abbrev pub decreases-rows : goal.decreases-rows
decreases-rows g l = 2 ^ 62 - l.wrapper.accepted
