use Rattle.std.proofs.Common.{◌≡◌, ◌+◌, ◌*◌, ◌-◌, ◌<◌, ◌≤◌, []}
use Rattle.csv_wrap.specs.Wrapped.{SameSource}
use Rattle.med_top.specs.Taking.{HasTaken, ends_to_come}
use Rattle.med_top.proofs.taking.take_rows.Given as goal

abbrev pub invariant-pulls : goal.invariant-pulls
invariant-pulls g l = record {
  taken : HasTaken g.S.Source l.wrapper l.fn.rows l.rows;
  kept : l.wrapper.kept ≡ [];
  columns : l.wrapper.ahead.columns ≡ l.fn.wrapper.ahead.columns;
  same : SameSource g.S.Source l.fn.wrapper.source l.wrapper.source;
  idle : l.idle ≤ g.S.Source.dry l.wrapper.source;
  below : l.idle < 100000;
}

abbrev pub decreases-pulls : goal.decreases-pulls
decreases-pulls g l = (g.S.Source.left l.wrapper.source + ends_to_come l.wrapper.ahead.framed.ended) * 100001 + (100000 - l.idle)
