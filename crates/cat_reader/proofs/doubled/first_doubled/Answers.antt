use Rattle.std.proofs.Common.{◌<◌, [], length, arith}
use Rattle.cat_reader.proofs.DoubledLaws.{first_found, none_found, one_seen}
use Rattle.cat_reader.proofs.doubled.first_doubled.Goals as goal

pub returns-then-not-is_new : goal.returns-then-not-is_new
returns-then-not-is_new c =
    let k = c.loop-index.index in
    let inside : k < length c.args.names.now = omega arith in
    first_found c.args.names.now c.loop-index.seen.keys k (record { ref_ptr = (0, 0); now = [] }) inside c.loop-index.invariant.seen
    c.in_ok-is_new.is_new c.in_ok-is_new.ensures.added c.if-not-is_new.true c.loop-index.invariant.none

pub loop-index-preserved : goal.loop-index-preserved
loop-index-preserved c =
    let k = c.loop-index.index in
    let inside : k < length c.args.names.now = omega arith in
    record {
      seen = one_seen c.args.names.now c.loop-index.seen.keys k (record { ref_ptr = (0, 0); now = [] }) inside c.loop-index.invariant.seen
          c.in_ok-is_new.is_new c.insert_full.new.self.keys c.in_ok-is_new.ensures.added c.if-not-is_new.false c.in_ok-is_new.ensures.keys;
      none = none_found c.args.names.now c.loop-index.seen.keys k (record { ref_ptr = (0, 0); now = [] }) inside c.loop-index.invariant.seen
          c.in_ok-is_new.is_new c.in_ok-is_new.ensures.added c.if-not-is_new.false c.loop-index.invariant.none;
    }
