use Rattle.std.proofs.Common.{◌≡◌, ◌<◌, length, get_or, not, List, ◌++◌, arith, ap, subst, ◌∙◌}
use Rattle.plan_reader.specs.Items.{AllPut, has_doubled}
use Rattle.plan_reader.proofs.ItemLaws.{items_found, items_none, items_seen}
use Rattle.plan_reader.proofs.doubled.first_doubled.Goals as goal

pub returns-then-not-branch : goal.returns-then-not-branch
returns-then-not-branch g c =
    let same = g.K.PartialEq.eq in
    let lists = c.args.lists.now in
    let k = c.loop-index.index in
    let one = c.index-lists-index.result in
    let inside : k < length lists = omega arith in
    let here : c.as_slice.result.now ≡ get_or lists k one = c.as_slice.ensures ∙ c.index-lists-index.is in
    items_found same lists c.loop-index.seen.keys k one inside c.loop-index.invariant.seen c.in_ok-put_all.field-0
    (c.in_ok-put_all.ensures.fresh ∙ ap (λ (ns : List g.row.K.Denot). not (has_doubled same c.loop-index.seen.keys ns)) here) c.if-not-branch.true c.loop-index.invariant.none

pub loop-index-preserved : goal.loop-index-preserved
loop-index-preserved g c =
    let same = g.K.PartialEq.eq in
    let lists = c.args.lists.now in
    let k = c.loop-index.index in
    let one = c.index-lists-index.result in
    let keys = c.loop-index.seen.keys in
    let inside : k < length lists = omega arith in
    let here : c.as_slice.result.now ≡ get_or lists k one = c.as_slice.ensures ∙ c.index-lists-index.is in
    let put = subst (λ b. AllPut b keys c.as_slice.result.now c.put_all.new.seen.keys) c.if-not-branch.false c.in_ok-put_all.ensures.kept in
    record {
      seen = items_seen same lists keys k one inside c.loop-index.invariant.seen c.put_all.new.seen.keys (put ∙ ap (λ (ns : List g.row.K.Denot). keys ++ ns) here);
      none = items_none same lists keys k one inside c.loop-index.invariant.seen c.in_ok-put_all.field-0
          (c.in_ok-put_all.ensures.fresh ∙ ap (λ (ns : List g.row.K.Denot). not (has_doubled same keys ns)) here) c.if-not-branch.false c.loop-index.invariant.none;
    }
