use Rattle.std.proofs.Common.{◌≡◌, ◌++◌, drop, map}
use Rattle.plan_reader.proofs.items.read_items.Given as goal

-- the items so far stand before those that are left
abbrev pub invariant-loop-from : goal.invariant-loop-from
invariant-loop-from g l = l.items ++ map g.T.Item.item_in (drop l.from-index l.all) ≡ map g.T.Item.item_in l.all
