use Rattle.std.proofs.Common.{◌≡◌, ◌≤◌, ◌+◌, length, take, drop, map}
use Rattle.least_order.specs.Sets.{members_from}
use Rattle.least_order.specs.Sizes.{parts_of}
use Rattle.least_order.proofs.Merges.{whole}
use Rattle.least_order.proofs.size.size.Given as goal

abbrev pub invariant-loop-position : goal.invariant-loop-position
invariant-loop-position l = record {
  parts : take l.len l.parts ≡ map whole (parts_of (members_from l.position (drop l.position l.items) l.set));
  few : l.len + l.position ≤ length l.items;
}
