use Rattle.std.proofs.Common.{◌≡◌, [], ◌++◌, drop}
use Rattle.plan_checker.specs.Places.{all_join_sites}
use Rattle.plan_checker.proofs.walking.all_join_sites.Given as goal

-- the joins so far stand before those of the fragments that are left
abbrev pub invariant-loop-fragment : goal.invariant-loop-fragment
invariant-loop-fragment l = l.sites ++ all_join_sites l.finished.items (drop l.fragment-index l.fragments) ≡ all_join_sites [] l.fragments
