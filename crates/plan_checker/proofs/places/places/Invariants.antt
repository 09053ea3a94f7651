use Rattle.std.proofs.Common.{◌≡◌, ◌++◌, drop}
use Rattle.std.specs.List.{filter_map}
use Rattle.plan_checker.specs.Places.{place_of}
use Rattle.plan_checker.proofs.places.places.Given as goal

-- the places so far stand before those of the comparisons that are left
abbrev pub invariant-loop-comparison : goal.invariant-loop-comparison
invariant-loop-comparison l = l.places ++ filter_map (place_of l.atoms l.sites) (drop l.comparison-index l.comparison-items) ≡ filter_map (place_of l.atoms l.sites) l.comparison-items
