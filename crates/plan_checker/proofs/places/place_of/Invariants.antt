use Rattle.std.proofs.Common.{◌≡◌, drop}
use Rattle.plan_checker.specs.Places.{place_of}
use Rattle.plan_checker.proofs.places.place_of.Given as goal

-- none of the nodes so far binds the variables
abbrev pub invariant-loop-site : goal.invariant-loop-site
invariant-loop-site l = place_of l.atoms (drop l.site-index l.sites) l.comparison ≡ place_of l.atoms l.sites l.comparison
