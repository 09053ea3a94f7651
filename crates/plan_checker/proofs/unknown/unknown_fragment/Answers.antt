use Rattle.std.proofs.Common.{sym}
use Rattle.std.proofs.lemmas.Iterator.Adapters.{position_from-zero}
use Rattle.plan_checker.specs.Uses.{names_unknown}
use Rattle.plan_checker.proofs.unknown.unknown_fragment.Goals as goal

pub loop-index-init : goal.loop-index-init
loop-index-init c = sym (position_from-zero (names_unknown c.args.atoms c.args.numbers.now) c.args.fragments.now)
