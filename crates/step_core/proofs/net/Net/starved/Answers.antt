use Rattle.std.proofs.Common.{sym, subst}
use Rattle.step_core.specs.Members.{IsFirstOf, starved_groups}
use Rattle.step_core.specs.Nets.{NetState}
use Rattle.step_core.specs.Viewed.{tree_of}
use Rattle.step_core.proofs.Starving.{starved_first}
use Rattle.step_core.proofs.net.Net.starved.Goals as goal

pub returns-clause-first : goal.returns-clause-first
returns-clause-first g c =
    subst (λ (n : NetState g.row.S.Denot). IsFirstOf (starved_groups n.tree) c.starved.result) c.self.view_is
    (subst (IsFirstOf (starved_groups (tree_of c.self.inside.tree))) (sym c.starved.ensures) (starved_first (tree_of c.self.inside.tree)))
