use Rattle.std.proofs.Common.{◌≡◌, sym, ◌∙◌, ap, subst, option_map, Some}
use Rattle.std.specs.List.{find}
use Rattle.collect_core.specs.Members.{is_named, member_now}
use Rattle.step_core.specs.Nets.{LeafState}
use Rattle.step_core.proofs.Finding.{found_none, found_as}
use Rattle.step_core.proofs.leaf_node.LeafNode.member.Goals as goal

pub returns-in_err-index : goal.returns-in_err-index
returns-in_err-index g c =
    subst (λ (l : LeafState g.row.S.Denot). c.from_residual.result ≡ option_map member_now (find (is_named c.args.name) l.collecting.members)) c.self.view_is
    (c.from_residual.ensures ∙ sym (ap (option_map member_now) (found_none (is_named c.args.name) c.self.inside.collector.members (sym c.find.ensures ∙ c.in_err-index.was))))

pub returns : goal.returns
returns g c =
    subst (λ (l : LeafState g.row.S.Denot). Some c.member.result ≡ option_map member_now (find (is_named c.args.name) l.collecting.members)) c.self.view_is
    (found_as member_now c.args.name c.self.inside.collector.members c.in_ok-index.index c.member.result (sym c.find.ensures ∙ c.in_ok-index.was) c.member.ensures.now)
