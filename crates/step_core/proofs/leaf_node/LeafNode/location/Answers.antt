use Rattle.std.proofs.Common.{◌≡◌, sym, ◌∙◌, ap, subst, option_map, Some}
use Rattle.std.specs.List.{find, slice_get}
use Rattle.med_prelude.specs.Texts.{Bytes}
use Rattle.collect_core.specs.Members.{Member, is_named}
use Rattle.step_core.specs.Nets.{LeafState}
use Rattle.step_core.proofs.Finding.{found_as, found_none, turned}
use Rattle.step_core.proofs.leaf_node.LeafNode.location.Goals as goal

pub returns-in_err-index : goal.returns-in_err-index
returns-in_err-index g c =
    subst (λ (l : LeafState g.row.S.Denot). option_map (λ text. text.now) c.from_residual.result ≡ option_map (λ m. m.location) (find (is_named c.args.name) l.collecting.members)) c.self.view_is
    (ap (option_map (λ text. text.now)) c.from_residual.ensures
    ∙ sym (ap (option_map (λ m. m.location)) (found_none (is_named c.args.name) c.self.inside.collector.members (sym c.find.ensures ∙ c.in_err-index.was))))

pub returns : goal.returns
returns g c =
    let at : Member g.row.S.Denot → Bytes = λ m. m.location in
    subst (λ (l : LeafState g.row.S.Denot). Some c.location.result.now ≡ option_map at (find (is_named c.args.name) l.collecting.members)) c.self.view_is
    (found_as at c.args.name c.self.inside.collector.members c.in_ok-index.index c.location.result.now (sym c.find.ensures ∙ c.in_ok-index.was)
    (turned at (slice_get c.self.inside.collector.members c.in_ok-index.index) c.location.result.now c.location.ensures))
