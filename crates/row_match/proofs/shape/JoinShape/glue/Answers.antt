use Rattle.std.proofs.Common.{◌++◌, slice_get, sym, ap, ap₂, ◌∙◌}
use Rattle.std.specs.List.{filter_map}
use Rattle.answer_theory.specs.Rows.{over, glued_variables}
use Rattle.answer_theory.proofs.Rows.{over_glue}
use Rattle.row_match.proofs.Gathering.{assembled, shape_fits}
use Rattle.row_match.proofs.shape.JoinShape.glue.Goals as goal

pub new-requires : goal.new-requires
new-requires c =
    let inside = c.self.inside in
    let inv = c.self.invariant in
    let got = c.in_ok-gather.ensures ∙ ap₂ (λ l r. l ++ r) (c.in_ok-values.ensures ∙ c.values.ensures.value) (ap₂ (λ row ps. filter_map (slice_get row) ps) c.values-2.ensures.value c.as_slice.ensures.value) in
    let all = assembled inside.left.items inside.right.items inside.lacked.items c.args.self.now c.args.left.now c.args.right.now _ c.self.view_is inv.right_distinct c.requires.right inv.lacked_positions got in
    shape_fits inside.left.items inside.right.items c.args.self.now c.args.left.now c.args.right.now _ c.self.view_is inv.short c.requires.left c.requires.right c.values.ensures.fits c.values-2.ensures.fits all

pub returns-clause-values : goal.returns-clause-values
returns-clause-values c =
    let inside = c.self.inside in
    let inv = c.self.invariant in
    let got = c.in_ok-gather.ensures ∙ ap₂ (λ l r. l ++ r) (c.in_ok-values.ensures ∙ c.values.ensures.value) (ap₂ (λ row ps. filter_map (slice_get row) ps) c.values-2.ensures.value c.as_slice.ensures.value) in
    c.new.ensures ∙ assembled inside.left.items inside.right.items inside.lacked.items c.args.self.now c.args.left.now c.args.right.now _ c.self.view_is inv.right_distinct c.requires.right inv.lacked_positions got

pub returns-clause-bindings : goal.returns-clause-bindings
returns-clause-bindings c =
    let inside = c.self.inside in
    let inv = c.self.invariant in
    let got = c.in_ok-gather.ensures ∙ ap₂ (λ l r. l ++ r) (c.in_ok-values.ensures ∙ c.values.ensures.value) (ap₂ (λ row ps. filter_map (slice_get row) ps) c.values-2.ensures.value c.as_slice.ensures.value) in
    let all = assembled inside.left.items inside.right.items inside.lacked.items c.args.self.now c.args.left.now c.args.right.now _ c.self.view_is inv.right_distinct c.requires.right inv.lacked_positions got in
    ap (over (glued_variables c.args.self.now.left c.args.self.now.right)) (c.new.ensures ∙ all) ∙ sym (over_glue c.args.self.now.left c.args.self.now.right c.args.left.now c.args.right.now c.requires.left)
