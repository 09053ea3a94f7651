use Rattle.std.proofs.Common.{◌≡◌, length, cond, Some, None, sym, ap, ◌∙◌}
use Rattle.std.specs.Prelude.{option_and_then}
use Rattle.row_match.specs.Patterns.{matched_row, pattern_variables}
use Rattle.row_match.proofs.Leaves.{matched_width}
use Rattle.collect_core.specs.Selecting.{Select, passes}
use Rattle.collect_core.proofs.Plain.{plain_row}
use Rattle.collect_core.proofs.selection.Selection.select.Goals as goal

pub passing-requires-in-Ok-Some : goal.passing-requires-in-Ok-Some
passing-requires-in-Ok-Some c =
    let terms : c.self.inside.pattern ≡ c.args.self.now.terms = ap (λ (s : Select). s.terms) c.self.view_is in
    let matched : matched_row c.self.inside.pattern c.args.row ≡ Some c.in-Ok-Some.values = sym c.in-Ok-Some.ensures.matched ∙ c.in-Ok-Some.field-0-is in
    let wide : length c.args.row ≡ length c.self.inside.pattern = c.requires.width ∙ ap length (sym terms) in
    record { width = matched_width c.self.inside.pattern c.args.row c.in-Ok-Some.values wide matched ∙ ap (λ ts. length (pattern_variables ts)) terms }

pub returns-then-values-as_slice-clause-selected : goal.returns-then-values-as_slice-clause-selected
returns-then-values-as_slice-clause-selected c =
    let terms : c.self.inside.pattern ≡ c.args.self.now.terms = ap (λ (s : Select). s.terms) c.self.view_is in
    let named : length c.args.row ≡ length (pattern_variables c.args.self.now.terms) =
    ap length (sym c.values.ensures.value) ∙ c.if-values-as_slice.true ∙ ap length (c.as_slice.ensures.value ∙ c.variables.ensures) ∙ ap (λ ts. length (pattern_variables ts)) terms in
    let matched : matched_row c.args.self.now.terms c.args.row ≡ Some c.args.row = plain_row c.args.self.now.terms c.args.row c.requires.width named in
    c.passing.ensures ∙ ap (option_and_then (λ values. cond (passes c.args.self.now values) (Some values) None)) (sym matched)
