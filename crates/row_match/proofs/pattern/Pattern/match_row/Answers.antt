use Rattle.std.proofs.Common.{◌≡◌, ◌+◌, drop, ◌∷◌, Some, None, sym, ap, ◌∙◌, arith}
use Rattle.std.proofs.lemmas.Grind.{common_steps}
use Rattle.row_match.specs.Patterns.{matched_row}
use Rattle.row_match.specs.Prepared.{kept_after}
use Rattle.row_match.proofs.Walks.{stops, ended, whole, kept_fits}
use Rattle.row_match.proofs.pattern.Pattern.match_row.Goals as goal

pub returns-then-not-branch : goal.returns-then-not-branch
returns-then-not-branch c =
    let columns : drop c.columns.position c.self.inside.columns.items ≡ c.index.result.now ∷ drop (c.columns.position + 1) c.self.inside.columns.items = grind (arith, common_steps) in
    let row : drop c.columns.position c.values-value-items.result.now ≡ c.value-item.result ∷ drop (c.columns.position + 1) c.values-value-items.result.now = grind (arith, common_steps) in
    let none : None ≡ kept_after c.index.result.now c.value-item.result c.columns.values.items = rw c.if-not-branch.true at c.in_ok-agrees.ensures in
    let all = whole c.self.inside.columns.items c.args.self.now c.values-value-items.result.now c.self.invariant.positions c.self.view_is (rw c.values-value-items.ensures.value c.requires.width) in
    record { matched = sym (c.columns.invariant ∙ stops _ _ _ _ _ c.columns.values.items _ columns row none) ∙ all ∙ ap (matched_row c.args.self.now) c.values-value-items.ensures.value }

pub new-requires : goal.new-requires
new-requires c =
    let at = ended c.self.inside.columns.items c.values-value-items.result.now c.columns.values.items c.columns.position c.columns-test.false in
    kept_fits c.self.inside.columns.items c.values-value-items.result.now c.columns.values.items (c.columns.invariant ∙ at) (rw c.values-value-items.ensures.value c.values-value-items.ensures.fits)

pub returns : goal.returns
returns c =
    let at = ended c.self.inside.columns.items c.values-value-items.result.now c.columns.values.items c.columns.position c.columns-test.false in
    let all = whole c.self.inside.columns.items c.args.self.now c.values-value-items.result.now c.self.invariant.positions c.self.view_is (rw c.values-value-items.ensures.value c.requires.width) in
    record { matched = ap Some c.new.ensures ∙ sym (c.columns.invariant ∙ at) ∙ all ∙ ap (matched_row c.args.self.now) c.values-value-items.ensures.value }
