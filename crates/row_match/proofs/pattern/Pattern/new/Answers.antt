use Rattle.std.proofs.Common.{◌≡◌, length, List, [], ◌∷◌, ◌++◌, refl, sym, ap, ◌∙◌, arith, append_assoc, append-nil}
use Rattle.std.specs.Vec.Iter.{into_iter_items}
use Rattle.row_match.specs.Patterns.{pattern_variables}
use Rattle.row_match.specs.Prepared.{prepared_columns, terms_of, variables_with_term, position_for}
use Rattle.row_match.proofs.Preparing.{prepared_push, variables_push, prepared_terms, variables_are, variables_distinct, variables_short}
use Rattle.row_match.proofs.pattern.Pattern.new.Goals as goal

pub terms-preserved : goal.terms-preserved
terms-preserved c =
    let inv = c.terms.invariant in
    let term = c.in-Some.term in
    let steps : into_iter_items c.terms.term-iterator ≡ term ∷ into_iter_items c.next.new.self = c.in-Some.ensures.steps.0 in
    let position = prepared_push [] c.terms.yielded term (record { term = term; position = c.in_ok-position.position }) refl (c.in_ok-position.ensures.position ∙ ap (λ vs. position_for vs term) inv.variables) in
    record {
      items = append_assoc c.terms.yielded (term ∷ []) _ ∙ rw (← steps) inv.items;
      len = (let was = inv.len in let gone = c.in-Some.ensures.steps.1 in let short = ap length steps in omega arith);
      columns = c.in_ok-push.ensures.items ∙ ap (λ cs. cs ++ record { term = term; position = c.in_ok-position.position } ∷ []) inv.columns ∙ sym position;
      variables = c.in_ok-position.ensures.named ∙ ap (λ vs. variables_with_term vs term) inv.variables ∙ sym (variables_push [] c.terms.yielded term);
    }

nothing_left : {X : Type 0} (l : List X) → length l ≡ 0 → l ≡ []
nothing_left [] h = refl
nothing_left (x ∷ xs) h = absurd (omega arith)

pub new-requires-clause-distinct : goal.new-requires-clause-distinct
new-requires-clause-distinct c = rw c.terms.invariant.variables (variables_distinct c.terms.yielded)

pub new-requires-clause-short : goal.new-requires-clause-short
new-requires-clause-short c =
    let empty : into_iter_items c.terms.term-iterator ≡ [] = nothing_left _ (sym c.terms.invariant.len ∙ c.in-None.ensures.steps.0) in
    let all = sym (append-nil c.terms.yielded) ∙ rw empty at c.terms.invariant.items ∙ c.into_iter-term-iterator.ensures.into_iter_gives.0 in
    let count = ap length all in
    let bound = variables_short [] c.terms.yielded in
    let most = c.requires.short in
    rw c.terms.invariant.variables (omega (arith, count, bound, most))

pub invariant_of-result : goal.invariant_of-result
invariant_of-result c =
    let terms : terms_of c.terms.columns.items ≡ c.terms.yielded = ap terms_of c.terms.invariant.columns ∙ prepared_terms [] c.terms.yielded in
    record {
      positions = c.terms.invariant.columns ∙ ap (prepared_columns []) (sym terms);
      named = c.new.ensures ∙ c.terms.invariant.variables ∙ variables_are c.terms.yielded ∙ ap pattern_variables (sym terms);
    }

pub returns : goal.returns
returns c =
    let empty : into_iter_items c.terms.term-iterator ≡ [] = nothing_left _ (sym c.terms.invariant.len ∙ c.in-None.ensures.steps.0) in
    let all = sym (append-nil c.terms.yielded) ∙ rw empty at c.terms.invariant.items ∙ c.into_iter-term-iterator.ensures.into_iter_gives.0 in
    ap terms_of c.terms.invariant.columns ∙ prepared_terms [] c.terms.yielded ∙ all
