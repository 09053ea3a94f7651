-- The columns of a pattern are prepared one after another.
use Rattle.std.proofs.Common.{◌≡◌, ℕ, ◌+◌, ◌≤◌, true, List, [], ◌∷◌, ◌++◌, length, Option, Some, None, refl, sym, ap, ap₂, ◌∙◌, arith, append_assoc, append-nil, length-append}
use Rattle.std.specs.Option.{is_some}
use Rattle.answer_theory.specs.Bindings.{Binding}
use Rattle.answer_theory.specs.Solutions.{names}
use Rattle.answer_theory.specs.Rows.{over, binding_variables, first_occurrences, AreDistinct}
use Rattle.answer_theory.proofs.Lists.{map_append}
use Rattle.answer_theory.proofs.Rows.{over_bound, over_once, named_over, named_first_entries, each_once_distinct}
use Rattle.row_match.specs.Patterns.{term_variables, pattern_variables}
use Rattle.row_match.specs.Patterns.{position_of}
use Rattle.row_match.specs.Prepared.{position_for, variables_with, variables_with_term, prepared_columns, terms_of, variables_after}
use Rattle.row_match.specs.declared.pattern.ColumnTerm.{ColumnTerm}
use Rattle.row_match.specs.declared.pattern.Term.{Term}
use Rattle.row_match.specs.declared.pattern.Term.TheVariants as term
use Rattle.row_match.proofs.Positions.{named_by_position, distinct_push}
use Rattle.row_match.proofs.Repeats.{first_entries_again}

pub prepared_terms : (us : List ℕ) (ts : List Term) → terms_of (prepared_columns us ts) ≡ ts
prepared_terms us [] = refl
prepared_terms us (t ∷ ts) = ap (λ l. t ∷ l) (prepared_terms (variables_with_term us t) ts)

pub prepared_push : (us : List ℕ) (ts : List Term) (t : Term) (c : ColumnTerm) → c.term ≡ t → c.position ≡ position_for (variables_after us ts) t → prepared_columns us (ts ++ t ∷ []) ≡ prepared_columns us ts ++ c ∷ []
prepared_push us [] t c e f = ap₂ (λ s o. record { term = s; position = o } ∷ []) (sym e) (sym f)
prepared_push us (s ∷ ts) t c e f = ap (λ l. record { term = s; position = position_for us s } ∷ l) (prepared_push (variables_with_term us s) ts t c e f)

pub variables_push : (us : List ℕ) (ts : List Term) (t : Term) → variables_after us (ts ++ t ∷ []) ≡ variables_with_term (variables_after us ts) t
variables_push us [] t = refl
variables_push us (s ∷ ts) t = variables_push (variables_with_term us s) ts t

with_new_short : (us : List ℕ) (v : ℕ) (o : Option ℕ) → length (variables_with us v o) ≤ length us + 1
with_new_short us v None = let e = length-append us (v ∷ []) in omega (arith, e)
with_new_short us v (Some k) = omega arith

named_short : (us : List ℕ) (t : Term) → length (variables_with_term us t) ≤ length us + 1
named_short us (term.Constant c) = omega arith
named_short us (term.Variable v) = with_new_short us v (position_of us v)

pub variables_short : (us : List ℕ) (ts : List Term) → length (variables_after us ts) ≤ length us + length ts
variables_short us [] = omega arith
variables_short us (t ∷ ts) = let e = variables_short (variables_with_term us t) ts in let f = named_short us t in omega (arith, e, f)

-- ---- the variables are those of the terms, each once

once_itself : (us : List ℕ) → AreDistinct us → us ≡ first_occurrences us
once_itself us d =
    sym (ap binding_variables (over_once us us d) ∙ named_over us us refl)
    ∙ named_first_entries (over us us) ∙ ap first_occurrences (named_over us us refl)

once_again : (us : List ℕ) (v : ℕ) (ws : List ℕ) → names us v ≡ true → first_occurrences (us ++ v ∷ ws) ≡ first_occurrences (us ++ ws)
once_again us v ws e =
    ap first_occurrences (sym (both ((v, v) ∷ over ws ws) (v ∷ ws) (ap (λ l. v ∷ l) (named_over ws ws refl))))
    ∙ sym (named_first_entries (over us us ++ (v, v) ∷ over ws ws))
    ∙ ap binding_variables (first_entries_again (over us us) v v (over ws ws) (over_bound us us v refl ∙ e))
    ∙ named_first_entries (over us us ++ over ws ws)
    ∙ ap first_occurrences (both (over ws ws) ws (named_over ws ws refl))
  where
    both : (cs : Binding ℕ) (vs : List ℕ) → binding_variables cs ≡ vs → binding_variables (over us us ++ cs) ≡ us ++ vs
    both cs vs h = map_append (λ p. p.0) (over us us) cs ∙ ap₂ (λ k l. k ++ l) (named_over us us refl) h

pub variables_named : (us : List ℕ) (ts : List Term) → AreDistinct us → variables_after us ts ≡ first_occurrences (us ++ term_variables ts)
variables_named us [] d = once_itself us d ∙ ap first_occurrences (sym (append-nil us))
variables_named us (term.Constant c ∷ ts) d = variables_named us ts d
variables_named us (term.Variable v ∷ ts) d = go (position_of us v) refl (λ vs. variables_named vs ts)
  where
    go : (o : Option ℕ) → position_of us v ≡ o → ((vs : List ℕ) → AreDistinct vs → variables_after vs ts ≡ first_occurrences (vs ++ term_variables ts))
        → variables_after (variables_with us v o) ts ≡ first_occurrences (us ++ v ∷ term_variables ts)
    go None h ih = ih (us ++ v ∷ []) (distinct_push us v d (named_by_position v us ∙ ap is_some h)) ∙ ap first_occurrences (append_assoc us (v ∷ []) (term_variables ts))
    go (Some k) h ih = ih us d ∙ sym (once_again us v (term_variables ts) (named_by_position v us ∙ ap is_some h))

pub variables_are : (ts : List Term) → variables_after [] ts ≡ pattern_variables ts
variables_are ts = variables_named [] ts tt

pub variables_distinct : (ts : List Term) → AreDistinct (variables_after [] ts)
variables_distinct ts = rw (variables_are ts) (each_once_distinct (term_variables ts))
