-- An atom of distinct variables alone selects rows as they are.
use Rattle.std.proofs.Common.{◌≡◌, ℕ, suc, ◌≤◌, ◌==◌, Bool, true, false, not, cond, ◌&&◌, List, [], ◌∷◌, length, filter, Some, None, refl, sym, ap, subst, ◌∙◌, arith}
use Rattle.answer_theory.specs.Bindings.{Binding, consistent, first_entries}
use Rattle.answer_theory.specs.Rows.{AreDistinct, first_occurrences, over, values}
use Rattle.answer_theory.proofs.Bindings.{consistent_first_entries}
use Rattle.answer_theory.proofs.Rows.{each_once_distinct, over_once, over_values}
use Rattle.tuple_core.specs.Values.{RowValues}
use Rattle.tuple_core.specs.declared.value.Value.{Value}
use Rattle.row_match.specs.Patterns.{entries_of, fits, matched_row, pattern_variables, term_variables, values_join}
use Rattle.row_match.specs.declared.pattern.Term.{Term}
use Rattle.row_match.specs.declared.pattern.Term.TheVariants as term

-- ---- a filter that keeps as many items keeps all

filter_short : (p : ℕ → Bool) (xs : List ℕ) → length (filter p xs) ≤ length xs
filter_short p [] = omega arith
filter_short p (x ∷ xs) = go (p x) (filter_short p xs)
  where
    go : (t : Bool) → length (filter p xs) ≤ length xs → length (cond t (x ∷ filter p xs) (filter p xs)) ≤ suc (length xs)
    go true h = omega arith
    go false h = omega arith

filter_all : (p : ℕ → Bool) (xs : List ℕ) → length (filter p xs) ≡ length xs → filter p xs ≡ xs
filter_all p [] e = refl
filter_all p (x ∷ xs) e = go (p x) e (filter_all p xs) (filter_short p xs)
  where
    go : (t : Bool) → length (cond t (x ∷ filter p xs) (filter p xs)) ≡ suc (length xs) → (length (filter p xs) ≡ length xs → filter p xs ≡ xs) → length (filter p xs) ≤ length xs
        → cond t (x ∷ filter p xs) (filter p xs) ≡ x ∷ xs
    go true e ih short = ap (λ ys. x ∷ ys) (ih (omega arith))
    go false e ih short = absurd (omega arith)

occurrences_short : (vs : List ℕ) → length (first_occurrences vs) ≤ length vs
occurrences_short [] = omega arith
occurrences_short (v ∷ vs) = omega (arith, filter_short (λ w. not (w == v)) (first_occurrences vs), occurrences_short vs)

occurrences_all : (vs : List ℕ) → length (first_occurrences vs) ≡ length vs → first_occurrences vs ≡ vs
occurrences_all [] e = refl
occurrences_all (v ∷ vs) e =
    let short = filter_short (λ w. not (w == v)) (first_occurrences vs) in
    let below = occurrences_short vs in
    let one : length (filter (λ w. not (w == v)) (first_occurrences vs)) ≡ length vs = omega (arith, e) in
    let kept : length (filter (λ w. not (w == v)) (first_occurrences vs)) ≡ length (first_occurrences vs) = omega arith in
    let all : length (first_occurrences vs) ≡ length vs = omega arith in
    ap (λ ws. v ∷ ws) (filter_all (λ w. not (w == v)) (first_occurrences vs) kept ∙ occurrences_all vs all)

-- ---- terms that are all variables

variables_short : (ts : List Term) → length (term_variables ts) ≤ length ts
variables_short [] = omega arith
variables_short (term.Constant c ∷ ts) = omega (arith, variables_short ts)
variables_short (term.Variable v ∷ ts) = omega (arith, variables_short ts)

all_fit : (ts : List Term) (row : RowValues) → length (term_variables ts) ≡ length ts → fits ts row ≡ true
all_fit [] row e = refl
all_fit (t ∷ ts) [] e = refl
all_fit (term.Constant c ∷ ts) (x ∷ row) e = absurd (omega (arith, variables_short ts, e))
all_fit (term.Variable v ∷ ts) (x ∷ row) e = all_fit ts row (let d : suc (length (term_variables ts)) ≡ suc (length ts) = e in omega (arith, d))

all_over : (ts : List Term) (row : RowValues) → length (term_variables ts) ≡ length ts → entries_of ts row ≡ over (term_variables ts) row
all_over [] row e = refl
all_over (term.Constant c ∷ ts) row e = absurd (omega (arith, variables_short ts, e))
all_over (term.Variable v ∷ ts) [] e = refl
all_over (term.Variable v ∷ ts) (x ∷ row) e =
    ap (λ b. (v, x) ∷ b) (all_over ts row (let d : suc (length (term_variables ts)) ≡ suc (length ts) = e in omega (arith, d)))

matched_all : (fit : Bool) (b : Binding Value) (row : RowValues) → fit ≡ true → first_entries b ≡ b → values b ≡ row
    → cond (fit && consistent values_join b) (Some (values (first_entries b))) None ≡ Some row
matched_all fit b row f once is =
    let agree : consistent values_join b ≡ true = ap (consistent values_join) (sym once) ∙ consistent_first_entries values_join b in
    ap (λ t. cond (t && consistent values_join b) (Some (values (first_entries b))) None) f
    ∙ ap (λ t. cond t (Some (values (first_entries b))) None) agree ∙ ap (λ c. Some (values c)) once ∙ ap Some is

pub plain_row : (ts : List Term) (row : RowValues) → length row ≡ length ts → length row ≡ length (pattern_variables ts) → matched_row ts row ≡ Some row
plain_row ts row wide named =
    let vs = term_variables ts in
    let short = occurrences_short vs in
    let below = variables_short ts in
    let variables : length vs ≡ length ts = omega arith in
    let once : length (first_occurrences vs) ≡ length vs = omega arith in
    let distinct : AreDistinct vs = subst AreDistinct (occurrences_all vs once) (each_once_distinct vs) in
    let entries : entries_of ts row ≡ over vs row = all_over ts row variables in
    let width : length row ≡ length vs = omega arith in
    ap (λ b. cond (fits ts row && consistent values_join b) (Some (values (first_entries b))) None) entries
    ∙ matched_all (fits ts row) (over vs row) row (all_fit ts row variables) (over_once vs row distinct) (over_values vs row width)
