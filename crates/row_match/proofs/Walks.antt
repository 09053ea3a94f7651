-- A row's values, taken one after another, are those that the definition gives.
use Rattle.std.proofs.Common.{subst, drop, IfSome, ◌≡◌, ℕ, suc, ◌+◌, ◌≤◌, Bool, true, false, cond, ◌&&◌, List, [], ◌∷◌, ◌++◌, length, Option, Some, None, slice_get, refl, sym, ap, ap₂, ◌∙◌, arith, append_assoc, append-nil, length-append}
use Rattle.std.specs.Option.{option_and_then, is_some}
use Rattle.std.specs.List.{AllByRecursion}
use Rattle.std.proofs.lemmas.Grind.{common_steps}
use Rattle.tuple_core.specs.Values.{FitsRow, FitsValue}
use Rattle.answer_theory.specs.Bindings.{Binding, consistent, has_entry, value_of, first_entries}
use Rattle.answer_theory.specs.Solutions.{names}
use Rattle.answer_theory.specs.Rows.{over, values, AreDistinct, both_join}
use Rattle.answer_theory.proofs.Bindings.{consistent_first_entries}
use Rattle.answer_theory.proofs.Bools.{and_false}
use Rattle.answer_theory.proofs.Rows.{over_once, over_values, over_bound}
use Rattle.tuple_core.specs.Order.{values_same}
use Rattle.tuple_core.specs.declared.value.Value.{Value}
use Rattle.row_match.specs.Patterns.{fits, entries_of, matched_row, values_join}
use Rattle.row_match.specs.Patterns.{position_of}
use Rattle.row_match.specs.Prepared.{variables_with, prepared_columns, terms_of, kept_after, kept_after_term}
use Rattle.row_match.specs.declared.pattern.ColumnTerm.{ColumnTerm}
use Rattle.row_match.specs.declared.pattern.Term.{Term}
use Rattle.row_match.specs.declared.pattern.Term.TheVariants as term
use Rattle.row_match.proofs.Positions.{value_at, named_by_position, over_push, distinct_push}
use Rattle.row_match.proofs.Repeats.{first_entries_again, consistent_again}

-- the rest of a row is taken, after values that are kept
abbrev pub walk : List ColumnTerm → List Value → List Value → Option (List Value)
walk [] kept row = Some kept
walk (c ∷ cs) kept [] = Some kept
walk (c ∷ cs) kept (x ∷ row) = option_and_then (λ more. walk cs more row) (kept_after c x kept)

-- what is matched after entries that agree
abbrev matched_after : Binding Value → List Term → List Value → Option (List Value)
matched_after bs ts row = cond (fits ts row && consistent values_join (bs ++ entries_of ts row)) (Some (values (first_entries (bs ++ entries_of ts row)))) None

shorter : {X Y : Type 0} (y : Y) (ys : List Y) (x : X) (xs : List X) → length (x ∷ xs) ≡ length (y ∷ ys) → length xs ≡ length ys
shorter y ys x xs e = let d : suc (length xs) ≡ suc (length ys) = e in omega (arith, d)

ends : (us : List ℕ) (kept : List Value) → AreDistinct us → length kept ≡ length us → Some kept ≡ cond (consistent values_join (over us kept ++ [])) (Some (values (first_entries (over us kept ++ [])))) None
ends us kept d e = sym (
    ap (λ bs. cond (consistent values_join bs) (Some (values (first_entries bs))) None) (append-nil (over us kept))
    ∙ ap (λ t. cond t (Some (values (first_entries (over us kept)))) None) (ap (consistent values_join) (sym (over_once us kept d)) ∙ consistent_first_entries values_join (over us kept))
    ∙ ap (λ bs. Some (values bs)) (over_once us kept d)
    ∙ ap Some (over_values us kept e))

grown : (us : List ℕ) (kept : List Value) (v : ℕ) (x : Value) → length kept ≡ length us → length (kept ++ x ∷ []) ≡ length (us ++ v ∷ [])
grown us kept v x e = length-append kept (x ∷ []) ∙ ap (λ n. n + 1) e ∙ sym (length-append us (v ∷ []))

walked : (us : List ℕ) (kept : List Value) (ts : List Term) (row : List Value) → AreDistinct us → length kept ≡ length us → length row ≡ length ts
    → walk (prepared_columns us ts) kept row ≡ matched_after (over us kept) ts row
walked us kept [] row d e f = ends us kept d e
walked us kept (t ∷ ts) [] d e f = absurd (let g : 0 ≡ suc (length ts) = f in omega (arith, g))
walked us kept (term.Constant c ∷ ts) (x ∷ row) d e f = go (values_join x c) (walked us kept ts row d e (shorter (term.Constant c) ts x row f))
  where
    go : (t : Bool) → walk (prepared_columns us ts) kept row ≡ matched_after (over us kept) ts row
        → option_and_then (λ more. walk (prepared_columns us ts) more row) (cond t (Some kept) None)
        ≡ cond ((t && fits ts row) && consistent values_join (over us kept ++ entries_of ts row)) (Some (values (first_entries (over us kept ++ entries_of ts row)))) None
    go true ih = ih
    go false ih = refl
walked us kept (term.Variable v ∷ ts) (x ∷ row) d e f = go (position_of us v) refl (λ vs more dv ev. walked vs more ts row dv ev (shorter (term.Variable v) ts x row f))
  where
    rest : Binding Value
    rest = entries_of ts row

    bound_here : names us v ≡ true → has_entry (over us kept) v ≡ true
    bound_here n = over_bound us kept v e ∙ n

    -- what the definition gives
    given : Bool → Binding Value → Option (List Value)
    given t bs = cond (fits ts row && t) (Some (values (first_entries bs))) None

    again : (j : Bool) → walk (prepared_columns us ts) kept row ≡ matched_after (over us kept) ts row
        → option_and_then (λ more. walk (prepared_columns us ts) more row) (cond j (Some kept) None) ≡ given (j && consistent values_join (over us kept ++ rest)) (over us kept ++ rest)
    again true ih = ih
    again false ih = sym (ap (λ s. cond s (Some (values (first_entries (over us kept ++ rest)))) None) (and_false (fits ts row)))

    go : (o : Option ℕ) → position_of us v ≡ o
        → ((vs : List ℕ) (more : List Value) → AreDistinct vs → length more ≡ length vs → walk (prepared_columns vs ts) more row ≡ matched_after (over vs more) ts row)
        → option_and_then (λ more. walk (prepared_columns (variables_with us v o) ts) more row) (kept_after_term (term.Variable v) o x kept)
        ≡ given (consistent values_join (over us kept ++ (v, x) ∷ rest)) (over us kept ++ (v, x) ∷ rest)
    go None h ih =
        ih (us ++ v ∷ []) (kept ++ x ∷ []) (distinct_push us v d (named_by_position v us ∙ ap is_some h)) (grown us kept v x e)
        ∙ ap (λ bs. given (consistent values_join bs) bs) (ap (λ bs. bs ++ rest) (over_push us kept v x e) ∙ append_assoc (over us kept) ((v, x) ∷ []) rest)
    go (Some k) h ih =
        let has : names us v ≡ true = named_by_position v us ∙ ap is_some h in
        let at : slice_get kept k ≡ value_of (over us kept) v = sym (value_at v us kept e ∙ ap (option_and_then (slice_get kept)) h) in
        again (both_join values_join (Some x) (slice_get kept k)) (ih us kept d e)
        ∙ ap (λ o. given (both_join values_join (Some x) o && consistent values_join (over us kept ++ rest)) (over us kept ++ rest)) at
        ∙ ap (λ t. given t (over us kept ++ rest)) (sym (consistent_again values_join values_same us kept v x rest d e has))
        ∙ ap (λ bs. cond (fits ts row && consistent values_join (over us kept ++ (v, x) ∷ rest)) (Some (values bs)) None) (sym (first_entries_again (over us kept) v x rest (bound_here has)))

pub walk_matches : (ts : List Term) (row : List Value) → length row ≡ length ts → walk (prepared_columns [] ts) [] row ≡ matched_row ts row
walk_matches ts row f = walked [] [] ts row tt refl f

-- ---- the kept values are some of the row's

kept_push : (kept : List Value) (x : Value) → FitsValue x → AllByRecursion FitsValue kept → AllByRecursion FitsValue (kept ++ x ∷ [])
kept_push [] x f h = (f, tt)
kept_push (y ∷ kept) x f h = (h.0, kept_push kept x f h.1)

abbrev EachFits : ℕ → Option (List Value) → Type 0
EachFits n o = IfSome o (λ out. AllByRecursion FitsValue out × (length out ≤ n))

where_true : (t : Bool) (n : ℕ) (kept : List Value) → AllByRecursion FitsValue kept → length kept ≤ n → EachFits n (cond t (Some kept) None)
where_true true n kept h l = (h, l)
where_true false n kept h l = tt

each_taken : (t : Term) (position : Option ℕ) (x : Value) (kept : List Value) → FitsValue x → AllByRecursion FitsValue kept → EachFits (length kept + 1) (kept_after_term t position x kept)
each_taken (term.Constant c) position x kept f h = where_true (values_join x c) (length kept + 1) kept h (omega arith)
each_taken (term.Variable v) None x kept f h = (kept_push kept x f h, let e = length-append kept (x ∷ []) in omega (arith, e))
each_taken (term.Variable v) (Some k) x kept f h = where_true (both_join values_join (Some x) (slice_get kept k)) (length kept + 1) kept h (omega arith)

walk_fits : (cs : List ColumnTerm) (kept row : List Value) → AllByRecursion FitsValue kept → AllByRecursion FitsValue row → EachFits (length kept + length row) (walk cs kept row)
walk_fits [] kept row h r = (h, omega arith)
walk_fits (c ∷ cs) kept [] h r = (h, omega arith)
walk_fits (c ∷ cs) kept (x ∷ row) h r = go (kept_after c x kept) (each_taken c.term c.position x kept r.0 h) (λ more m. walk_fits cs more row m r.1)
  where
    wider : (m n : ℕ) (o : Option (List Value)) → m ≤ n → EachFits m o → EachFits n o
    wider m n None l e = tt
    wider m n (Some out) l e = (e.0, let i = e.1 in omega (arith, i, l))

    go : (o : Option (List Value)) → EachFits (length kept + 1) o → ((more : List Value) → AllByRecursion FitsValue more → EachFits (length more + length row) (walk cs more row))
        → EachFits (length kept + length (x ∷ row)) (option_and_then (λ more. walk cs more row) o)
    go None e ih = tt
    go (Some more) e ih = wider (length more + length row) (length kept + suc (length row)) (walk cs more row) (let i = e.1 in omega (arith, i)) (ih more e.0)

-- ---- what the loop over a row's values rests on

pub stops : (cs rest : List ColumnTerm) (c : ColumnTerm) (row more kept : List Value) (x : Value) → cs ≡ c ∷ rest → row ≡ x ∷ more → None ≡ kept_after c x kept → walk cs kept row ≡ None
stops cs rest c row more kept x e f g = ap₂ (λ l r. walk l kept r) e f ∙ ap (option_and_then (λ k. walk rest k more)) (sym g)

pub ended : (cs : List ColumnTerm) (row kept : List Value) (i : ℕ) → length row ≤ i → walk (drop i cs) kept (drop i row) ≡ Some kept
ended cs row kept i l = let past : drop i row ≡ [] = grind (arith, common_steps) in rw past (no_more (drop i cs))
  where
    no_more : (ds : List ColumnTerm) → walk ds kept [] ≡ Some kept
    no_more [] = refl
    no_more (d ∷ ds) = refl

pub whole : (columns : List ColumnTerm) (terms : List Term) (row : List Value) → columns ≡ prepared_columns [] (terms_of columns) → terms_of columns ≡ terms → length row ≡ length terms → walk columns [] row ≡ matched_row terms row
whole columns terms row e f l = ap (λ cs. walk cs [] row) e ∙ (ap (λ ts. walk (prepared_columns [] ts) [] row) f ∙ walk_matches terms row l)

pub kept_fits : (columns : List ColumnTerm) (row out : List Value) → walk columns [] row ≡ Some out → FitsRow row → FitsRow out
kept_fits columns row out e f =
    let h : EachFits (0 + length row) (Some out) = subst (EachFits (0 + length row)) e (walk_fits columns [] row tt f.each) in
    record { short = (let i = h.1 in let j = f.short in omega (arith, i, j)); each = h.0 }
