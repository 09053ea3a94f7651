-- The head's values of entries that are bound.
use Rattle.std.proofs.Common.{◌≡◌, ℕ, ◌≤◌, Bool, true, false, cond, ◌==◌, List, [], ◌∷◌, ◌++◌, length, drop, Option, Some, None, IfSome, sym, ap, subst, ◌∙◌, append-nil, arith}
use Rattle.std.specs.List.{AllByRecursion, filter_map, cons_option}
use Rattle.std.proofs.lemmas.List.{drop_all}
use Rattle.answer_theory.specs.Bindings.{Binding, value_of}
use Rattle.tuple_core.specs.Values.{FitsValue, FitsRow, most_values}
use Rattle.tuple_core.specs.declared.value.Value.{Value}

value_fits : (b : Binding Value) → AllByRecursion (λ p. FitsValue p.1) b → (v : ℕ) → IfSome (value_of b v) FitsValue
value_fits [] all v = tt
value_fits (p ∷ b) all v = go (p.0 == v) (value_fits b all.1 v)
  where
    go : (t : Bool) → IfSome (value_of b v) FitsValue → IfSome (cond t (Some p.1) (value_of b v)) FitsValue
    go true ih = all.0
    go false ih = ih

head_fits : (b : Binding Value) → AllByRecursion (λ p. FitsValue p.1) b → (vs : List ℕ) → (length (filter_map (value_of b) vs) ≤ length vs) × AllByRecursion FitsValue (filter_map (value_of b) vs)
head_fits b all [] = (omega arith, tt)
head_fits b all (v ∷ vs) = go (value_of b v) (value_fits b all v) (head_fits b all vs)
  where
    go : (o : Option Value) → IfSome o FitsValue → (length (filter_map (value_of b) vs) ≤ length vs) × AllByRecursion FitsValue (filter_map (value_of b) vs)
        → (length (cons_option o (filter_map (value_of b) vs)) ≤ length (v ∷ vs)) × AllByRecursion FitsValue (cons_option o (filter_map (value_of b) vs))
    go None f ih = (let i = ih.0 in omega (arith, i), ih.1)
    go (Some x) f ih = (let i = ih.0 in omega (arith, i), (f, ih.1))

-- a value that is found is within its limits
pub found_fits : (b : Binding Value) → AllByRecursion (λ p. FitsValue p.1) b → (v : ℕ) (x : Value) → Some x ≡ value_of b v → FitsValue x
found_fits b all v x e = subst (λ o. IfSome o FitsValue) (sym e) (value_fits b all v)

-- the values that were taken are a row, once none of the head's variables is left
pub row_fits : (b : Binding Value) (vs : List ℕ) (xs : List Value) (k : ℕ) → AllByRecursion (λ p. FitsValue p.1) b → length vs ≤ most_values → length vs ≤ k
    → xs ++ filter_map (value_of b) (drop k vs) ≡ filter_map (value_of b) vs → FitsRow xs
row_fits b vs xs k all short done e =
    let whole : xs ≡ filter_map (value_of b) vs = sym (append-nil xs) ∙ ap (λ ws. xs ++ filter_map (value_of b) ws) (sym (drop_all k vs done)) ∙ e in
    rw whole (record { short = (let i = (head_fits b all vs).0 in omega (arith, i, short)); each = (head_fits b all vs).1 })
