-- The laws that lead from rows of values to bindings.
use Rattle.std.proofs.Common.{◌≡◌, ℕ, suc, ◌+◌, Bool, true, false, cond, not, ◌&&◌, ◌||◌, ◌==◌, List, [], ◌∷◌, ◌++◌, filter, length, Option, Some, None, refl, sym, ap, ap₂, ◌∙◌, subst, length-append, arith}
use Rattle.std.specs.List.{list_all}
use Rattle.std.proofs.lemmas.Bool.{eqb-true, true≢false, false≢true, or_parts, or_right, and_from, and_parts}
use Rattle.answer_theory.specs.Bindings.{Binding, IsSound, agree, meet, has_entry, value_of, first_entries, glue}
use Rattle.answer_theory.specs.Solutions.{names, key}
use Rattle.answer_theory.specs.Trees.{IsRowOf}
use Rattle.answer_theory.specs.Rows.{over, values, AreDistinct, glued_variables, lacked_values, first_occurrences, binding_variables, shared_variables, both_join}
use Rattle.answer_theory.proofs.Bools.{nat_eq_sym, nat_eq_self, and_true}
use Rattle.answer_theory.proofs.Lists.{filter_alike, any_append}

-- ---- a row over its variables

shorter : {X : Type 0} (v : ℕ) (vs : List ℕ) (x : X) (row : List X) → length (x ∷ row) ≡ length (v ∷ vs) → length row ≡ length vs
shorter v vs x row e = let d : suc (length row) ≡ suc (length vs) = e in omega (arith, d)

pub over_values : {X : Type 0} (vs : List ℕ) (row : List X) → length row ≡ length vs → values (over vs row) ≡ row
over_values [] [] e = refl
over_values [] (x ∷ row) e = absurd (let d : suc (length row) ≡ 0 = e in omega (arith, d))
over_values (v ∷ vs) [] e = refl
over_values (v ∷ vs) (x ∷ row) e = ap (λ l. x ∷ l) (over_values vs row (shorter v vs x row e))

pub over_bound : {X : Type 0} (vs : List ℕ) (row : List X) (w : ℕ) → length row ≡ length vs → has_entry (over vs row) w ≡ names vs w
over_bound [] row w e = refl
over_bound (v ∷ vs) [] w e = absurd (let d : 0 ≡ suc (length vs) = e in omega (arith, d))
over_bound (v ∷ vs) (x ∷ row) w e = ap (λ t. (v == w) || t) (over_bound vs row w (shorter v vs x row e))

-- a variable that isn't named here has no entry, whatever the row
unbound_over : {X : Type 0} (vs : List ℕ) (row : List X) (w : ℕ) → names vs w ≡ false → has_entry (over vs row) w ≡ false
unbound_over [] row w e = refl
unbound_over (v ∷ vs) [] w e = refl
unbound_over (v ∷ vs) (x ∷ row) w e = go (v == w) e (unbound_over vs row w)
  where
    go : (t : Bool) → (t || names vs w) ≡ false → (names vs w ≡ false → has_entry (over vs row) w ≡ false) → (t || has_entry (over vs row) w) ≡ false
    go true h ih = h
    go false h ih = ih h

-- entries of another variable are all kept
pub keeps_others : {X : Type 0} (v : ℕ) (bs : Binding X) → has_entry bs v ≡ false → filter (λ c. not (c.0 == v)) bs ≡ bs
keeps_others v [] e = refl
keeps_others v (b ∷ bs) e = go (b.0 == v) e (keeps_others v bs)
  where
    go : (t : Bool) → (t || has_entry bs v) ≡ false → (has_entry bs v ≡ false → filter (λ c. not (c.0 == v)) bs ≡ bs) → cond (not t) (b ∷ filter (λ c. not (c.0 == v)) bs) (filter (λ c. not (c.0 == v)) bs) ≡ b ∷ bs
    go true h ih = absurd (true≢false h)
    go false h ih = ap (λ l. b ∷ l) (ih h)

pub over_once : {X : Type 0} (vs : List ℕ) (row : List X) → AreDistinct vs → first_entries (over vs row) ≡ over vs row
over_once [] row h = refl
over_once (v ∷ vs) [] h = refl
over_once (v ∷ vs) (x ∷ row) h = ap (λ l. (v, x) ∷ l) (ap (filter (λ c. not (c.0 == v))) (over_once vs row h.1) ∙ keeps_others v (over vs row) (unbound_over vs row v h.0))

pub over_is_row : {X : Type 0} (vs : List ℕ) (row : List X) → AreDistinct vs → length row ≡ length vs → IsRowOf vs (over vs row)
over_is_row vs row h e = record { binds = λ w i. over_bound vs row w e ∙ i; once = over_once vs row h }

-- ---- glued rows

filtered_over : {X : Type 0} (us vs : List ℕ) (row : List X) → filter (λ c. not (names us c.0)) (over vs row) ≡ over (filter (λ v. not (names us v)) vs) (lacked_values us vs row)
filtered_over us [] row = refl
filtered_over {X} us (v ∷ vs) [] = nothing (filter (λ w. not (names us w)) (v ∷ vs))
  where
    nothing : (ws : List ℕ) → [] ≡ over {X = X} ws []
    nothing [] = refl
    nothing (w ∷ ws) = refl
filtered_over us (v ∷ vs) (x ∷ row) = go (names us v) (filtered_over us vs row)
  where
    go : (t : Bool) → filter (λ c. not (names us c.0)) (over vs row) ≡ over (filter (λ w. not (names us w)) vs) (lacked_values us vs row)
        → cond (not t) ((v, x) ∷ filter (λ c. not (names us c.0)) (over vs row)) (filter (λ c. not (names us c.0)) (over vs row))
        ≡ over (cond (not t) (v ∷ filter (λ w. not (names us w)) vs) (filter (λ w. not (names us w)) vs)) (cond t (lacked_values us vs row) (x ∷ lacked_values us vs row))
    go true ih = ih
    go false ih = ap (λ l. (v, x) ∷ l) ih

over_append : {X : Type 0} (us vs : List ℕ) (l r : List X) → length l ≡ length us → over (us ++ vs) (l ++ r) ≡ over us l ++ over vs r
over_append [] vs [] r e = refl
over_append [] vs (x ∷ l) r e = absurd (let d : suc (length l) ≡ 0 = e in omega (arith, d))
over_append (u ∷ us) vs [] r e = absurd (let d : 0 ≡ suc (length us) = e in omega (arith, d))
over_append (u ∷ us) vs (x ∷ l) r e = ap (λ b. (u, x) ∷ b) (over_append us vs l r (shorter u us x l e))

pub over_glue : {X : Type 0} (us vs : List ℕ) (l r : List X) → length l ≡ length us → glue (over us l) (over vs r) ≡ over (glued_variables us vs) (l ++ lacked_values us vs r)
over_glue us vs l r e =
    ap (λ bs. over us l ++ bs) (filter_alike _ _ (λ c. ap not (over_bound us l c.0 e)) (over vs r) ∙ filtered_over us vs r)
    ∙ sym (over_append us (filter (λ v. not (names us v)) vs) l (lacked_values us vs r) e)

-- ---- rows that meet

-- one entry against a row in which each variable stands once
agree_once : {X : Type 0} (joins : X → X → Bool) (b : ℕ × X) (vs : List ℕ) (row : List X) → AreDistinct vs
    → list_all (agree joins b) (over vs row) ≡ (not (has_entry (over vs row) b.0) || both_join joins (Some b.1) (value_of (over vs row) b.0))
agree_once joins b [] row h = refl
agree_once joins b (v ∷ vs) [] h = refl
agree_once joins b (v ∷ vs) (x ∷ row) h = go (b.0 == v) refl (v == b.0) refl (agree_once joins b vs row h.1)
  where
    go : (t : Bool) → (b.0 == v) ≡ t → (s : Bool) → (v == b.0) ≡ s
        → list_all (agree joins b) (over vs row) ≡ (not (has_entry (over vs row) b.0) || both_join joins (Some b.1) (value_of (over vs row) b.0))
        → ((not t || joins b.1 x) && list_all (agree joins b) (over vs row)) ≡ (not (s || has_entry (over vs row) b.0) || both_join joins (Some b.1) (cond s (Some x) (value_of (over vs row) b.0)))
    go true i true j ih = ap (λ t. joins b.1 x && t) (ih ∙ ap (λ t. not t || both_join joins (Some b.1) (value_of (over vs row) b.0)) (unbound_over vs row b.0 (ap (names vs) (eqb-true b.0 v i) ∙ h.0))) ∙ and_true (joins b.1 x)
    go true i false j ih = absurd (true≢false (sym i ∙ (nat_eq_sym b.0 v ∙ j)))
    go false i true j ih = absurd (true≢false (sym j ∙ (nat_eq_sym v b.0 ∙ i)))
    go false i false j ih = ih

value_at_head : {X : Type 0} (u : ℕ) (x : X) (bs : Binding X) → value_of ((u, x) ∷ bs) u ≡ Some x
value_at_head u x bs = ap (λ t. cond t (Some x) (value_of bs u)) (nat_eq_self u)

-- two tests that answer alike for other numbers answer alike on a list without that number
all_alike_in : (p q : ℕ → Bool) (vs : List ℕ) (u : ℕ) → ((v : ℕ) → (v == u) ≡ false → p v ≡ q v) → (ws : List ℕ) → names ws u ≡ false → list_all p (filter (λ w. names vs w) ws) ≡ list_all q (filter (λ w. names vs w) ws)
all_alike_in p q vs u h [] e = refl
all_alike_in p q vs u h (w ∷ ws) e = go (names vs w) (h w (or_parts (w == u) (names ws u) e).0) (all_alike_in p q vs u h ws (or_parts (w == u) (names ws u) e).1)
  where
    go : (t : Bool) → p w ≡ q w → list_all p (filter (λ v. names vs v) ws) ≡ list_all q (filter (λ v. names vs v) ws) → list_all p (cond t (w ∷ filter (λ v. names vs v) ws) (filter (λ v. names vs v) ws)) ≡ list_all q (cond t (w ∷ filter (λ v. names vs v) ws) (filter (λ v. names vs v) ws))
    go true i ih = ap₂ (λ s t. s && t) i ih
    go false i ih = ih

-- two rows meet where each shared variable has values that join
pub over_meet : {X : Type 0} (joins : X → X → Bool) (us vs : List ℕ) (l r : List X) → AreDistinct us → AreDistinct vs → length l ≡ length us → length r ≡ length vs
    → meet joins (over us l) (over vs r) ≡ list_all (λ v. both_join joins (value_of (over us l) v) (value_of (over vs r) v)) (shared_variables us vs)
over_meet joins [] vs l r hu hv el er = refl
over_meet joins (u ∷ us) vs [] r hu hv el er = absurd (let d : 0 ≡ suc (length us) = el in omega (arith, d))
over_meet {X} joins (u ∷ us) vs (x ∷ l) r hu hv el er =
    ap₂ (λ s t. s && t) (agree_once joins (u, x) vs r hv ∙ ap (λ t. not t || both_join joins (Some x) (value_of (over vs r) u)) (over_bound vs r u er)) (over_meet joins us vs l r hu.1 hv (shorter u us x l el) er)
    ∙ go (names vs u) (value_at_head u x (over us l))
  where
    rest_alike : (ws : List ℕ) → names ws u ≡ false → list_all (λ v. both_join joins (value_of (over us l) v) (value_of (over vs r) v)) (filter (λ w. names vs w) ws)
        ≡ list_all (λ v. both_join joins (value_of ((u, x) ∷ over us l) v) (value_of (over vs r) v)) (filter (λ w. names vs w) ws)
    rest_alike ws e = all_alike_in (λ v. both_join joins (value_of (over us l) v) (value_of (over vs r) v)) (λ v. both_join joins (value_of ((u, x) ∷ over us l) v) (value_of (over vs r) v)) vs u
        (λ v i. ap (λ t. both_join joins (cond t (Some x) (value_of (over us l) v)) (value_of (over vs r) v)) (sym (nat_eq_sym u v ∙ i))) ws e

    go : (t : Bool) → value_of ((u, x) ∷ over us l) u ≡ Some x
        → ((not t || both_join joins (Some x) (value_of (over vs r) u)) && list_all (λ v. both_join joins (value_of (over us l) v) (value_of (over vs r) v)) (shared_variables us vs))
        ≡ list_all (λ v. both_join joins (value_of ((u, x) ∷ over us l) v) (value_of (over vs r) v)) (cond t (u ∷ shared_variables us vs) (shared_variables us vs))
    go true e = ap₂ (λ s t. s && t) (ap (λ o. both_join joins o (value_of (over vs r) u)) (sym e)) (rest_alike us hu.0)
    go false e = rest_alike us hu.0

-- ---- keys

-- values that join are equal, and a value that joins with itself joins where it is equal
joined_values : {X : Type 0} (joins : X → X → Bool) → IsSound joins → (o p : Option X) → both_join joins o p ≡ true → o ≡ p
joined_values joins s None p e = absurd (false≢true e)
joined_values joins s (Some x) None e = absurd (false≢true e)
joined_values joins s (Some x) (Some y) e = ap Some (s x y e)

key_from_joined : {X : Type 0} (joins : X → X → Bool) → IsSound joins → (b c : Binding X) (vs : List ℕ) → list_all (λ v. both_join joins (value_of b v) (value_of c v)) vs ≡ true → key vs b ≡ key vs c
key_from_joined joins s b c [] e = refl
key_from_joined joins s b c (v ∷ vs) e = ap₂ (λ o os. o ∷ os)
    (joined_values joins s (value_of b v) (value_of c v) (and_parts (both_join joins (value_of b v) (value_of c v)) (list_all (λ w. both_join joins (value_of b w) (value_of c w)) vs) e).0)
    (key_from_joined joins s b c vs (and_parts (both_join joins (value_of b v) (value_of c v)) (list_all (λ w. both_join joins (value_of b w) (value_of c w)) vs) e).1)

-- rows that meet have one key
pub met_keys : {X : Type 0} (joins : X → X → Bool) → IsSound joins → (us vs : List ℕ) (l r : List X) → AreDistinct us → AreDistinct vs → length l ≡ length us → length r ≡ length vs
    → meet joins (over us l) (over vs r) ≡ true → key (shared_variables us vs) (over us l) ≡ key (shared_variables us vs) (over vs r)
met_keys joins s us vs l r hu hv el er m = key_from_joined joins s (over us l) (over vs r) (shared_variables us vs) (sym (over_meet joins us vs l r hu hv el er) ∙ m)

joined_key : {X : Type 0} (joins : X → X → Bool) → (b c : Binding X) (vs : List ℕ) → list_all (λ v. both_join joins (value_of b v) (value_of b v)) vs ≡ true → key vs b ≡ key vs c
    → list_all (λ v. both_join joins (value_of b v) (value_of c v)) vs ≡ true
joined_key joins b c [] h e = refl
joined_key joins b c (v ∷ vs) h e = and_from (both_join joins (value_of b v) (value_of c v)) (list_all (λ w. both_join joins (value_of b w) (value_of c w)) vs)
    (subst (λ o. both_join joins (value_of b v) o ≡ true) (first_same e) (and_parts (both_join joins (value_of b v) (value_of b v)) (list_all (λ w. both_join joins (value_of b w) (value_of b w)) vs) h).0)
    (joined_key joins b c vs (and_parts (both_join joins (value_of b v) (value_of b v)) (list_all (λ w. both_join joins (value_of b w) (value_of b w)) vs) h).1 (rest_same e))
  where
    first_same : value_of b v ∷ key vs b ≡ value_of c v ∷ key vs c → value_of b v ≡ value_of c v
    first_same i = cc i

    rest_same : value_of b v ∷ key vs b ≡ value_of c v ∷ key vs c → key vs b ≡ key vs c
    rest_same i = cc i

-- and rows of one key, whose values join with themselves, meet
pub keys_meet : {X : Type 0} (joins : X → X → Bool) (us vs : List ℕ) (l r : List X) → AreDistinct us → AreDistinct vs → length l ≡ length us → length r ≡ length vs
    → list_all (λ v. both_join joins (value_of (over us l) v) (value_of (over us l) v)) (shared_variables us vs) ≡ true
    → key (shared_variables us vs) (over us l) ≡ key (shared_variables us vs) (over vs r) → meet joins (over us l) (over vs r) ≡ true
keys_meet joins us vs l r hu hv el er h e = over_meet joins us vs l r hu hv el er ∙ joined_key joins (over us l) (over vs r) (shared_variables us vs) h e

-- ---- the variables of rows

pub over_named : {X : Type 0} (b : Binding X) → over (binding_variables b) (values b) ≡ b
over_named [] = refl
over_named (p ∷ b) = ap (λ l. p ∷ l) (over_named b)

pub named_over : {X : Type 0} (vs : List ℕ) (row : List X) → length row ≡ length vs → binding_variables (over vs row) ≡ vs
named_over [] row e = refl
named_over (v ∷ vs) [] e = absurd (let d : 0 ≡ suc (length vs) = e in omega (arith, d))
named_over (v ∷ vs) (x ∷ row) e = ap (λ l. v ∷ l) (named_over vs row (shorter v vs x row e))

named_others : {X : Type 0} (v : ℕ) (bs : Binding X) → binding_variables (filter (λ c. not (c.0 == v)) bs) ≡ filter (λ w. not (w == v)) (binding_variables bs)
named_others v [] = refl
named_others v (b ∷ bs) = go (b.0 == v) (named_others v bs)
  where
    go : (t : Bool) → binding_variables (filter (λ c. not (c.0 == v)) bs) ≡ filter (λ w. not (w == v)) (binding_variables bs)
        → binding_variables (cond (not t) (b ∷ filter (λ c. not (c.0 == v)) bs) (filter (λ c. not (c.0 == v)) bs)) ≡ cond (not t) (b.0 ∷ filter (λ w. not (w == v)) (binding_variables bs)) (filter (λ w. not (w == v)) (binding_variables bs))
    go true ih = ih
    go false ih = ap (λ l. b.0 ∷ l) ih

pub named_first_entries : {X : Type 0} (bs : Binding X) → binding_variables (first_entries bs) ≡ first_occurrences (binding_variables bs)
named_first_entries [] = refl
named_first_entries (b ∷ bs) = ap (λ l. b.0 ∷ l) (named_others b.0 (first_entries bs) ∙ ap (filter (λ w. not (w == b.0))) (named_first_entries bs))

names_filter_self : (v : ℕ) (vs : List ℕ) → names (filter (λ w. not (w == v)) vs) v ≡ false
names_filter_self v [] = refl
names_filter_self v (w ∷ vs) = go (w == v) refl (names_filter_self v vs)
  where
    go : (t : Bool) → (w == v) ≡ t → names (filter (λ u. not (u == v)) vs) v ≡ false → names (cond (not t) (w ∷ filter (λ u. not (u == v)) vs) (filter (λ u. not (u == v)) vs)) v ≡ false
    go true e ih = ih
    go false e ih = ap (λ t. t || names (filter (λ u. not (u == v)) vs) v) e ∙ ih

names_filter : (test : ℕ → Bool) (vs : List ℕ) (v : ℕ) → names vs v ≡ false → names (filter test vs) v ≡ false
names_filter test [] v e = refl
names_filter test (w ∷ vs) v e = go (test w) (or_parts (w == v) (names vs v) e).0 (names_filter test vs v (or_parts (w == v) (names vs v) e).1)
  where
    go : (t : Bool) → (w == v) ≡ false → names (filter test vs) v ≡ false → names (cond t (w ∷ filter test vs) (filter test vs)) v ≡ false
    go true i ih = ap (λ t. t || names (filter test vs) v) i ∙ ih
    go false i ih = ih

pub distinct_filter : (test : ℕ → Bool) (vs : List ℕ) → AreDistinct vs → AreDistinct (filter test vs)
distinct_filter test [] h = tt
distinct_filter test (v ∷ vs) h = go (test v) (names_filter test vs v h.0) (distinct_filter test vs h.1)
  where
    go : (t : Bool) → names (filter test vs) v ≡ false → AreDistinct (filter test vs) → AreDistinct (cond t (v ∷ filter test vs) (filter test vs))
    go true i ih = (i, ih)
    go false i ih = ih

pub each_once_distinct : (vs : List ℕ) → AreDistinct (first_occurrences vs)
each_once_distinct [] = tt
each_once_distinct (v ∷ vs) = (names_filter_self v (first_occurrences vs), distinct_filter (λ w. not (w == v)) (first_occurrences vs) (each_once_distinct vs))

-- ---- the variables of glued rows

lacks_names : (us vs : List ℕ) (u : ℕ) → names us u ≡ true → names (filter (λ v. not (names us v)) vs) u ≡ false
lacks_names us [] u e = refl
lacks_names us (v ∷ vs) u e = go (names us v) refl (lacks_names us vs u e)
  where
    differs : (t : Bool) → (v == u) ≡ t → names us v ≡ false → t ≡ false
    differs true i h = sym e ∙ (ap (names us) (sym (eqb-true v u i)) ∙ h)
    differs false i h = refl

    go : (t : Bool) → names us v ≡ t → names (filter (λ w. not (names us w)) vs) u ≡ false → names (cond (not t) (v ∷ filter (λ w. not (names us w)) vs) (filter (λ w. not (names us w)) vs)) u ≡ false
    go true h ih = ih
    go false h ih = ap (λ t. t || names (filter (λ w. not (names us w)) vs) u) (differs (v == u) refl h) ∙ ih

append_distinct : (us vs : List ℕ) → AreDistinct us → AreDistinct vs → ((u : ℕ) → names us u ≡ true → names vs u ≡ false) → AreDistinct (us ++ vs)
append_distinct [] vs hu hv h = hv
append_distinct (u ∷ us) vs hu hv h = (
  any_append (λ w. w == u) us vs ∙ (ap (λ t. t || names vs u) hu.0 ∙ h u (ap (λ t. t || names us u) (nat_eq_self u))),
  append_distinct us vs hu.1 hv (λ w e. h w (or_right (u == w) (names us w) e)),
)

pub glued_distinct : (us vs : List ℕ) → AreDistinct us → AreDistinct vs → AreDistinct (glued_variables us vs)
glued_distinct us vs hu hv = append_distinct us (filter (λ v. not (names us v)) vs) hu (distinct_filter (λ v. not (names us v)) vs hv) (lacks_names us vs)

pub lacked_length : {X : Type 0} (us vs : List ℕ) (row : List X) → length row ≡ length vs → length (lacked_values us vs row) ≡ length (filter (λ v. not (names us v)) vs)
lacked_length us [] row e = refl
lacked_length us (v ∷ vs) [] e = absurd (let d : 0 ≡ suc (length vs) = e in omega (arith, d))
lacked_length us (v ∷ vs) (x ∷ row) e = go (names us v) (lacked_length us vs row (shorter v vs x row e))
  where
    go : (t : Bool) → length (lacked_values us vs row) ≡ length (filter (λ w. not (names us w)) vs) → length (cond t (lacked_values us vs row) (x ∷ lacked_values us vs row)) ≡ length (cond (not t) (v ∷ filter (λ w. not (names us w)) vs) (filter (λ w. not (names us w)) vs))
    go true ih = ih
    go false ih = ap suc ih

pub glued_length : {X : Type 0} (us vs : List ℕ) (l r : List X) → length l ≡ length us → length r ≡ length vs → length (l ++ lacked_values us vs r) ≡ length (glued_variables us vs)
glued_length us vs l r el er = length-append l (lacked_values us vs r) ∙ (ap₂ (λ m n. m + n) el (lacked_length us vs r er) ∙ sym (length-append us (filter (λ v. not (names us v)) vs)))
