-- A variable that stands a second time: it must agree with what is kept, and adds nothing.
use Rattle.std.proofs.Common.{◌≡◌, ℕ, Bool, true, false, cond, ◌&&◌, ◌==◌, not, List, [], ◌∷◌, ◌++◌, filter, length, Option, Some, None, refl, sym, ap, ap₂, ◌∙◌}
use Rattle.std.specs.List.{list_all}
use Rattle.std.specs.Option.{is_some}
use Rattle.std.proofs.lemmas.Bool.{eqb-true, false≢true, and_parts}
use Rattle.answer_theory.specs.Bindings.{Binding, IsSound, agree, meet, consistent, has_entry, value_of, first_entries}
use Rattle.answer_theory.specs.Solutions.{names}
use Rattle.answer_theory.specs.Rows.{over, AreDistinct, both_join}
use Rattle.answer_theory.proofs.Bindings.{first_entries_append, bound_first_entries, consistent_append, meet_sym}
use Rattle.answer_theory.proofs.Bools.{and_true, and_false, nat_eq_self}
use Rattle.answer_theory.proofs.Lists.{filter_alike, filter_filter}
use Rattle.answer_theory.proofs.Rows.{over_meet}

-- ---- it adds nothing

pub first_entries_again : {X : Type 0} (bs : Binding X) (v : ℕ) (x : X) (cs : Binding X) → has_entry bs v ≡ true → first_entries (bs ++ (v, x) ∷ cs) ≡ first_entries (bs ++ cs)
first_entries_again {X} bs v x cs e =
    first_entries_append bs ((v, x) ∷ cs)
    ∙ ap (λ t. first_entries bs ++ cond (not t) ((v, x) ∷ rest) rest) has
    ∙ ap (λ l. first_entries bs ++ l) (filter_filter (λ c. not (has_entry (first_entries bs) c.0)) (λ c. not (c.0 == v)) (first_entries cs) ∙ filter_alike _ _ alike (first_entries cs))
    ∙ sym (first_entries_append bs cs)
  where
    rest : Binding X
    rest = filter (λ c. not (has_entry (first_entries bs) c.0)) (filter (λ c. not (c.0 == v)) (first_entries cs))

    has : has_entry (first_entries bs) v ≡ true
    has = bound_first_entries bs v ∙ e

    differs : (w : ℕ) (t : Bool) → (w == v) ≡ t → (not t && not (has_entry (first_entries bs) w)) ≡ not (has_entry (first_entries bs) w)
    differs w true i = sym (ap (λ u. not (has_entry (first_entries bs) u)) (eqb-true w v i) ∙ ap not has)
    differs w false i = refl

    alike : (c : ℕ × X) → (not (c.0 == v) && not (has_entry (first_entries bs) c.0)) ≡ not (has_entry (first_entries bs) c.0)
    alike c = differs c.0 (c.0 == v) refl

-- ---- it must agree

found_same : {X : Type 0} (joins : X → X → Bool) → IsSound joins → (x : X) (o : Option X) → both_join joins (Some x) o ≡ true → o ≡ Some x
found_same joins s x None e = absurd (false≢true e)
found_same joins s x (Some y) e = ap Some (sym (s x y e))

-- the one entry of the variable stands for it against further entries
met_one : {X : Type 0} (joins : X → X → Bool) (v : ℕ) (x : X) (bs cs : Binding X) → value_of bs v ≡ Some x → meet joins bs cs ≡ true → list_all (agree joins (v, x)) cs ≡ true
met_one joins v x [] cs e m = absurd (false≢true (ap is_some e))
met_one {X} joins v x (b ∷ bs) cs e m = go (b.0 == v) refl e (and_parts (list_all (agree joins b) cs) (meet joins bs cs) m) (met_one joins v x bs cs)
  where
    same : Some b.1 ≡ Some x → b.1 ≡ x
    same i = cc i

    go : (t : Bool) → (b.0 == v) ≡ t → cond t (Some b.1) (value_of bs v) ≡ Some x → (list_all (agree joins b) cs ≡ true) × (meet joins bs cs ≡ true)
        → (value_of bs v ≡ Some x → meet joins bs cs ≡ true → list_all (agree joins (v, x)) cs ≡ true) → list_all (agree joins (v, x)) cs ≡ true
    go true i h p ih = ap₂ (λ w y. list_all (agree {X = X} joins (w, y)) cs) (sym (eqb-true b.0 v i)) (sym (same h)) ∙ p.0
    go false i h p ih = ih h p.1

-- one entry meets a row by the variable's value in it
one_meets : {X : Type 0} (joins : X → X → Bool) (us : List ℕ) (row : List X) (v : ℕ) (x : X) → AreDistinct us → length row ≡ length us → names us v ≡ true
    → list_all (agree joins (v, x)) (over us row) ≡ both_join joins (Some x) (value_of (over us row) v)
one_meets {X} joins us row v x d e n =
    sym (and_true _)
    ∙ over_meet joins (v ∷ []) us (x ∷ []) row (refl, tt) d refl e
    ∙ ap (λ t. list_all (λ w. both_join joins (value_of ((v, x) ∷ []) w) (value_of (over us row) w)) (cond t (v ∷ []) [])) n
    ∙ and_true _
    ∙ ap (λ t. both_join joins (cond t (Some x) None) (value_of (over us row) v)) (nat_eq_self v)

shuffled : (p q r j m : Bool) → (j ≡ true → m ≡ true → q ≡ true) → ((p && (q && r)) && (j && m)) ≡ (j && ((p && r) && m))
shuffled false q r j m h = sym (and_false j)
shuffled true q r false m h = and_false (q && r)
shuffled true q r true false h = and_false (q && r) ∙ sym (and_false r)
shuffled true q r true true h = ap (λ t. (t && r) && true) (h refl refl)

pub consistent_again : {X : Type 0} (joins : X → X → Bool) → IsSound joins → (us : List ℕ) (row : List X) (v : ℕ) (x : X) (cs : Binding X) → AreDistinct us → length row ≡ length us → names us v ≡ true
    → consistent joins (over us row ++ (v, x) ∷ cs) ≡ (both_join joins (Some x) (value_of (over us row) v) && consistent joins (over us row ++ cs))
consistent_again {X} joins s us row v x cs d e n =
    consistent_append joins bs ((v, x) ∷ cs)
    ∙ ap (λ t. (consistent joins bs && (list_all (agree joins (v, x)) cs && consistent joins cs)) && t) (meet_sym joins s bs ((v, x) ∷ cs) ∙ ap (λ t. t && meet joins cs bs) (one_meets joins us row v x d e n))
    ∙ shuffled (consistent joins bs) (list_all (agree joins (v, x)) cs) (consistent joins cs) (both_join joins (Some x) (value_of bs v)) (meet joins cs bs)
    (λ j m. met_one joins v x bs cs (found_same joins s x (value_of bs v) j) (meet_sym joins s bs cs ∙ m))
    ∙ ap (λ t. both_join joins (Some x) (value_of bs v) && t) (sym (consistent_append joins bs cs ∙ ap (λ t. (consistent joins bs && consistent joins cs) && t) (meet_sym joins s bs cs)))
  where
    bs : Binding X
    bs = over us row
