-- The laws of bindings.
use Rattle.std.proofs.Common.{◌≡◌, ℕ, Bool, true, false, cond, not, ◌&&◌, ◌||◌, ◌==◌, [], ◌∷◌, ◌++◌, filter, Some, None, refl, sym, ap, ◌∙◌, subst}
use Rattle.std.specs.List.{list_all}
use Rattle.std.proofs.Common.{ap₂}
use Rattle.std.proofs.lemmas.Bool.{eqb-true, eq-eqb, true≢false, false≢true, or_parts, and_parts, and_from}
use Rattle.answer_theory.specs.Bindings.{Binding, IsSound, agree, meet, consistent, has_entry, value_of, first_entries, glue}
use Rattle.answer_theory.proofs.Bools.{and_true, and_false, same_tests, nat_eq_sym, and_under}
use Rattle.answer_theory.proofs.Lists.{filter_comm, all_filter, all_kept, filter_append, filter_alike, filter_filter, all_append, all_alike, all_exchange, all_and, any_append}

-- ---- agreement

pub joins_sym : {X : Type 0} (joins : X → X → Bool) → IsSound joins → (x y : X) → joins x y ≡ true → joins y x ≡ true
joins_sym joins s x y e = subst (λ z. joins z x ≡ true) (s x y e) (subst (λ z. joins x z ≡ true) (sym (s x y e)) e)

pub agree_sym : {X : Type 0} (joins : X → X → Bool) → IsSound joins → (b c : ℕ × X) → agree joins b c ≡ agree joins c b
agree_sym joins s b c = ap (λ t. not t || joins b.1 c.1) (nat_eq_sym b.0 c.0) ∙ ap (λ t. not (c.0 == b.0) || t) (same_tests (joins b.1 c.1) (joins c.1 b.1) (joins_sym joins s b.1 c.1) (joins_sym joins s c.1 b.1))

pub meet_sym : {X : Type 0} (joins : X → X → Bool) → IsSound joins → (bs cs : Binding X) → meet joins bs cs ≡ meet joins cs bs
meet_sym joins s bs cs = all_exchange (agree joins) bs cs ∙ all_alike _ _ (λ c. all_alike _ _ (λ b. agree_sym joins s b c) bs) cs

pub meet_append_left : {X : Type 0} (joins : X → X → Bool) (bs cs ds : Binding X) → meet joins (bs ++ cs) ds ≡ (meet joins bs ds && meet joins cs ds)
meet_append_left joins bs cs ds = all_append (λ b. list_all (agree joins b) ds) bs cs

pub meet_append_right : {X : Type 0} (joins : X → X → Bool) (bs cs ds : Binding X) → meet joins bs (cs ++ ds) ≡ (meet joins bs cs && meet joins bs ds)
meet_append_right joins bs cs ds = all_alike _ _ (λ b. all_append (agree joins b) cs ds) bs ∙ all_and (λ b. list_all (agree joins b) cs) (λ b. list_all (agree joins b) ds) bs

pub consistent_append : {X : Type 0} (joins : X → X → Bool) → (bs cs : Binding X) → consistent joins (bs ++ cs) ≡ ((consistent joins bs && consistent joins cs) && meet joins bs cs)
consistent_append joins [] cs = sym (and_true (consistent joins cs))
consistent_append joins (b ∷ bs) cs =
    ap (λ t. t && consistent joins (bs ++ cs)) (all_append (agree joins b) bs cs)
    ∙ (ap (λ t. (list_all (agree joins b) bs && list_all (agree joins b) cs) && t) (consistent_append joins bs cs)
    ∙ shuffle (list_all (agree joins b) bs) (list_all (agree joins b) cs) (consistent joins bs) (consistent joins cs) (meet joins bs cs))
  where
    shuffle : (p q r s m : Bool) → ((p && q) && ((r && s) && m)) ≡ (((p && r) && s) && (q && m))
    shuffle true true r s m = refl
    shuffle true false true true m = refl
    shuffle true false true false m = refl
    shuffle true false false s m = refl
    shuffle false q r s m = refl

-- ---- values

pub bound_append : {X : Type 0} (bs cs : Binding X) (v : ℕ) → has_entry (bs ++ cs) v ≡ (has_entry bs v || has_entry cs v)
bound_append bs cs v = any_append (λ b. b.0 == v) bs cs

pub value_of_append : {X : Type 0} → (bs cs : Binding X) (v : ℕ) → value_of (bs ++ cs) v ≡ cond (has_entry bs v) (value_of bs v) (value_of cs v)
value_of_append [] cs v = refl
value_of_append (b ∷ bs) cs v = go (b.0 == v) (value_of_append bs cs v)
  where
    go : (t : Bool) → value_of (bs ++ cs) v ≡ cond (has_entry bs v) (value_of bs v) (value_of cs v)
        → cond t (Some b.1) (value_of (bs ++ cs) v) ≡ cond (t || has_entry bs v) (cond t (Some b.1) (value_of bs v)) (value_of cs v)
    go true ih = refl
    go false ih = ih

-- entries of other variables don't count
pub value_of_filter : {X : Type 0} (test : ℕ → Bool) → (bs : Binding X) (v : ℕ) → test v ≡ true → value_of (filter (λ c. test c.0) bs) v ≡ value_of bs v
value_of_filter test [] v e = refl
value_of_filter test (b ∷ bs) v e = go (test b.0) refl (b.0 == v) refl (value_of_filter test bs v e)
  where
    go : (t : Bool) → test b.0 ≡ t → (s : Bool) → (b.0 == v) ≡ s → value_of (filter (λ c. test c.0) bs) v ≡ value_of bs v
        → value_of (cond t (b ∷ filter (λ c. test c.0) bs) (filter (λ c. test c.0) bs)) v ≡ cond s (Some b.1) (value_of bs v)
    go true h s k ih = ap (λ u. cond u (Some b.1) (value_of (filter (λ c. test c.0) bs) v)) k ∙ ap (λ w. cond s (Some b.1) w) ih
    go false h true k ih = absurd (true≢false (sym e ∙ (ap test (sym (eqb-true b.0 v k)) ∙ h)))
    go false h false k ih = ih

pub bound_filter : {X : Type 0} (test : ℕ → Bool) → (bs : Binding X) (v : ℕ) → test v ≡ true → has_entry (filter (λ c. test c.0) bs) v ≡ has_entry bs v
bound_filter test [] v e = refl
bound_filter test (b ∷ bs) v e = go (test b.0) refl (b.0 == v) refl (bound_filter test bs v e)
  where
    go : (t : Bool) → test b.0 ≡ t → (s : Bool) → (b.0 == v) ≡ s → has_entry (filter (λ c. test c.0) bs) v ≡ has_entry bs v
        → has_entry (cond t (b ∷ filter (λ c. test c.0) bs) (filter (λ c. test c.0) bs)) v ≡ (s || has_entry bs v)
    go true h s k ih = ap (λ u. u || has_entry (filter (λ c. test c.0) bs) v) k ∙ ap (λ w. s || w) ih
    go false h true k ih = absurd (true≢false (sym e ∙ (ap test (sym (eqb-true b.0 v k)) ∙ h)))
    go false h false k ih = ih

-- a variable that has no entry has no value
pub value_of_unbound : {X : Type 0} → (bs : Binding X) (v : ℕ) → has_entry bs v ≡ false → value_of bs v ≡ None
value_of_unbound [] v e = refl
value_of_unbound (b ∷ bs) v e = go (b.0 == v) refl (or_parts (b.0 == v) (has_entry bs v) e).0 (value_of_unbound bs v (or_parts (b.0 == v) (has_entry bs v) e).1)
  where
    go : (t : Bool) → (b.0 == v) ≡ t → (b.0 == v) ≡ false → value_of bs v ≡ None → cond t (Some b.1) (value_of bs v) ≡ None
    go true h k ih = absurd (true≢false (sym h ∙ k))
    go false h k ih = ih

-- ---- the first entries

-- the entries of the other variables
abbrev others : {X : Type 0} → ℕ × X → Binding X → Binding X
others b bs = filter (λ c. not (c.0 == b.0)) bs

other_is : (m v : ℕ) → (m == v) ≡ false → not (v == m) ≡ true
other_is m v e = ap not (nat_eq_sym v m ∙ e)

pub value_of_first_entries : {X : Type 0} → (bs : Binding X) (v : ℕ) → value_of (first_entries bs) v ≡ value_of bs v
value_of_first_entries [] v = refl
value_of_first_entries (b ∷ bs) v = go (b.0 == v) refl (value_of_first_entries bs v)
  where
    go : (t : Bool) → (b.0 == v) ≡ t → value_of (first_entries bs) v ≡ value_of bs v → cond t (Some b.1) (value_of (others b (first_entries bs)) v) ≡ cond t (Some b.1) (value_of bs v)
    go true e ih = refl
    go false e ih = value_of_filter (λ w. not (w == b.0)) (first_entries bs) v (other_is b.0 v e) ∙ ih

pub bound_first_entries : {X : Type 0} → (bs : Binding X) (v : ℕ) → has_entry (first_entries bs) v ≡ has_entry bs v
bound_first_entries [] v = refl
bound_first_entries (b ∷ bs) v = go (b.0 == v) refl (bound_first_entries bs v)
  where
    go : (t : Bool) → (b.0 == v) ≡ t → has_entry (first_entries bs) v ≡ has_entry bs v → (t || has_entry (others b (first_entries bs)) v) ≡ (t || has_entry bs v)
    go true e ih = refl
    go false e ih = bound_filter (λ w. not (w == b.0)) (first_entries bs) v (other_is b.0 v e) ∙ ih

-- the variables that neither b nor the others of bs bind
unbound_by_both : {X : Type 0} (b : ℕ × X) (bs : Binding X) (c : ℕ × X)
    → (not (has_entry bs c.0) && not (c.0 == b.0)) ≡ not (has_entry (b ∷ others b bs) c.0)
unbound_by_both b bs c = go (b.0 == c.0) refl
  where
    go : (t : Bool) → (b.0 == c.0) ≡ t → (not (has_entry bs c.0) && not (c.0 == b.0)) ≡ not (t || has_entry (others b bs) c.0)
    go true e = ap (λ u. not (has_entry bs c.0) && not u) (nat_eq_sym c.0 b.0 ∙ e) ∙ and_false (not (has_entry bs c.0))
    go false e = ap (λ u. not (has_entry bs c.0) && not u) (nat_eq_sym c.0 b.0 ∙ e) ∙ (and_true (not (has_entry bs c.0))
        ∙ ap not (sym (bound_filter (λ w. not (w == b.0)) bs c.0 (other_is b.0 c.0 e))))

pub first_entries_append : {X : Type 0} → (bs cs : Binding X) → first_entries (bs ++ cs) ≡ glue (first_entries bs) (first_entries cs)
first_entries_append {X} [] cs = sym (keeps_all (first_entries cs))
  where
    keeps_all : (ds : Binding X) → filter (λ c. true) ds ≡ ds
    keeps_all [] = refl
    keeps_all (d ∷ ds) = ap (λ l. d ∷ l) (keeps_all ds)
first_entries_append (b ∷ bs) cs = ap (λ l. b ∷ l) (
    ap (others b) (first_entries_append bs cs)
    ∙ (filter_append (λ c. not (c.0 == b.0)) (first_entries bs) (filter (λ c. not (has_entry (first_entries bs) c.0)) (first_entries cs))
    ∙ ap (λ l. others b (first_entries bs) ++ l) (filter_filter (λ c. not (c.0 == b.0)) (λ c. not (has_entry (first_entries bs) c.0)) (first_entries cs)
    ∙ filter_alike _ _ (λ c. unbound_by_both b (first_entries bs) c) (first_entries cs))))

pub first_entries_filter : {X : Type 0} (test : ℕ → Bool) → (bs : Binding X) → first_entries (filter (λ c. test c.0) bs) ≡ filter (λ c. test c.0) (first_entries bs)
first_entries_filter test [] = refl
first_entries_filter {X} test (b ∷ bs) = go (test b.0) refl (first_entries_filter test bs)
  where
    kept : (c : ℕ × X) (t : Bool) → test c.0 ≡ t → test b.0 ≡ false → (not (c.0 == b.0) && t) ≡ t
    kept c true e h = ap (λ u. not u && true) (same_tests (c.0 == b.0) false (λ k. sym (sym e ∙ (ap test (eqb-true c.0 b.0 k) ∙ h))) (λ k. absurd (false≢true k)))
    kept c false e h = and_false (not (c.0 == b.0))

    go : (t : Bool) → test b.0 ≡ t → first_entries (filter (λ c. test c.0) bs) ≡ filter (λ c. test c.0) (first_entries bs)
        → first_entries (cond t (b ∷ filter (λ c. test c.0) bs) (filter (λ c. test c.0) bs)) ≡ cond t (b ∷ filter (λ c. test c.0) (others b (first_entries bs))) (filter (λ c. test c.0) (others b (first_entries bs)))
    go true e ih = ap (λ l. b ∷ l) (ap (others b) ih ∙ filter_comm (λ c. not (c.0 == b.0)) (λ c. test c.0) (first_entries bs))
    go false e ih = ih ∙ sym (filter_filter (λ c. test c.0) (λ c. not (c.0 == b.0)) (first_entries bs) ∙ filter_alike _ _ (λ c. kept c (test c.0) refl e) (first_entries bs))

pub first_entries_first_entries : {X : Type 0} → (bs : Binding X) → first_entries (first_entries bs) ≡ first_entries bs
first_entries_first_entries [] = refl
first_entries_first_entries (b ∷ bs) = ap (λ l. b ∷ l) (
    ap (others b) (first_entries_filter (λ w. not (w == b.0)) (first_entries bs))
    ∙ (filter_filter (λ c. not (c.0 == b.0)) (λ c. not (c.0 == b.0)) (first_entries (first_entries bs))
    ∙ (filter_alike _ _ (λ c. twice (not (c.0 == b.0))) (first_entries (first_entries bs))
    ∙ ap (others b) (first_entries_first_entries bs))))
  where
    twice : (t : Bool) → (t && t) ≡ t
    twice true = refl
    twice false = refl

-- ---- consistent rows

pub consistent_filter : {X : Type 0} (joins : X → X → Bool) (test : ℕ × X → Bool) → (bs : Binding X) → consistent joins bs ≡ true → consistent joins (filter test bs) ≡ true
consistent_filter joins test [] e = refl
consistent_filter joins test (b ∷ bs) e = go (test b) (and_parts (list_all (agree joins b) bs) (consistent joins bs) e).0 (consistent_filter joins test bs (and_parts (list_all (agree joins b) bs) (consistent joins bs) e).1)
  where
    go : (t : Bool) → list_all (agree joins b) bs ≡ true → consistent joins (filter test bs) ≡ true → consistent joins (cond t (b ∷ filter test bs) (filter test bs)) ≡ true
    go true h ih = and_from (list_all (agree joins b) (filter test bs)) (consistent joins (filter test bs)) (all_filter (agree joins b) test bs h) ih
    go false h ih = ih

-- a row in which each variable stands once is consistent
pub consistent_first_entries : {X : Type 0} (joins : X → X → Bool) → (bs : Binding X) → consistent joins (first_entries bs) ≡ true
consistent_first_entries joins [] = refl
consistent_first_entries joins (b ∷ bs) = and_from (list_all (agree joins b) (others b (first_entries bs))) (consistent joins (others b (first_entries bs)))
    (all_kept (agree joins b) (λ c. not (c.0 == b.0)) (λ c e. ap (λ t. t || joins b.1 c.1) (ap not (nat_eq_sym b.0 c.0) ∙ e)) (first_entries bs))
    (consistent_filter joins (λ c. not (c.0 == b.0)) (first_entries bs) (consistent_first_entries joins bs))

-- entries that are left out because an agreeing one stands before them
all_but_equal : {X : Type 0} (joins : X → X → Bool) → IsSound joins → (p : ℕ × X → Bool) (b : ℕ × X) → p b ≡ true
    → (cs : Binding X) → list_all (agree joins b) cs ≡ true → list_all p (others b cs) ≡ list_all p cs
all_but_equal joins s p b h [] e = refl
all_but_equal joins s p b h (c ∷ cs) e = go (c.0 == b.0) refl (and_parts (agree joins b c) (list_all (agree joins b) cs) e).0 (all_but_equal joins s p b h cs (and_parts (agree joins b c) (list_all (agree joins b) cs) e).1)
  where
    joined_there : (t : Bool) → (b.0 == c.0) ≡ t → t ≡ true → (not t || joins b.1 c.1) ≡ true → joins b.1 c.1 ≡ true
    joined_there true i j k = k
    joined_there false i j k = absurd (false≢true j)

    go : (t : Bool) → (c.0 == b.0) ≡ t → agree joins b c ≡ true → list_all p (others b cs) ≡ list_all p cs
        → list_all p (cond (not t) (c ∷ others b cs) (others b cs)) ≡ (p c && list_all p cs)
    go true i a ih = ih ∙ sym (ap (λ t. t && list_all p cs) (
        ap₂ (λ m x. p (m, x)) (eqb-true c.0 b.0 i) (sym (s b.1 c.1 (joined_there (b.0 == c.0) refl (nat_eq_sym b.0 c.0 ∙ i) a))) ∙ h))
    go false i a ih = ap (λ t. p c && t) ih

pub all_first_entries : {X : Type 0} (joins : X → X → Bool) → IsSound joins → (bs : Binding X) → consistent joins bs ≡ true → (p : ℕ × X → Bool) → list_all p (first_entries bs) ≡ list_all p bs
all_first_entries joins s [] e p = refl
all_first_entries joins s (b ∷ bs) e p = and_under (p b) (list_all p (others b (first_entries bs))) (list_all p bs) (λ h.
    all_but_equal joins s p b h (first_entries bs) (all_first_entries joins s bs (and_parts (list_all (agree joins b) bs) (consistent joins bs) e).1 (agree joins b) ∙ (and_parts (list_all (agree joins b) bs) (consistent joins bs) e).0)
    ∙ all_first_entries joins s bs (and_parts (list_all (agree joins b) bs) (consistent joins bs) e).1 p)

pub meet_first_entries : {X : Type 0} (joins : X → X → Bool) → IsSound joins → (bs cs : Binding X) → consistent joins bs ≡ true → consistent joins cs ≡ true
    → meet joins (first_entries bs) (first_entries cs) ≡ meet joins bs cs
meet_first_entries joins s bs cs e h =
    all_alike _ _ (λ b. all_first_entries joins s cs h (agree joins b)) (first_entries bs)
    ∙ all_first_entries joins s bs e (λ b. list_all (agree joins b) cs)

-- ---- the value that rows which meet share

agreed_value : {X : Type 0} (joins : X → X → Bool) → IsSound joins → (b : ℕ × X) (v : ℕ) → (b.0 == v) ≡ true
    → (cs : Binding X) → list_all (agree joins b) cs ≡ true → has_entry cs v ≡ true → value_of cs v ≡ Some b.1
agreed_value joins s b v e [] a k = absurd (false≢true k)
agreed_value joins s b v e (c ∷ cs) a k = go (c.0 == v) refl k (and_parts (agree joins b c) (list_all (agree joins b) cs) a).0 (agreed_value joins s b v e cs (and_parts (agree joins b c) (list_all (agree joins b) cs) a).1)
  where
    equal_there : (t : Bool) → t ≡ true → (not t || joins b.1 c.1) ≡ true → joins b.1 c.1 ≡ true
    equal_there true j k = k
    equal_there false j k = absurd (false≢true j)

    go : (t : Bool) → (c.0 == v) ≡ t → (t || has_entry cs v) ≡ true → agree joins b c ≡ true → (has_entry cs v ≡ true → value_of cs v ≡ Some b.1) → cond t (Some c.1) (value_of cs v) ≡ Some b.1
    go true i j h ih = ap Some (sym (s b.1 c.1 (equal_there (b.0 == c.0) (eq-eqb b.0 c.0 (eqb-true b.0 v e ∙ sym (eqb-true c.0 v i))) h)))
    go false i j h ih = ih j

pub met_value : {X : Type 0} (joins : X → X → Bool) → IsSound joins → (bs cs : Binding X) (v : ℕ) → meet joins bs cs ≡ true → has_entry bs v ≡ true → has_entry cs v ≡ true → value_of bs v ≡ value_of cs v
met_value joins s [] cs v m h k = absurd (false≢true h)
met_value joins s (b ∷ bs) cs v m h k = go (b.0 == v) refl h (and_parts (list_all (agree joins b) cs) (meet joins bs cs) m).0 (λ j. met_value joins s bs cs v (and_parts (list_all (agree joins b) cs) (meet joins bs cs) m).1 j k)
  where
    go : (t : Bool) → (b.0 == v) ≡ t → (t || has_entry bs v) ≡ true → list_all (agree joins b) cs ≡ true → (has_entry bs v ≡ true → value_of bs v ≡ value_of cs v) → cond t (Some b.1) (value_of bs v) ≡ value_of cs v
    go true e j a ih = sym (agreed_value joins s b v e cs a k)
    go false e j a ih = ih j

pub value_of_glue : {X : Type 0} → (bs cs : Binding X) (v : ℕ) → value_of (glue bs cs) v ≡ cond (has_entry bs v) (value_of bs v) (value_of cs v)
value_of_glue bs cs v = value_of_append bs (filter (λ c. not (has_entry bs c.0)) cs) v ∙ go (has_entry bs v) refl
  where
    go : (t : Bool) → has_entry bs v ≡ t → cond t (value_of bs v) (value_of (filter (λ c. not (has_entry bs c.0)) cs) v) ≡ cond t (value_of bs v) (value_of cs v)
    go true e = refl
    go false e = value_of_filter (λ w. not (has_entry bs w)) cs v (ap not e)

pub bound_glue : {X : Type 0} → (bs cs : Binding X) (v : ℕ) → has_entry (glue bs cs) v ≡ (has_entry bs v || has_entry cs v)
bound_glue bs cs v = bound_append bs (filter (λ c. not (has_entry bs c.0)) cs) v ∙ go (has_entry bs v) refl
  where
    go : (t : Bool) → has_entry bs v ≡ t → (t || has_entry (filter (λ c. not (has_entry bs c.0)) cs) v) ≡ (t || has_entry cs v)
    go true e = refl
    go false e = bound_filter (λ w. not (has_entry bs w)) cs v (ap not e)

-- rows that meet give each variable the same value, whichever stands first
pub value_of_swapped : {X : Type 0} (joins : X → X → Bool) → IsSound joins → (bs cs : Binding X) (v : ℕ) → meet joins bs cs ≡ true → value_of (bs ++ cs) v ≡ value_of (cs ++ bs) v
value_of_swapped joins s bs cs v m = value_of_append bs cs v ∙ (go (has_entry bs v) refl (has_entry cs v) refl ∙ sym (value_of_append cs bs v))
  where
    go : (t : Bool) → has_entry bs v ≡ t → (u : Bool) → has_entry cs v ≡ u → cond t (value_of bs v) (value_of cs v) ≡ cond u (value_of cs v) (value_of bs v)
    go true e true h = met_value joins s bs cs v m e h
    go true e false h = refl
    go false e true h = refl
    go false e false h = value_of_unbound cs v h ∙ sym (value_of_unbound bs v e)
