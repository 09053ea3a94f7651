-- One more position that is looked at for the greedy next one.
use Rattle.std.proofs.Common.{◌≡◌, ℕ, ◌+◌, ◌<◌, ◌≤◌, ◌⊎◌, Bool, true, false, cond, ltb, Option, Some, None, List, length, get_or, sym, ◌∙◌, ap, subst, refl, inl, inr, arith}
use Rattle.std.proofs.lemmas.Bool.{both_ways, cases_eq, cases_order, ltb-true, ltb-false, false≢true, true≢false}
use Rattle.std.proofs.lemmas.Option.{slice_get-get_or, get_or_from_slice_get, slice_get_within}
use Rattle.std.specs.Prelude.{MatchOption, slice_get}
use Rattle.least_order.specs.declared.item.Item.{Item}
use Rattle.least_order.specs.Greedy.{IsTakenBefore, IsGreedyNext}
use Rattle.least_order.specs.Items.{touches}
use Rattle.least_order.specs.Merging.{joined_vars, has_variable_of, is_better_than}
use Rattle.least_order.specs.Search.{HasNoneLeft, IsGreedyBelow, IsGreedySoFar}
use Rattle.least_order.specs.Sets.{is_in, members}
use Rattle.least_order.proofs.BestSteps.{none_more}
use Rattle.least_order.proofs.Merges.{touches-whole}

-- the test, by whether each item shares a variable and by the counts
abbrev better : Bool → Bool → ℕ → ℕ → Bool
better shares shares' count count' = cond shares (cond shares' (ltb count count') true) (cond shares' false (ltb count count'))

better_yes : (shares shares' : Bool) (count count' : ℕ) → better shares shares' count count' ≡ true
    → ((shares ≡ true) × (shares' ≡ false)) ⊎ ((shares ≡ shares') × (count < count'))
better_yes true true count count' h = inr (refl, ltb-true count count' h)
better_yes true false count count' h = inl (refl, refl)
better_yes false true count count' h = absurd (false≢true h)
better_yes false false count count' h = inr (refl, ltb-true count count' h)

better_no : (shares shares' : Bool) (count count' : ℕ) → better shares shares' count count' ≡ false
    → ((shares' ≡ true) × (shares ≡ false)) ⊎ ((shares' ≡ shares) × (count' ≤ count))
better_no true true count count' h = inr (refl, ltb-false count count' h)
better_no true false count count' h = absurd (true≢false h)
better_no false true count count' h = inl (refl, refl)
better_no false false count count' h = inr (refl, ltb-false count count' h)

-- what is taken before an item is taken before all that come after that
before_all : (shares shares' shares'' : Bool) (count count' count'' position position' position'' : ℕ)
    → ((shares ≡ true) × (shares' ≡ false)) ⊎ ((shares ≡ shares') × (count < count'))
    → ((shares' ≡ true) × (shares'' ≡ false)) ⊎ ((shares' ≡ shares'') × ((count' < count'') ⊎ ((count' ≡ count'') × (position' < position''))))
    → ((shares ≡ true) × (shares'' ≡ false)) ⊎ ((shares ≡ shares'') × ((count < count'') ⊎ ((count ≡ count'') × (position < position''))))
before_all shares shares' shares'' count count' count'' position position' position'' (inl a) (inl b) = absurd (both_ways shares' a.1 b.0)
before_all shares shares' shares'' count count' count'' position position' position'' (inl a) (inr b) = inl (a.0, sym b.0 ∙ a.1)
before_all shares shares' shares'' count count' count'' position position' position'' (inr a) (inl b) = inl (a.0 ∙ b.0, b.1)
before_all shares shares' shares'' count count' count'' position position' position'' (inr a) (inr b) =
    inr (a.0 ∙ b.0, inl (elim b.1 [ inl less ↦ omega (arith, a.1, less) | inr same ↦ omega (arith, a.1, same.0) ]))

test_is : (vars : ℕ) (placed : List Item) (item other : Item) → vars ≡ joined_vars placed
    → is_better_than vars item other ≡ better (touches item placed) (touches other placed) item.count other.count
test_is vars placed item other is =
    ap (λ (b : Bool). better b (has_variable_of vars other) item.count other.count) (touches-whole item vars placed is)
    ∙ ap (λ (b : Bool). better (touches item placed) b item.count other.count) (touches-whole other vars placed is)

same_item : (items : List Item) (position : ℕ) (item other : Item) → slice_get items position ≡ Some item → slice_get items position ≡ Some other → item ≡ other
same_item items position item other a b = sym (get_or_from_slice_get items position item item a) ∙ get_or_from_slice_get items position other item b

no_more : (count count' position position' : ℕ) → count ≤ count' → position < position' → (count < count') ⊎ ((count ≡ count') × (position < position'))
no_more count count' position position' bound before = elim (cases_order count count') [
  | inl same ↦ inr (same, before)
  | inr apart ↦ elim apart [ inl less ↦ inl less | inr more ↦ absurd (omega (arith, more, bound)) ]
]

pub skip_greedy : (items : List Item) (placed count : ℕ) (best : Option ℕ) → is_in placed count ≡ true
    → IsGreedySoFar items placed count best → IsGreedySoFar items placed (count + 1) best
skip_greedy items placed count None here so_far = none_more count placed so_far here
skip_greedy items placed count (Some position) here so_far = record {
  item = so_far.item;
  is = so_far.is;
  within = let w : position < count = so_far.within in omega (arith, w);
  left = so_far.left;
  best = λ position' other below is left apart. elim (cases_eq position' count) [
    | inl same ↦ absurd (both_ways (is_in placed count) (subst (λ (p : ℕ). is_in placed p ≡ false) same left) here)
    | inr past ↦ so_far.best position' other (omega arith) is left apart
  ];
}

pub first_greedy : (items : List Item) (placed count : ℕ) (d : Item) → count < length items → is_in placed count ≡ false
    → HasNoneLeft count placed → IsGreedyBelow items placed (count + 1) count
first_greedy items placed count d within here none = record {
  item = get_or items count d;
  is = slice_get-get_or items count d within;
  within = omega arith;
  left = here;
  best = λ position' other below is left apart. absurd (both_ways (is_in placed position') left (none position' (omega arith)));
}

pub better_greedy : (items : List Item) (placed count vars position : ℕ) (d : Item) → count < length items → is_in placed count ≡ false
    → vars ≡ joined_vars (members items placed) → IsGreedyBelow items placed count position
    → is_better_than vars (get_or items count d) (get_or items position d) ≡ true → IsGreedyBelow items placed (count + 1) count
better_greedy items placed count vars position d within here is_vars so_far h =
    let first : get_or items position d ≡ so_far.item = get_or_from_slice_get items position so_far.item d so_far.is in
    let wins = better_yes (touches (get_or items count d) (members items placed)) (touches so_far.item (members items placed)) (get_or items count d).count so_far.item.count
    (sym (test_is vars (members items placed) (get_or items count d) so_far.item is_vars)
    ∙ ap (λ (x : Item). is_better_than vars (get_or items count d) x) (sym first) ∙ h) in
    record {
      item = get_or items count d;
      is = slice_get-get_or items count d within;
      within = omega arith;
      left = here;
      best = λ position' other below is left apart. elim (cases_eq position' position) [
        | inl same ↦ elim wins [
          | inl share ↦ inl (share.0, subst (λ (x : Item). touches x (members items placed) ≡ false) (same_item items position so_far.item other so_far.is (subst (λ (p : ℕ). slice_get items p ≡ Some other) same is)) share.1)
          | inr less ↦ inr (subst (λ (x : Item). (touches (get_or items count d) (members items placed) ≡ touches x (members items placed)) × (((get_or items count d).count < x.count) ⊎ (((get_or items count d).count ≡ x.count) × (count < position'))))
              (same_item items position so_far.item other so_far.is (subst (λ (p : ℕ). slice_get items p ≡ Some other) same is)) (less.0, inl less.1))
        ]
        | inr past ↦ before_all _ _ _ _ _ _ count position position' wins (so_far.best position' other (omega arith) is left past)
      ];
    }

pub keep_greedy : (items : List Item) (placed count vars position : ℕ) (d : Item) → count < length items
    → vars ≡ joined_vars (members items placed) → IsGreedyBelow items placed count position
    → is_better_than vars (get_or items count d) (get_or items position d) ≡ false → IsGreedyBelow items placed (count + 1) position
keep_greedy items placed count vars position d within is_vars so_far h =
    let first : get_or items position d ≡ so_far.item = get_or_from_slice_get items position so_far.item d so_far.is in
    let below_count : position < count = so_far.within in
    let loses = better_no (touches (get_or items count d) (members items placed)) (touches so_far.item (members items placed)) (get_or items count d).count so_far.item.count
    (sym (test_is vars (members items placed) (get_or items count d) so_far.item is_vars)
    ∙ ap (λ (x : Item). is_better_than vars (get_or items count d) x) (sym first) ∙ h) in
    record {
      item = so_far.item;
      is = so_far.is;
      within = omega (arith, below_count);
      left = so_far.left;
      best = λ position' other below is left apart. elim (cases_eq position' count) [
        | inl same ↦
            let here : get_or items count d ≡ other = get_or_from_slice_get items count other d (subst (λ (p : ℕ). slice_get items p ≡ Some other) same is) in
            subst (λ (x : Item). IsTakenBefore (members items placed) position so_far.item position' x) here
            (elim loses [
              | inl share ↦ inl share
              | inr alike ↦ inr (alike.0, no_more so_far.item.count (get_or items count d).count position position' alike.1 (omega (arith, below_count, same)))
            ])
        | inr past ↦ so_far.best position' other (omega arith) is left apart
      ];
    }

-- all positions were looked at
pub all_greedy : (items : List Item) (placed count : ℕ) (best : Option ℕ) → length items ≤ count → count ≤ length items
    → IsGreedySoFar items placed count best → MatchOption best (HasNoneLeft (length items) placed) (IsGreedyNext items placed)
all_greedy items placed count None above within so_far = λ position below. so_far position (omega arith)
all_greedy items placed count (Some position) above within so_far = record {
  item = so_far.item;
  is = so_far.is;
  left = so_far.left;
  best = λ position' other is left apart.
      let inside : position' < length items = slice_get_within items position' other is in
      so_far.best position' other (omega (arith, inside)) is left apart;
}
