-- The leaves in another order give the same bag of values.
use Rattle.std.proofs.Common.{◌≡◌, ℕ, ◌+◌, Bool, true, false, cond, ◌&&◌, ◌||◌, ◌==◌, List, [], ◌∷◌, ◌++◌, map, Option, refl, sym, ap, ap₂, ◌∙◌, append_assoc, arith}
use Rattle.std.proofs.lemmas.Bool.{and_parts}
use mathlib.Core.Path.{fun_ext}
use Rattle.answer_theory.specs.Bags.{weight_of, SameBag, count_of}
use Rattle.answer_theory.specs.Bindings.{Binding, IsSound, meet, consistent, has_entry, value_of, first_entries}
use Rattle.answer_theory.specs.Solutions.{only, combinations, chosen_rows, solutions, ReadsValues, valuations, keys}
use Rattle.answer_theory.proofs.Bags.{weight_of_append, weight_of_sum, weight_of_map, weight_of_flat_map, weight_of_alike, weight_of_exchange, bag_trans, bag_sym, bag_from_same, bag_map, bag_middle, bag_uncons}
use Rattle.answer_theory.proofs.Numbers.{entry_of, count_of_first}
use Rattle.answer_theory.proofs.Lists.{map_append, map_map}
use Rattle.answer_theory.proofs.Bindings.{meet_sym, meet_append_right, consistent_append, bound_append, value_of_append, value_of_swapped, value_of_first_entries}

-- ---- weighing what is taken of each leaf

-- the weight stays where two rows that stand side by side change entries
pub OrderFree : {X : Type 0} → (Binding X → ℕ) → Type 0
OrderFree {X} f = (q a b c : Binding X) → f (q ++ (a ++ (b ++ c))) ≡ f (q ++ (b ++ (a ++ c)))

abbrev after : {X : Type 0} → (Binding X → ℕ) → Binding X → Binding X → ℕ
after f b bs = f (b ++ bs)

order_free_after : {X : Type 0} (f : Binding X → ℕ) (b : Binding X) → OrderFree f → OrderFree (after f b)
unfolding OrderFree
order_free_after f b h q a d c = ap f (sym (append_assoc b q _)) ∙ (h (b ++ q) a d c ∙ ap f (append_assoc b q _))

weight_of_combinations : {X : Type 0} (f : Binding X → ℕ) (leaf : List (Binding X)) (leaves : List (List (Binding X)))
    → weight_of f (combinations (leaf ∷ leaves)) ≡ weight_of (λ b. weight_of (after f b) (combinations leaves)) leaf
weight_of_combinations f leaf leaves = weight_of_flat_map (λ b. map (λ bs. b ++ bs) (combinations leaves)) f leaf ∙ weight_of_alike _ _ (λ b. weight_of_map (λ bs. b ++ bs) f (combinations leaves)) leaf

weight_of_swap : {X : Type 0} (f : Binding X → ℕ) → OrderFree f → (l m : List (Binding X)) (rest : List (List (Binding X)))
    → weight_of f (combinations (l ∷ m ∷ rest)) ≡ weight_of f (combinations (m ∷ l ∷ rest))
unfolding OrderFree
weight_of_swap f h l m rest =
    weight_of_combinations f l (m ∷ rest)
    ∙ (weight_of_alike _ _ (λ a. weight_of_combinations (after f a) m rest) l
    ∙ (weight_of_exchange (λ a b. weight_of (after (after f a) b) (combinations rest)) l m
    ∙ (weight_of_alike _ _ (λ b. weight_of_alike _ _ (λ a. weight_of_alike _ _ (λ c. h [] a b c) (combinations rest)) l) m
    ∙ sym (weight_of_combinations f m (l ∷ rest) ∙ weight_of_alike _ _ (λ b. weight_of_combinations (after f b) l rest) m))))

weight_of_front : {X : Type 0} (f : Binding X → ℕ) → OrderFree f → (ps : List (List (Binding X))) (m : List (Binding X)) (rest : List (List (Binding X)))
    → weight_of f (combinations (ps ++ m ∷ rest)) ≡ weight_of f (combinations (m ∷ (ps ++ rest)))
weight_of_front f h [] m rest = refl
weight_of_front f h (l ∷ ps) m rest =
    weight_of_combinations f l (ps ++ m ∷ rest)
    ∙ (weight_of_alike _ _ (λ a. weight_of_front (after f a) (order_free_after f a h) ps m rest) l
    ∙ (sym (weight_of_combinations f l (m ∷ (ps ++ rest))) ∙ weight_of_swap f h l m (ps ++ rest)))

-- ---- lists of numbers that are one bag

no_items : (ks : List ℕ) → SameBag ks [] → ks ≡ []
no_items [] h = refl
no_items (k ∷ ks) h = absurd (let e : 1 + weight_of (λ m. 1) ks ≡ 0 = h.weighs (λ m. 1) in omega (arith, e))

pub weight_of_reordered : {X : Type 0} (leaf : ℕ → List (Binding X)) → (js ks : List ℕ) → SameBag ks js → (f : Binding X → ℕ) → OrderFree f → weight_of f (combinations (map leaf ks)) ≡ weight_of f (combinations (map leaf js))
weight_of_reordered leaf [] ks h f o = ap (λ l. weight_of f (combinations (map leaf l))) (no_items ks h)
weight_of_reordered leaf (j ∷ js) ks h f o =
    let r : (ps : List ℕ) × (ss : List ℕ) × (ks ≡ ps ++ j ∷ ss) = entry_of j ks (count_of j js) (h.weighs (λ k. cond (k == j) 1 0) ∙ count_of_first j js) in
    ap (λ l. weight_of f (combinations (map leaf l))) r.2
    ∙ (ap (λ l. weight_of f (combinations l)) (map_append leaf r.0 (j ∷ r.1))
    ∙ (weight_of_front f o (map leaf r.0) (leaf j) (map leaf r.1)
    ∙ (ap (λ l. weight_of f (combinations (leaf j ∷ l))) (sym (map_append leaf r.0 r.1))
    ∙ (weight_of_combinations f (leaf j) (map leaf (r.0 ++ r.1))
    ∙ (weight_of_alike _ _ (λ a. weight_of_reordered leaf js (r.0 ++ r.1) (bag_uncons j (bag_trans (bag_sym (bag_middle r.0 j r.1)) (bag_trans (bag_sym (bag_from_same r.2)) h))) (after f a) (order_free_after f a o)) (leaf j)
    ∙ sym (weight_of_combinations f (leaf j) (map leaf js)))))))

-- ---- solutions

-- rows of which both are consistent or neither, and then with the same values, count the same
same_choice : {X : Type 0} (joins : X → X → Bool) (test : Binding X → Bool) → ReadsValues test → (u v : Binding X)
    → consistent joins u ≡ consistent joins v → (consistent joins u ≡ true → (w : ℕ) → value_of u w ≡ value_of v w)
    → only (consistent joins u && test (first_entries u)) (value_of (first_entries u)) ≡ only (consistent joins v && test (first_entries v)) (value_of (first_entries v))
same_choice joins test h u v e k = go (consistent joins u) refl ∙ ap (λ t. only (t && test (first_entries v)) (value_of (first_entries v))) e
  where
    same : consistent joins u ≡ true → (w : ℕ) → value_of (first_entries u) w ≡ value_of (first_entries v) w
    same i w = value_of_first_entries u w ∙ (k i w ∙ sym (value_of_first_entries v w))

    go : (t : Bool) → consistent joins u ≡ t → only (t && test (first_entries u)) (value_of (first_entries u)) ≡ only (t && test (first_entries v)) (value_of (first_entries v))
    go true i = ap₂ only (h (first_entries u) (first_entries v) (same i)) (fun_ext (same i))
    go false i = refl

swap_tests : (ca cb cc ab ac bc : Bool) → ((ca && ((cb && cc) && bc)) && (ab && ac)) ≡ ((cb && ((ca && cc) && ac)) && (ab && bc))
swap_tests true true true true true true = refl
swap_tests true true true true false true = refl
swap_tests true true true false true true = refl
swap_tests true true true false false true = refl
swap_tests true true true true true false = refl
swap_tests true true true false true false = refl
swap_tests true true true ab false false = refl
swap_tests true true false ab ac bc = refl
swap_tests true false cc ab ac bc = refl
swap_tests false true cc ab ac bc = refl
swap_tests false false cc ab ac bc = refl

and_swap : (x y z : Bool) → (x && (y && z)) ≡ (y && (x && z))
and_swap true y z = refl
and_swap false true z = refl
and_swap false false z = refl

or_comm : (x y : Bool) → (x || y) ≡ (y || x)
or_comm true true = refl
or_comm true false = refl
or_comm false true = refl
or_comm false false = refl

consistent_three : {X : Type 0} (joins : X → X → Bool) (a b c : Binding X) → consistent joins (a ++ (b ++ c))
    ≡ ((consistent joins a && ((consistent joins b && consistent joins c) && meet joins b c)) && (meet joins a b && meet joins a c))
consistent_three joins a b c = consistent_append joins a (b ++ c) ∙ ap₂ (λ t u. (consistent joins a && t) && u) (consistent_append joins b c) (meet_append_right joins a b c)

meet_three : {X : Type 0} (joins : X → X → Bool) (q a b c : Binding X) → meet joins q (a ++ (b ++ c)) ≡ (meet joins q a && (meet joins q b && meet joins q c))
meet_three joins q a b c = meet_append_right joins q a (b ++ c) ∙ ap (λ t. meet joins q a && t) (meet_append_right joins q b c)

module _ {X : Type 0} (joins : X → X → Bool) (s : IsSound joins) where
  consistent_pair : (a b c : Binding X) → consistent joins (a ++ (b ++ c)) ≡ consistent joins (b ++ (a ++ c))
  consistent_pair a b c =
      consistent_three joins a b c
      ∙ (swap_tests (consistent joins a) (consistent joins b) (consistent joins c) (meet joins a b) (meet joins a c) (meet joins b c)
      ∙ (ap (λ t. (consistent joins b && ((consistent joins a && consistent joins c) && meet joins a c)) && (t && meet joins b c)) (meet_sym joins s a b)
      ∙ sym (consistent_three joins b a c)))

  consistent_swap : (q a b c : Binding X) → consistent joins (q ++ (a ++ (b ++ c))) ≡ consistent joins (q ++ (b ++ (a ++ c)))
  consistent_swap q a b c =
      consistent_append joins q (a ++ (b ++ c))
      ∙ (ap₂ (λ t u. (consistent joins q && t) && u) (consistent_pair a b c)
      (meet_three joins q a b c ∙ (and_swap (meet joins q a) (meet joins q b) (meet joins q c) ∙ sym (meet_three joins q b a c)))
      ∙ sym (consistent_append joins q (b ++ (a ++ c))))

  pair_meets : (q a b c : Binding X) → consistent joins (q ++ (a ++ (b ++ c))) ≡ true → meet joins a b ≡ true
  pair_meets q a b c e =
      let inner : consistent joins (a ++ (b ++ c)) ≡ true = (and_parts (consistent joins q) (consistent joins (a ++ (b ++ c))) (and_parts (consistent joins q && consistent joins (a ++ (b ++ c))) (meet joins q (a ++ (b ++ c))) (sym (consistent_append joins q (a ++ (b ++ c))) ∙ e)).0).1 in
      (and_parts (meet joins a b) (meet joins a c)
      (and_parts (consistent joins a && ((consistent joins b && consistent joins c) && meet joins b c)) (meet joins a b && meet joins a c) (sym (consistent_three joins a b c) ∙ inner)).1).0

  values_swap : (q a b c : Binding X) → consistent joins (q ++ (a ++ (b ++ c))) ≡ true → (w : ℕ) → value_of (q ++ (a ++ (b ++ c))) w ≡ value_of (q ++ (b ++ (a ++ c))) w
  values_swap q a b c e w =
      value_of_append q (a ++ (b ++ c)) w
      ∙ (ap (λ o. cond (has_entry q w) (value_of q w) o)
      (ap (λ bs. value_of bs w) (sym (append_assoc a b c))
      ∙ (value_of_append (a ++ b) c w
      ∙ (ap₂ (λ t o. cond t o (value_of c w))
      (bound_append a b w ∙ (or_comm (has_entry a w) (has_entry b w) ∙ sym (bound_append b a w)))
      (value_of_swapped joins s a b w (pair_meets q a b c e))
      ∙ (sym (value_of_append (b ++ a) c w)
      ∙ ap (λ bs. value_of bs w) (append_assoc b a c)))))
      ∙ sym (value_of_append q (b ++ (a ++ c)) w))

  -- the leaves of the same numbers, in another order
  pub solutions_reordered : (test : Binding X → Bool) → ReadsValues test → (leaf : ℕ → List (Binding X)) → (ks js : List ℕ) → SameBag ks js
      → SameBag (valuations (solutions joins test (map leaf ks))) (valuations (solutions joins test (map leaf js)))
  unfolding OrderFree
  solutions_reordered test h leaf ks js e = record {
    weighs = λ g.
        weight_of_of g (combinations (map leaf ks))
        ∙ (weight_of_reordered leaf js ks e (λ b. weight_of g (only (consistent joins b && test (first_entries b)) (value_of (first_entries b))))
        (λ q a b c. ap (weight_of g) (same_choice joins test h (q ++ (a ++ (b ++ c))) (q ++ (b ++ (a ++ c))) (consistent_swap q a b c) (values_swap q a b c)))
        ∙ sym (weight_of_of g (combinations (map leaf js))));
  }
    where
      weight_of_only : (g : (ℕ → Option X) → ℕ) (t : Bool) (b : Binding X) → weight_of (λ c. g (value_of c)) (only t b) ≡ weight_of g (only t (value_of b))
      weight_of_only g true b = refl
      weight_of_only g false b = refl

      weight_of_of : (g : (ℕ → Option X) → ℕ) (rows : List (Binding X)) → weight_of g (valuations (chosen_rows joins test rows))
          ≡ weight_of (λ b. weight_of g (only (consistent joins b && test (first_entries b)) (value_of (first_entries b)))) rows
      weight_of_of g rows = weight_of_map value_of g (chosen_rows joins test rows)
          ∙ (weight_of_flat_map (λ b. only (consistent joins b && test (first_entries b)) (first_entries b)) (λ c. g (value_of c)) rows
          ∙ weight_of_alike _ _ (λ b. weight_of_only g (consistent joins b && test (first_entries b)) (first_entries b)) rows)

  -- and so the heads
  pub keys_reordered : (test : Binding X → Bool) → ReadsValues test → (leaf : ℕ → List (Binding X)) → (ks js : List ℕ) → SameBag ks js → (vs : List ℕ)
      → SameBag (keys vs (solutions joins test (map leaf ks))) (keys vs (solutions joins test (map leaf js)))
  keys_reordered test h leaf ks js e vs = bag_trans (bag_from_same (sym (map_map (λ value. map value vs) value_of (solutions joins test (map leaf ks)))))
      (bag_trans (bag_map (λ value. map value vs) (solutions_reordered test h leaf ks js e)) (bag_from_same (map_map (λ value. map value vs) value_of (solutions joins test (map leaf js)))))

-- ---- leaves that grow, and leaves of the same rows in another order

weight_of_grown : {X : Type 0} (f : Binding X → ℕ) → (ps : List (List (Binding X))) (ls ms : List (Binding X)) (ss : List (List (Binding X)))
    → weight_of f (combinations (ps ++ (ls ++ ms) ∷ ss)) ≡ weight_of f (combinations (ps ++ ls ∷ ss)) + weight_of f (combinations (ps ++ ms ∷ ss))
weight_of_grown f [] ls ms ss =
    weight_of_combinations f (ls ++ ms) ss
    ∙ (weight_of_append (λ b. weight_of (after f b) (combinations ss)) ls ms
    ∙ sym (ap₂ (λ m n. m + n) (weight_of_combinations f ls ss) (weight_of_combinations f ms ss)))
weight_of_grown f (p ∷ ps) ls ms ss =
    weight_of_combinations f p (ps ++ (ls ++ ms) ∷ ss)
    ∙ (weight_of_alike _ _ (λ b. weight_of_grown (after f b) ps ls ms ss) p
    ∙ (weight_of_sum (λ b. weight_of (after f b) (combinations (ps ++ ls ∷ ss))) (λ b. weight_of (after f b) (combinations (ps ++ ms ∷ ss))) p
    ∙ sym (ap₂ (λ m n. m + n) (weight_of_combinations f p (ps ++ ls ∷ ss)) (weight_of_combinations f p (ps ++ ms ∷ ss)))))

weight_of_leaf : {X : Type 0} (f : Binding X → ℕ) → (ps : List (List (Binding X))) (ls ms : List (Binding X)) (ss : List (List (Binding X))) → SameBag ls ms
    → weight_of f (combinations (ps ++ ls ∷ ss)) ≡ weight_of f (combinations (ps ++ ms ∷ ss))
weight_of_leaf f [] ls ms ss h = weight_of_combinations f ls ss ∙ (h.weighs (λ b. weight_of (after f b) (combinations ss)) ∙ sym (weight_of_combinations f ms ss))
weight_of_leaf f (p ∷ ps) ls ms ss h = weight_of_combinations f p (ps ++ ls ∷ ss) ∙ (weight_of_alike _ _ (λ b. weight_of_leaf (after f b) ps ls ms ss h) p ∙ sym (weight_of_combinations f p (ps ++ ms ∷ ss)))

weight_of_chosen : {X : Type 0} (joins : X → X → Bool) (test : Binding X → Bool) (f : Binding X → ℕ) (rows : List (Binding X))
    → weight_of f (chosen_rows joins test rows) ≡ weight_of (λ b. weight_of f (only (consistent joins b && test (first_entries b)) (first_entries b))) rows
weight_of_chosen joins test f rows = weight_of_flat_map (λ b. only (consistent joins b && test (first_entries b)) (first_entries b)) f rows

pub solutions_grown : {X : Type 0} (joins : X → X → Bool) (test : Binding X → Bool) (ps : List (List (Binding X))) (ls ms : List (Binding X)) (ss : List (List (Binding X)))
    → SameBag (solutions joins test (ps ++ (ls ++ ms) ∷ ss)) (solutions joins test (ps ++ ls ∷ ss) ++ solutions joins test (ps ++ ms ∷ ss))
solutions_grown joins test ps ls ms ss = record {
  weighs = λ f.
      weight_of_chosen joins test f (combinations (ps ++ (ls ++ ms) ∷ ss))
      ∙ (weight_of_grown (λ b. weight_of f (only (consistent joins b && test (first_entries b)) (first_entries b))) ps ls ms ss
      ∙ (sym (ap₂ (λ m n. m + n) (weight_of_chosen joins test f (combinations (ps ++ ls ∷ ss))) (weight_of_chosen joins test f (combinations (ps ++ ms ∷ ss))))
      ∙ sym (weight_of_append f (solutions joins test (ps ++ ls ∷ ss)) (solutions joins test (ps ++ ms ∷ ss)))));
}

pub bag_solutions : {X : Type 0} (joins : X → X → Bool) (test : Binding X → Bool) (ps : List (List (Binding X))) (ls ms : List (Binding X)) (ss : List (List (Binding X))) → SameBag ls ms
    → SameBag (solutions joins test (ps ++ ls ∷ ss)) (solutions joins test (ps ++ ms ∷ ss))
bag_solutions joins test ps ls ms ss h = record {
  weighs = λ f.
      weight_of_chosen joins test f (combinations (ps ++ ls ∷ ss))
      ∙ (weight_of_leaf (λ b. weight_of f (only (consistent joins b && test (first_entries b)) (first_entries b))) ps ls ms ss h
      ∙ sym (weight_of_chosen joins test f (combinations (ps ++ ms ∷ ss))));
}
