-- The least location, relation by relation.
use Rattle.std.proofs.Common.{◌≡◌, ℕ, ◌+◌, ◌<◌, List, [], ◌∷◌, ◌++◌, map, length, drop, get_or, Option, refl, sym, ap, ◌∙◌, arith}
use Rattle.std.specs.Prelude.{nat_le, option_map}
use Rattle.std.specs.List.{AllByRecursion}
use Rattle.std.proofs.lemmas.Bool.Decides.{nat_tests}
use Rattle.std.proofs.lemmas.List.{at_drop_more}
use Rattle.text_reading.specs.Order.{least, lesser, nat_order}
use Rattle.text_reading.proofs.FaultLaws.{first_empty, map_empty, rest_empty}
use Rattle.text_reading.proofs.OrderLaws.{least_append, least_map, lesser_assoc}
use Rattle.cat_reader.specs.Locations.{in_each, is_up_to, item_of, of_relation, where_order}
use Rattle.cat_reader.specs.declared.locations.Where.{Where}

pub item_append : (xs ys : List ℕ) → least nat_le (xs ++ ys) ≡ lesser nat_le (least nat_le xs) (least nat_le ys)
item_append = least_append nat_le nat_order

pub where_append : (xs ys : List Where) → least is_up_to (xs ++ ys) ≡ lesser is_up_to (least is_up_to xs) (least is_up_to ys)
where_append = least_append is_up_to where_order

in_one : (k i j : ℕ) → is_up_to (item_of k i) (item_of k j) ≡ nat_le i j
in_one k i j = grind (arith, nat_tests)

in_order : (i j : ℕ) → is_up_to (of_relation i) (of_relation j) ≡ nat_le i j
in_order i j = grind (arith, nat_tests)

pub least_of_relations : (indices : List ℕ) → least is_up_to (map of_relation indices) ≡ option_map of_relation (least nat_le indices)
least_of_relations = least_map nat_le is_up_to of_relation in_order

-- one relation more
pub one_more : {A : Type 0} (broken_in : A → List ℕ) (k : ℕ) (a : Option Where) (r : A) (rs : List A)
    → lesser is_up_to (lesser is_up_to a (option_map (item_of k) (least nat_le (broken_in r)))) (least is_up_to (in_each broken_in (k + 1) rs))
    ≡ lesser is_up_to a (least is_up_to (in_each broken_in k (r ∷ rs)))
one_more broken_in k a r rs =
    lesser_assoc is_up_to where_order a (option_map (item_of k) (least nat_le (broken_in r))) (least is_up_to (in_each broken_in (k + 1) rs))
    ∙ ap (lesser is_up_to a) (ap (λ m. lesser is_up_to m (least is_up_to (in_each broken_in (k + 1) rs))) (sym (least_map nat_le is_up_to (item_of k) (in_one k) (broken_in r)))
    ∙ sym (where_append (map (item_of k) (broken_in r)) (in_each broken_in (k + 1) rs)))

pub next_one : {A : Type 0} (broken_in : A → List ℕ) (rs : List A) (k : ℕ) (a b : Option Where) (m : Option ℕ) (d : A)
    → k < length rs → m ≡ least nat_le (broken_in (get_or rs k d)) → b ≡ lesser is_up_to a (option_map (item_of k) m)
    → lesser is_up_to a (least is_up_to (in_each broken_in k (drop k rs))) ≡ least is_up_to (in_each broken_in 0 rs)
    → lesser is_up_to b (least is_up_to (in_each broken_in (k + 1) (drop (k + 1) rs))) ≡ least is_up_to (in_each broken_in 0 rs)
next_one broken_in rs k a b m d inside item lesser_of so_far =
    rw (lesser_of, item) (one_more broken_in k a (get_or rs k d) (drop (k + 1) rs) ∙ sym (at_drop_more (λ left. lesser is_up_to a (least is_up_to (in_each broken_in k left))) rs k d inside) ∙ so_far)

-- what is made of each
pub in_each_map : {A B : Type 0} (broken_in : B → List ℕ) (make : A → B) (k : ℕ) (xs : List A) → in_each broken_in k (map make xs) ≡ in_each (λ x. broken_in (make x)) k xs
in_each_map broken_in make k [] = refl
in_each_map broken_in make k (x ∷ xs) = ap (λ more. map (item_of k) (broken_in (make x)) ++ more) (in_each_map broken_in make (k + 1) xs)

-- nothing is broken in any
pub none_in : {A : Type 0} (broken_in : A → List ℕ) (k : ℕ) (rs : List A) → in_each broken_in k rs ≡ [] → AllByRecursion (λ r. broken_in r ≡ []) rs
none_in broken_in k [] e = tt
none_in broken_in k (r ∷ rs) e = (
  map_empty (item_of k) (broken_in r) (first_empty (map (item_of k) (broken_in r)) (in_each broken_in (k + 1) rs) e),
  none_in broken_in (k + 1) rs (rest_empty (map (item_of k) (broken_in r)) (in_each broken_in (k + 1) rs) e),
)
