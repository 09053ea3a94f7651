-- Worked examples, computed on the definitions.
use Rattle.std.proofs.Common.{nat_lt, nat_le, ◌&&◌, Option, None, ◌≡◌, ℕ, zero, suc, ◌+◌, Bool, true, false, nat_eq, List, [], ◌∷◌, map, length, Some, refl}
use Rattle.answer_theory.specs.Bindings.{Binding, value_of}
use Rattle.answer_theory.specs.Solutions.{combinations, solutions, joined_rows, keys}
use Rattle.answer_theory.specs.Trees.{Tree, Leaf, Scan, Join, given_rows, expansion}
use Rattle.answer_theory.specs.Choices.{index_lists, choices, fitting_rows}
use Rattle.answer_theory.specs.Rows.{over}

abbrev all : Binding ℕ → Bool
all b = true

abbrev two : ℕ → ℕ → List ℕ
two x y = x ∷ y ∷ []

-- ---- two relations joined on a middle column: q(x, z) over r(x, y) and s(y, z), with x, y, z as 0, 1, 2

abbrev r : List (List ℕ)
r = two 1 10 ∷ two 2 20 ∷ two 3 30 ∷ []

-- the texts b, c, d as the numbers 102, 103, 104
abbrev s : List (List ℕ)
s = two 20 102 ∷ two 30 103 ∷ two 40 104 ∷ []

abbrev r_leaf : List (Binding ℕ)
r_leaf = map (over (0 ∷ 1 ∷ [])) r

abbrev s_leaf : List (Binding ℕ)
s_leaf = map (over (1 ∷ 2 ∷ [])) s

abbrev found : List (Binding ℕ)
found = over (0 ∷ 1 ∷ 2 ∷ []) (2 ∷ 20 ∷ 102 ∷ []) ∷ over (0 ∷ 1 ∷ 2 ∷ []) (3 ∷ 30 ∷ 103 ∷ []) ∷ []

nine_ways : length (combinations (r_leaf ∷ s_leaf ∷ [])) ≡ 9
nine_ways = refl

two_solutions : solutions nat_eq all (r_leaf ∷ s_leaf ∷ []) ≡ found
two_solutions = refl

two_keys : keys (0 ∷ 2 ∷ []) (solutions nat_eq all (r_leaf ∷ s_leaf ∷ [])) ≡ (Some 2 ∷ Some 102 ∷ []) ∷ (Some 3 ∷ Some 103 ∷ []) ∷ []
two_keys = refl

two_joined : joined_rows nat_eq all r_leaf s_leaf ≡ found
two_joined = refl

-- the same by a tree, and by one whose left part is a finished fragment in table 7
tree : Tree ℕ
tree = Join all (Leaf (0 ∷ 1 ∷ []) all r_leaf) (Leaf (1 ∷ 2 ∷ []) all s_leaf)

by_a_tree : given_rows nat_eq (λ f. []) tree ≡ found
unfolding tree
by_a_tree = refl

by_a_fragment : given_rows nat_eq (λ f. r_leaf) (Join all (Scan (0 ∷ 1 ∷ []) 7) (Leaf (1 ∷ 2 ∷ []) all s_leaf)) ≡ found
by_a_fragment = refl

expanded : expansion (λ f. Leaf (0 ∷ 1 ∷ []) all r_leaf) (Join all (Scan (0 ∷ 1 ∷ []) 7) (Leaf (1 ∷ 2 ∷ []) all s_leaf)) ≡ tree
unfolding tree
expanded = refl

-- ---- a relation joined with itself: q(x, z) over e(x, y) and e(y, z). An item is the number of an atom with a row.

abbrev e : List (List ℕ)
e = two 1 2 ∷ two 2 3 ∷ two 2 4 ∷ two 3 4 ∷ []

abbrev item : ℕ → List ℕ → ℕ × List ℕ
item atom row = (atom, row)

abbrev binding : ℕ × List ℕ → Binding ℕ
binding it = over (two it.0 (it.0 + 1)) it.1

abbrev fits : ℕ × List ℕ → Bool
fits it = true

abbrev atoms : List (List (ℕ × List ℕ))
atoms = map (item 0) e ∷ map (item 1) e ∷ []

sixteen_ways : length (index_lists atoms) ≡ 16
sixteen_ways = refl

three_choices : choices nat_eq fits binding all atoms ≡ two 0 1 ∷ two 0 2 ∷ two 1 3 ∷ []
three_choices = refl

three_keys : keys (0 ∷ 2 ∷ []) (solutions nat_eq all (map (fitting_rows fits binding) atoms)) ≡ (Some 1 ∷ Some 3 ∷ []) ∷ (Some 1 ∷ Some 4 ∷ []) ∷ (Some 2 ∷ Some 4 ∷ []) ∷ []
three_keys = refl

-- ---- a product of three rows and four: nothing is shared, and each pair agrees

twelve : length (solutions nat_eq all (map (over (0 ∷ [])) ((1 ∷ []) ∷ (2 ∷ []) ∷ (3 ∷ []) ∷ []) ∷ map (over (1 ∷ [])) ((4 ∷ []) ∷ (5 ∷ []) ∷ (6 ∷ []) ∷ (7 ∷ []) ∷ []) ∷ [])) ≡ 12
twelve = refl

-- ---- a variable at two entries of one atom: q(x) over e(x, x)

repeated : solutions nat_eq all (map (over (0 ∷ 0 ∷ [])) (two 5 6 ∷ two 7 7 ∷ []) ∷ []) ≡ over (0 ∷ []) (7 ∷ []) ∷ []
repeated = refl

-- ---- a value that joins with nothing, here 0: it is found where its variable has one entry, and nowhere else

joins : ℕ → ℕ → Bool
joins zero y = false
joins (suc x) y = nat_eq (suc x) y

missing_alone : solutions joins all (map (over (0 ∷ [])) ((0 ∷ []) ∷ (1 ∷ []) ∷ []) ∷ []) ≡ over (0 ∷ []) (0 ∷ []) ∷ over (0 ∷ []) (1 ∷ []) ∷ []
unfolding joins
missing_alone = refl

missing_joined : solutions joins all (map (over (0 ∷ [])) ((0 ∷ []) ∷ (1 ∷ []) ∷ []) ∷ map (over (0 ∷ [])) ((0 ∷ []) ∷ (1 ∷ []) ∷ []) ∷ []) ≡ over (0 ∷ []) (1 ∷ []) ∷ []
unfolding joins
missing_joined = refl

-- ---- flights, hotels and cars: q(n, h, f) over flights(n, "SEA", d, p), hotels(d, h, c), cars(d, f), p < 500, c <= 120
-- The variables n, d, p, h, c, f are 0 to 5. An item is the number of an atom with a row; texts stand as numbers:
-- SEA, BOS, LAX, PDX, JFK 1 to 5; UA1, UA2, DL7, AS3 11 to 14; "Inn, Old", Ritz, Surf 21 to 23; Acme, Zip 31 and 32.

abbrev flight_fits : ℕ × List ℕ → Bool
flight_fits (zero, n ∷ from ∷ row) = nat_eq from 1
flight_fits (zero, row) = true
flight_fits (suc atom, row) = true

abbrev flight_binding : ℕ × List ℕ → Binding ℕ
flight_binding (zero, n ∷ from ∷ row) = over (0 ∷ 1 ∷ 2 ∷ []) (n ∷ row)
flight_binding (zero, row) = []
flight_binding (suc zero, row) = over (1 ∷ 3 ∷ 4 ∷ []) row
flight_binding (suc (suc atom), row) = over (1 ∷ 5 ∷ []) row

abbrev three : ℕ → ℕ → ℕ → List ℕ
three x y z = x ∷ y ∷ z ∷ []

abbrev flight : ℕ → ℕ → ℕ → ℕ → List ℕ
flight n from to price = n ∷ three from to price

-- whether the variable's value passes
abbrev value_is : (ℕ → Bool) → Option ℕ → Bool
value_is test None = false
value_is test (Some x) = test x

abbrev cheap : Binding ℕ → Bool
cheap b = value_is (λ p. nat_lt p 500) (value_of b 2) && value_is (λ c. nat_le c 120) (value_of b 4)

abbrev trips : List (List (ℕ × List ℕ))
trips = map (item 0) (flight 11 1 2 310 ∷ flight 11 1 2 310 ∷ flight 12 1 5 520 ∷ flight 13 4 2 200 ∷ flight 14 1 3 150 ∷ [])
    ∷ map (item 1) (three 2 21 95 ∷ three 2 22 300 ∷ three 3 23 120 ∷ [])
    ∷ map (item 2) (two 2 31 ∷ two 3 31 ∷ two 3 32 ∷ []) ∷ []

four_choices : choices nat_eq flight_fits flight_binding cheap trips ≡ three 0 0 0 ∷ three 1 0 0 ∷ three 4 2 1 ∷ three 4 2 2 ∷ []
four_choices = refl

four_keys : keys (0 ∷ 3 ∷ 5 ∷ []) (solutions nat_eq cheap (map (fitting_rows flight_fits flight_binding) trips))
    ≡ map (map Some) (three 11 21 31 ∷ three 11 21 31 ∷ three 14 23 31 ∷ three 14 23 32 ∷ [])
four_keys = refl
