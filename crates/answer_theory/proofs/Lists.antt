-- Laws of lists: what passes a test, and what is made of each item.
use Rattle.std.proofs.Common.{◌≡◌, Bool, true, false, cond, ◌&&◌, ◌||◌, List, [], ◌∷◌, ◌++◌, map, filter, flat_map, refl, sym, ap, ◌∙◌, append_assoc}
use Rattle.std.specs.List.{list_all, list_any, AllByRecursion}
use mathlib.Core.Path.{fun_ext}
use Rattle.std.proofs.lemmas.Bool.{and_parts, and_from}
use Rattle.answer_theory.proofs.Bools.{and_comm, and_assoc, and_middle}

-- ---- filter

pub filter_append : {X : Type 0} (test : X → Bool) → (xs ys : List X) → filter test (xs ++ ys) ≡ filter test xs ++ filter test ys
filter_append test [] ys = refl
filter_append test (x ∷ xs) ys = go (test x) (filter_append test xs ys)
  where
    go : (t : Bool) → filter test (xs ++ ys) ≡ filter test xs ++ filter test ys
        → cond t (x ∷ filter test (xs ++ ys)) (filter test (xs ++ ys)) ≡ cond t (x ∷ filter test xs) (filter test xs) ++ filter test ys
    go true ih = ap (λ l. x ∷ l) ih
    go false ih = ih

pub filter_alike : {X : Type 0} (p q : X → Bool) → ((x : X) → p x ≡ q x) → (xs : List X) → filter p xs ≡ filter q xs
filter_alike p q h xs = ap (λ t. filter t xs) (fun_ext h)

pub filter_filter : {X : Type 0} (p q : X → Bool) → (xs : List X) → filter p (filter q xs) ≡ filter (λ x. q x && p x) xs
filter_filter p q [] = refl
filter_filter p q (x ∷ xs) = go (q x) (p x) refl (filter_filter p q xs)
  where
    go : (t s : Bool) → p x ≡ s → filter p (filter q xs) ≡ filter (λ y. q y && p y) xs
        → filter p (cond t (x ∷ filter q xs) (filter q xs)) ≡ cond (t && s) (x ∷ filter (λ y. q y && p y) xs) (filter (λ y. q y && p y) xs)
    go true s e ih = ap (λ u. cond u (x ∷ filter p (filter q xs)) (filter p (filter q xs))) e ∙ ap (λ l. cond s (x ∷ l) l) ih
    go false s e ih = ih

-- ---- list_all and list_any

pub all_append : {X : Type 0} (p : X → Bool) → (xs ys : List X) → list_all p (xs ++ ys) ≡ (list_all p xs && list_all p ys)
all_append p [] ys = refl
all_append p (x ∷ xs) ys = ap (λ t. p x && t) (all_append p xs ys) ∙ sym (and_assoc (p x) (list_all p xs) (list_all p ys))

pub all_alike : {X : Type 0} (p q : X → Bool) → ((x : X) → p x ≡ q x) → (xs : List X) → list_all p xs ≡ list_all q xs
all_alike p q h xs = ap (λ t. list_all t xs) (fun_ext h)

pub all_true : {X : Type 0} → (xs : List X) → list_all (λ x. true) xs ≡ true
all_true [] = refl
all_true (x ∷ xs) = all_true xs

pub all_and : {X : Type 0} (p q : X → Bool) → (xs : List X) → list_all (λ x. p x && q x) xs ≡ (list_all p xs && list_all q xs)
all_and p q [] = refl
all_and p q (x ∷ xs) = ap (λ t. (p x && q x) && t) (all_and p q xs) ∙ and_middle (p x) (q x) (list_all p xs) (list_all q xs)

pub all_exchange : {X Y : Type 0} (p : X → Y → Bool) → (xs : List X) (ys : List Y)
    → list_all (λ x. list_all (p x) ys) xs ≡ list_all (λ y. list_all (λ x. p x y) xs) ys
all_exchange p [] ys = sym (all_true ys)
all_exchange p (x ∷ xs) ys = ap (λ t. list_all (p x) ys && t) (all_exchange p xs ys) ∙ sym (all_and (p x) (λ y. list_all (λ z. p z y) xs) ys)

pub any_append : {X : Type 0} (p : X → Bool) → (xs ys : List X) → list_any p (xs ++ ys) ≡ (list_any p xs || list_any p ys)
any_append p [] ys = refl
any_append p (x ∷ xs) ys = ap (λ t. p x || t) (any_append p xs ys) ∙ or_assoc (p x) (list_any p xs) (list_any p ys)
  where
    or_assoc : (a b c : Bool) → (a || (b || c)) ≡ ((a || b) || c)
    or_assoc true b c = refl
    or_assoc false b c = refl

-- ---- flat_map

pub flat_map_append : {X Y : Type 0} (f : X → List Y) → (xs ys : List X) → flat_map f (xs ++ ys) ≡ flat_map f xs ++ flat_map f ys
flat_map_append f [] ys = refl
flat_map_append f (x ∷ xs) ys = ap (λ l. f x ++ l) (flat_map_append f xs ys) ∙ sym (append_assoc (f x) (flat_map f xs) (flat_map f ys))

pub flat_map_flat_map : {X Y Z : Type 0} (f : Y → List Z) (g : X → List Y) → (xs : List X) → flat_map f (flat_map g xs) ≡ flat_map (λ x. flat_map f (g x)) xs
flat_map_flat_map f g [] = refl
flat_map_flat_map f g (x ∷ xs) = flat_map_append f (g x) (flat_map g xs) ∙ ap (λ l. flat_map f (g x) ++ l) (flat_map_flat_map f g xs)

pub flat_map_map : {X Y Z : Type 0} (f : Y → List Z) (g : X → Y) → (xs : List X) → flat_map f (map g xs) ≡ flat_map (λ x. f (g x)) xs
flat_map_map f g [] = refl
flat_map_map f g (x ∷ xs) = ap (λ l. f (g x) ++ l) (flat_map_map f g xs)

pub map_append : {X Y : Type 0} (g : X → Y) → (xs ys : List X) → map g (xs ++ ys) ≡ map g xs ++ map g ys
map_append g [] ys = refl
map_append g (x ∷ xs) ys = ap (λ l. g x ∷ l) (map_append g xs ys)

pub map_map : {X Y Z : Type 0} (f : Y → Z) (g : X → Y) → (xs : List X) → map f (map g xs) ≡ map (λ x. f (g x)) xs
map_map f g [] = refl
map_map f g (x ∷ xs) = ap (λ l. f (g x) ∷ l) (map_map f g xs)

pub map_flat_map : {X Y Z : Type 0} (f : Y → Z) (g : X → List Y) → (xs : List X) → map f (flat_map g xs) ≡ flat_map (λ x. map f (g x)) xs
map_flat_map f g [] = refl
map_flat_map f g (x ∷ xs) = map_append f (g x) (flat_map g xs) ∙ ap (λ l. map f (g x) ++ l) (map_flat_map f g xs)

pub flat_map_alike : {X Y : Type 0} (f g : X → List Y) → ((x : X) → f x ≡ g x) → (xs : List X) → flat_map f xs ≡ flat_map g xs
flat_map_alike f g h xs = ap (λ k. flat_map k xs) (fun_ext h)

-- the same made of each item that the list has
pub flat_map_alike_in : {X Y : Type 0} (P : X → Type 0) (f g : X → List Y) → ((x : X) → P x → f x ≡ g x) → (xs : List X) → AllByRecursion P xs → flat_map f xs ≡ flat_map g xs
flat_map_alike_in P f g h [] all = refl
flat_map_alike_in P f g h (x ∷ xs) all = ap (λ l. l ++ flat_map f xs) (h x all.0) ∙ ap (λ l. g x ++ l) (flat_map_alike_in P f g h xs all.1)

pub flat_map_none : {X Y : Type 0} → (xs : List X) → flat_map {A = Y} (λ x. []) xs ≡ []
flat_map_none [] = refl
flat_map_none {Y} (x ∷ xs) = flat_map_none {Y = Y} xs

-- ---- each of a list

pub each_append : {X : Type 0} (P : X → Type 0) → (xs ys : List X) → AllByRecursion P xs → AllByRecursion P ys → AllByRecursion P (xs ++ ys)
each_append P [] ys h k = k
each_append P (x ∷ xs) ys h k = (h.0, each_append P xs ys h.1 k)

pub each_map : {X Y : Type 0} (P : X → Type 0) (Q : Y → Type 0) (f : X → Y) → ((x : X) → P x → Q (f x)) → (xs : List X) → AllByRecursion P xs → AllByRecursion Q (map f xs)
each_map P Q f h [] all = tt
each_map P Q f h (x ∷ xs) all = (h x all.0, each_map P Q f h xs all.1)

pub each_flat_map : {X Y : Type 0} (P : X → Type 0) (Q : Y → Type 0) (f : X → List Y) → ((x : X) → P x → AllByRecursion Q (f x)) → (xs : List X) → AllByRecursion P xs → AllByRecursion Q (flat_map f xs)
each_flat_map P Q f h [] all = tt
each_flat_map P Q f h (x ∷ xs) all = each_append Q (f x) (flat_map f xs) (h x all.0) (each_flat_map P Q f h xs all.1)

pub each_of : {X : Type 0} (P : X → Type 0) → ((x : X) → P x) → (xs : List X) → AllByRecursion P xs
each_of P h [] = tt
each_of P h (x ∷ xs) = (h x, each_of P h xs)

pub each_then : {X : Type 0} (P Q : X → Type 0) → ((x : X) → P x → Q x) → (xs : List X) → AllByRecursion P xs → AllByRecursion Q xs
each_then P Q h [] all = tt
each_then P Q h (x ∷ xs) all = (h x all.0, each_then P Q h xs all.1)

-- ---- more of filter

pub filter_comm : {X : Type 0} (p q : X → Bool) → (xs : List X) → filter p (filter q xs) ≡ filter q (filter p xs)
filter_comm p q xs = filter_filter p q xs ∙ (filter_alike _ _ (λ x. and_comm (q x) (p x)) xs ∙ sym (filter_filter q p xs))

pub all_filter : {X : Type 0} (p test : X → Bool) → (xs : List X) → list_all p xs ≡ true → list_all p (filter test xs) ≡ true
all_filter p test [] e = refl
all_filter p test (x ∷ xs) e = go (test x) (and_parts (p x) (list_all p xs) e).0 (all_filter p test xs (and_parts (p x) (list_all p xs) e).1)
  where
    go : (t : Bool) → p x ≡ true → list_all p (filter test xs) ≡ true → list_all p (cond t (x ∷ filter test xs) (filter test xs)) ≡ true
    go true h ih = and_from (p x) (list_all p (filter test xs)) h ih
    go false h ih = ih

-- what a filter keeps passes what its test implies
pub all_kept : {X : Type 0} (p test : X → Bool) → ((x : X) → test x ≡ true → p x ≡ true) → (xs : List X) → list_all p (filter test xs) ≡ true
all_kept p test h [] = refl
all_kept p test h (x ∷ xs) = go (test x) refl (all_kept p test h xs)
  where
    go : (t : Bool) → test x ≡ t → list_all p (filter test xs) ≡ true → list_all p (cond t (x ∷ filter test xs) (filter test xs)) ≡ true
    go true e ih = and_from (p x) (list_all p (filter test xs)) (h x e) ih
    go false e ih = ih

pub flat_map_filter : {X Y : Type 0} (f : X → List Y) (test : X → Bool) → (xs : List X) → flat_map f (filter test xs) ≡ flat_map (λ x. cond (test x) (f x) []) xs
flat_map_filter {Y} f test [] = refl
flat_map_filter {Y} f test (x ∷ xs) = go (test x) (flat_map_filter f test xs)
  where
    go : (t : Bool) → flat_map f (filter test xs) ≡ flat_map (λ y. cond (test y) (f y) []) xs → flat_map f (cond t (x ∷ filter test xs) (filter test xs)) ≡ cond {A = List Y} t (f x) [] ++ flat_map (λ y. cond (test y) (f y) []) xs
    go true ih = ap (λ l. f x ++ l) ih
    go false ih = ih

pub map_filter : {X Y : Type 0} (g : X → Y) (test : Y → Bool) → (xs : List X) → filter test (map g xs) ≡ map g (filter (λ x. test (g x)) xs)
map_filter g test [] = refl
map_filter g test (x ∷ xs) = go (test (g x)) (map_filter g test xs)
  where
    go : (t : Bool) → filter test (map g xs) ≡ map g (filter (λ y. test (g y)) xs) → cond t (g x ∷ filter test (map g xs)) (filter test (map g xs)) ≡ map g (cond t (x ∷ filter (λ y. test (g y)) xs) (filter (λ y. test (g y)) xs))
    go true ih = ap (λ l. g x ∷ l) ih
    go false ih = ih
