-- Lists of which one item changes.
use Rattle.std.proofs.Common.{◌≡◌, ℕ, zero, suc, ◌+◌, ◌<◌, List, [], ◌∷◌, ◌++◌, length, set, flat_map, Option, Some, None, refl, sym, ap, subst, ◌∙◌, arith, append_assoc}
use Rattle.std.specs.List.{AllByRecursion, AllZip, cons_option, filter_map, slice_get, slice_index_or}
use Rattle.std.specs.Prelude.{IsSomeAnd}
use Rattle.answer_theory.specs.Bags.{SameBag, weight_of}
use Rattle.answer_theory.proofs.Bags.{bag_append, bag_append_comm, bag_from_same, bag_refl, bag_trans}

pub all_at : {X : Type 0} (P : X → Type 0) (xs : List X) (i : ℕ) (x : X) → slice_get xs i ≡ Some x → AllByRecursion P xs → P x
all_at P [] i x e h = cc
all_at P (y ∷ ys) zero x e h = let same : y ≡ x = cc in subst P same h.0
all_at P (y ∷ ys) (suc i) x e h = all_at P ys i x e h.1

pub all_set : {X : Type 0} (P : X → Type 0) (xs : List X) (i : ℕ) (y : X) → AllByRecursion P xs → P y → AllByRecursion P (set xs i y)
all_set P [] i y h p = tt
all_set P (x ∷ xs) zero y h p = (p, h.1)
all_set P (x ∷ xs) (suc i) y h p = (h.0, all_set P xs i y h.1 p)

pub zip_at : {X Y : Type 0} (R : X → Y → Type 0) (xs : List X) (ys : List Y) (i : ℕ) (x : X) (d : Y) → slice_get xs i ≡ Some x → AllZip R xs ys → R x (slice_index_or ys i d)
zip_at R [] [] i x d e h = cc
zip_at R [] (y ∷ ys) i x d e h = absurd h
zip_at R (u ∷ xs) [] i x d e h = absurd h
zip_at R (u ∷ xs) (y ∷ ys) zero x d e h = let same : u ≡ x = cc in subst (λ v. R v y) same h.0
zip_at R (u ∷ xs) (y ∷ ys) (suc i) x d e h = zip_at R xs ys i x d e h.1

pub zip_there : {X Y : Type 0} (R : X → Y → Type 0) (xs : List X) (ys : List Y) (i : ℕ) (x : X) (d : Y) → slice_get xs i ≡ Some x → AllZip R xs ys → slice_get ys i ≡ Some (slice_index_or ys i d)
zip_there R [] [] i x d e h = cc
zip_there R [] (y ∷ ys) i x d e h = absurd h
zip_there R (u ∷ xs) [] i x d e h = absurd h
zip_there R (u ∷ xs) (y ∷ ys) zero x d e h = refl
zip_there R (u ∷ xs) (y ∷ ys) (suc i) x d e h = zip_there R xs ys i x d e h.1

pub zip_set : {X Y : Type 0} (R : X → Y → Type 0) (xs : List X) (ys : List Y) (i : ℕ) (x : X) (y : Y) → AllZip R xs ys → R x y → AllZip R (set xs i x) (set ys i y)
zip_set R [] [] i x y h r = tt
zip_set R [] (v ∷ ys) i x y h r = absurd h
zip_set R (u ∷ xs) [] i x y h r = absurd h
zip_set R (u ∷ xs) (v ∷ ys) zero x y h r = (r, h.1)
zip_set R (u ∷ xs) (v ∷ ys) (suc i) x y h r = (h.0, zip_set R xs ys i x y h.1 r)

-- one of two lists changes, and the other doesn't
pub zip_set_left : {X Y : Type 0} (R : X → Y → Type 0) (xs : List X) (ys : List Y) (i : ℕ) (x new : X) → slice_get xs i ≡ Some x → ((y : Y) → R x y → R new y) → AllZip R xs ys → AllZip R (set xs i new) ys
zip_set_left R [] ys i x new e goes h = cc
zip_set_left R (u ∷ xs) [] i x new e goes h = absurd h
zip_set_left R (u ∷ xs) (v ∷ ys) zero x new e goes h = let same : u ≡ x = cc in (goes v (subst (λ w. R w v) same h.0), h.1)
zip_set_left R (u ∷ xs) (v ∷ ys) (suc i) x new e goes h = (h.0, zip_set_left R xs ys i x new e goes h.1)

pub zip_self_set : {X : Type 0} (R : X → X → Type 0) → ((x : X) → R x x) → (xs : List X) (i : ℕ) (x new : X) → slice_get xs i ≡ Some x → R x new → AllZip R xs (set xs i new)
zip_self_set R same [] i x new e r = tt
zip_self_set R same (y ∷ ys) zero x new e r = let is : x ≡ y = cc in (subst (λ w. R w new) is r, zip_same R same ys)
  where
    zip_same : {X : Type 0} (R : X → X → Type 0) → ((x : X) → R x x) → (xs : List X) → AllZip R xs xs
    zip_same R same [] = tt
    zip_same R same (x ∷ xs) = (same x, zip_same R same xs)
zip_self_set R same (y ∷ ys) (suc i) x new e r = (same y, zip_self_set R same ys i x new e r)

pub weight_set : {X : Type 0} (f : X → ℕ) (xs : List X) (i : ℕ) (x y : X) → slice_get xs i ≡ Some x → weight_of f (set xs i y) + f x ≡ weight_of f xs + f y
weight_set f [] i x y e = cc
weight_set f (u ∷ xs) zero x y e = let same : u ≡ x = cc in let w = ap f same in omega arith
weight_set f (u ∷ xs) (suc i) x y e = let w = weight_set f xs i x y e in omega arith

pub bag_set : {X Y : Type 0} (f : X → List Y) (xs : List X) (i : ℕ) (x y : X) (more : List Y) → slice_get xs i ≡ Some x → f y ≡ f x ++ more
    → SameBag (flat_map f (set xs i y)) (flat_map f xs ++ more)
bag_set f [] i x y more e grows = cc
bag_set f (u ∷ xs) zero x y more e grows =
    let same : u ≡ x = cc in
    let rest = flat_map f xs in
    let is : f y ++ rest ≡ f u ++ (more ++ rest) = ap (λ l. l ++ rest) (grows ∙ ap (λ w. f w ++ more) (sym same)) ∙ append_assoc (f u) more rest in
    bag_trans (bag_from_same is) (bag_trans (bag_append (bag_refl (f u)) (bag_append_comm more rest)) (bag_from_same (sym (append_assoc (f u) rest more))))
bag_set f (u ∷ xs) (suc i) x y more e grows =
    bag_trans (bag_append (bag_refl (f u)) (bag_set f xs i x y more e grows)) (bag_from_same (sym (append_assoc (f u) (flat_map f xs) more)))

cons_append : {Y : Type 0} (o : Option Y) (xs ys : List Y) → cons_option o (xs ++ ys) ≡ cons_option o xs ++ ys
cons_append None xs ys = refl
cons_append (Some x) xs ys = refl

pub filter_map_append : {X Y : Type 0} (h : X → Option Y) (xs ys : List X) → filter_map h (xs ++ ys) ≡ filter_map h xs ++ filter_map h ys
filter_map_append h [] ys = refl
filter_map_append h (x ∷ xs) ys = ap (cons_option (h x)) (filter_map_append h xs ys) ∙ cons_append (h x) (filter_map h xs) (filter_map h ys)

-- what was read at an index stands there
pub stands_at : {X : Type 0} (xs : List X) (i : ℕ) (x : X) → i < length xs → x ≡ slice_index_or xs i x → slice_get xs i ≡ Some x
stands_at [] i x inside is = absurd (omega arith)
stands_at (y ∷ ys) zero x inside is = ap Some (sym is)
stands_at (y ∷ ys) (suc i) x inside is = stands_at ys i x (omega arith) is

pub stands_inside : {X : Type 0} (xs : List X) (i : ℕ) (x : X) → slice_get xs i ≡ Some x → i < length xs
stands_inside [] i x e = cc
stands_inside (y ∷ ys) zero x e = omega arith
stands_inside (y ∷ ys) (suc i) x e = let below = stands_inside ys i x e in omega arith

some_and : {X : Type 0} (o : Option X) (P : X → Type 0) → IsSomeAnd o P → (x : X) × (o ≡ Some x) × P x
some_and None P h = absurd h
some_and (Some x) P h = (x, refl, h)

pub some_inside : {X : Type 0} (P : X → Type 0) (xs : List X) (i : ℕ) → IsSomeAnd (slice_get xs i) P → i < length xs
some_inside P xs i h = let there = some_and (slice_get xs i) P h in stands_inside xs i there.0 there.1

pub some_holds : {X : Type 0} (P : X → Type 0) (o : Option X) (x : X) → o ≡ Some x → IsSomeAnd o P → P x
some_holds P o x e h = subst (λ p. IsSomeAnd p P) e h

pub set_same : {X : Type 0} (xs : List X) (i : ℕ) (x : X) → slice_get xs i ≡ Some x → set xs i x ≡ xs
set_same [] i x e = refl
set_same (y ∷ ys) zero x e = let same : x ≡ y = cc in ap (λ w. w ∷ ys) same
set_same (y ∷ ys) (suc i) x e = ap (λ w. y ∷ w) (set_same ys i x e)

-- what holds of the items of one list, and of those of two, together
pub zip_from : {X Y : Type 0} (P : X → Type 0) (R Q : X → Y → Type 0) → ((x : X) (y : Y) → P x → R x y → Q x y) → (xs : List X) (ys : List Y) → AllByRecursion P xs → AllZip R xs ys → AllZip Q xs ys
zip_from P R Q f [] [] p r = tt
zip_from P R Q f [] (y ∷ ys) p r = absurd r
zip_from P R Q f (x ∷ xs) [] p r = absurd r
zip_from P R Q f (x ∷ xs) (y ∷ ys) p r = (f x y p.0 r.0, zip_from P R Q f xs ys p.1 r.1)

pub zip_right : {X Y : Type 0} (P : X → Type 0) (R : X → Y → Type 0) (Q : Y → Type 0) → ((x : X) (y : Y) → P x → R x y → Q y) → (xs : List X) (ys : List Y) → AllByRecursion P xs → AllZip R xs ys → AllByRecursion Q ys
zip_right P R Q f [] [] p r = tt
zip_right P R Q f [] (y ∷ ys) p r = absurd r
zip_right P R Q f (x ∷ xs) [] p r = absurd r
zip_right P R Q f (x ∷ xs) (y ∷ ys) p r = (f x y p.0 r.0, zip_right P R Q f xs ys p.1 r.1)
