-- The least of a list, piece by piece.
use Rattle.std.proofs.Common.{◌≡◌, Bool, true, false, List, [], ◌∷◌, ◌++◌, map, Option, Some, None, Contains, if◌then◌else◌, refl, sym, subst, ap, ◌∙◌, true≢false, arith}
use Rattle.std.specs.Prelude.{option_map}
use Rattle.std.specs.List.{AllByRecursion}
use Rattle.std.proofs.lemmas.List.Elements.{Contains-append_right}
use Rattle.text_reading.specs.Order.{IsOrder, least, lesser}

pub lesser_none : {A : Type 0} (up_to : A → A → Bool) (a : Option A) → lesser up_to a None ≡ a
lesser_none up_to None = refl
lesser_none up_to (Some x) = refl

module _ {A : Type 0} (up_to : A → A → Bool) (order : IsOrder up_to) where
  three : (x y z : A) (xy yz xz : Bool) → up_to x y ≡ xy → up_to y z ≡ yz → up_to x z ≡ xz
      → lesser up_to (lesser up_to (Some x) (Some y)) (Some z) ≡ lesser up_to (Some x) (lesser up_to (Some y) (Some z))
  three x y z true true true a b c = rw (b, a, c) refl
  three x y z true true false a b c = absurd (true≢false (sym (order.chain x y z a b) ∙ c))
  three x y z true false xz a b c = rw (b, a) refl
  three x y z false true xz a b c = rw (a, b, a) refl
  three x y z false false false a b c = rw (a, b, c) refl
  three x y z false false true a b c = absurd (true≢false (sym (order.chain y x z (order.total x y a) c) ∙ b))

  pub lesser_assoc : (a b c : Option A) → lesser up_to (lesser up_to a b) c ≡ lesser up_to a (lesser up_to b c)
  lesser_assoc None b c = refl
  lesser_assoc (Some x) None c = refl
  lesser_assoc (Some x) (Some y) None = lesser_none up_to (lesser up_to (Some x) (Some y))
  lesser_assoc (Some x) (Some y) (Some z) = three x y z (up_to x y) (up_to y z) (up_to x z) refl refl refl

  pub least_append : (xs ys : List A) → least up_to (xs ++ ys) ≡ lesser up_to (least up_to xs) (least up_to ys)
  least_append [] ys = refl
  least_append (x ∷ xs) ys = ap (lesser up_to (Some x)) (least_append xs ys) ∙ sym (lesser_assoc (Some x) (least up_to xs) (least up_to ys))

  -- x is the least of a list: it is one of them, and up to each
  abbrev pub IsLeast : List A → Option A → Type 0
  IsLeast xs None = xs ≡ []
  IsLeast xs (Some x) = Contains xs x × AllByRecursion (λ y. up_to x y ≡ true) xs

  below_all : (x y : A) (ys : List A) → up_to x y ≡ true → AllByRecursion (λ z. up_to y z ≡ true) ys → AllByRecursion (λ z. up_to x z ≡ true) ys
  below_all x y [] e all = tt
  below_all x y (z ∷ ys) e all = (order.chain x y z e all.0, below_all x y ys e all.1)

  first : (x : A) (xs : List A) → Contains (x ∷ xs) x
  first x xs = (0, omega arith, refl)

  lesser_is_least : (x : A) (xs : List A) (m : Option A) → IsLeast xs m → IsLeast (x ∷ xs) (lesser up_to (Some x) m)
  lesser_is_least x xs None none = (first x xs, (order.itself x, subst (AllByRecursion (λ y. up_to x y ≡ true)) (sym none) tt))
  lesser_is_least x xs (Some y) least_of = by (up_to x y) refl
    where
      by : (b : Bool) → up_to x y ≡ b → IsLeast (x ∷ xs) (if b then Some x else Some y)
      by true e = (first x xs, (order.itself x, below_all x y xs e least_of.1))
      by false e = (Contains-append_right (x ∷ []) xs y least_of.0, (order.total x y e, least_of.1))

  pub least_is_least : (xs : List A) → IsLeast xs (least up_to xs)
  least_is_least [] = refl
  least_is_least (x ∷ xs) = lesser_is_least x xs (least up_to xs) (least_is_least xs)

-- Values that are made from others, in the same order.
module _ {A B : Type 0} (up_to : A → A → Bool) (made_up_to : B → B → Bool) (make : A → B) (keeps : (x y : A) → made_up_to (make x) (make y) ≡ up_to x y) where
  two : (x y : A) (b : Bool) → up_to x y ≡ b → lesser made_up_to (Some (make x)) (Some (make y)) ≡ option_map make (lesser up_to (Some x) (Some y))
  two x y true e = rw (keeps x y, e) refl
  two x y false e = rw (keeps x y, e) refl

  lesser_map : (x : A) (m : Option A) → lesser made_up_to (Some (make x)) (option_map make m) ≡ option_map make (lesser up_to (Some x) m)
  lesser_map x None = refl
  lesser_map x (Some y) = two x y (up_to x y) refl

  pub least_map : (xs : List A) → least made_up_to (map make xs) ≡ option_map make (least up_to xs)
  least_map [] = refl
  least_map (x ∷ xs) = ap (lesser made_up_to (Some (make x))) (least_map xs) ∙ lesser_map x (least up_to xs)
