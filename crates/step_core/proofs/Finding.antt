-- Where the member of a name stands.
use Rattle.std.proofs.Common.{◌≡◌, ◌≤◌, ℕ, Bool, true, false, List, length, cond, nat_lt, Option, Some, None, option_map, refl, sym, ap, subst, ◌∙◌, arith}
use Rattle.std.specs.Prelude.{IsSomeAnd}
use Rattle.std.specs.List.{find, position, position_or_len, slice_get}
use Rattle.std.specs.Option.{is_some, option_or}
use Rattle.std.proofs.lemmas.Bool.{false≢true}
use Rattle.std.proofs.lemmas.Bool.Decides.{nat_tests}
use Rattle.std.proofs.lemmas.List.Folds.{find-append, find_at}
use Rattle.std.proofs.lemmas.Option.{cond_some, none-some, slice_get_past}
use Rattle.med_base.specs.declared.names.MemberName.{MemberName}
use Rattle.collect_core.specs.Members.{Member, is_named, member_now}
use Rattle.step_core.specs.Members.{member_in, members_of}
use Rattle.step_core.specs.Nets.{JoinState, NetTree, fork}

pub found_at : {X : Type 0} (p : X → Bool) (xs : List X) (i : ℕ) → position p xs ≡ Some i → find p xs ≡ slice_get xs i
found_at p xs i e = find_at p xs ∙ ap (slice_get xs) (cond_some (nat_lt (position_or_len p xs) (length xs)) (position_or_len p xs) i e).1

pub found_none : {X : Type 0} (p : X → Bool) (xs : List X) → position p xs ≡ None → find p xs ≡ None
found_none {X} p xs e = go (nat_lt n (length xs)) refl e
  where
    n : ℕ
    n = position_or_len p xs

    past : nat_lt n (length xs) ≡ false → length xs ≤ n
    past over = Prim.grind (arith, nat_tests, over)

    go : (b : Bool) → nat_lt n (length xs) ≡ b → ◌≡◌ {A = Option ℕ} (cond b (Some n) None) None → find p xs ≡ None
    go true under none = absurd (none-some n (sym none))
    go false over none = find_at p xs ∙ slice_get_past xs n (past over)

-- what is read of the member found
pub found_as : {S Y : Type 0} (f : Member S → Y) (name : MemberName) (members : List (Member S)) (i : ℕ) (y : Y) → position (is_named name) members ≡ Some i → IsSomeAnd (slice_get members i) (λ m. y ≡ f m)
    → Some y ≡ option_map f (find (is_named name) members)
found_as {S} {Y} f name members i y e h = subst (λ o. Some y ≡ option_map f o) (sym (found_at (is_named name) members i e)) (go (slice_get members i) h)
  where
    go : (o : Option (Member S)) → IsSomeAnd o (λ m. y ≡ f m) → Some y ≡ option_map f o
    go None h = absurd h
    go (Some m) h = ap Some h

pub turned : {X Y : Type 0} (f : X → Y) (o : Option X) (y : Y) → IsSomeAnd o (λ x. f x ≡ y) → IsSomeAnd o (λ x. y ≡ f x)
turned f None y h = absurd h
turned f (Some x) y h = sym h

-- ---- a join's members are those on its left and then those on its right

pub named_left : {S : Type 0} (name : MemberName) (j : JoinState) (a b : NetTree S) (m : Member S) → member_in name a ≡ Some m → member_in name (fork j a b) ≡ Some m
named_left name j a b m e = find-append (is_named name) (members_of a) (members_of b) ∙ ap (λ o. option_or o (member_in name b)) e

pub named_right : {S : Type 0} (name : MemberName) (j : JoinState) (a b : NetTree S) → member_in name a ≡ None → member_in name (fork j a b) ≡ member_in name b
named_right name j a b e = find-append (is_named name) (members_of a) (members_of b) ∙ ap (λ o. option_or o (member_in name b)) e

-- what is read of the member, by what is read of it on the left or on the right
pub as_left : {S Y : Type 0} (f : Member S → Y) (name : MemberName) (j : JoinState) (a b : NetTree S) (y : Y) → Some y ≡ option_map f (member_in name a) → Some y ≡ option_map f (member_in name (fork j a b))
as_left {S} {Y} f name j a b y h = go (member_in name a) refl h
  where
    go : (o : Option (Member S)) → member_in name a ≡ o → Some y ≡ option_map f o → Some y ≡ option_map f (member_in name (fork j a b))
    go None e h = absurd (none-some y (sym h))
    go (Some m) e h = h ∙ sym (ap (option_map f) (named_left name j a b m e))

pub as_right : {S Y : Type 0} (f : Member S → Y) (name : MemberName) (j : JoinState) (a b : NetTree S) (result : Option Y) → None ≡ option_map f (member_in name a) → result ≡ option_map f (member_in name b)
    → result ≡ option_map f (member_in name (fork j a b))
as_right {S} {Y} f name j a b result h is = go (member_in name a) refl h
  where
    go : (o : Option (Member S)) → member_in name a ≡ o → None ≡ option_map f o → result ≡ option_map f (member_in name (fork j a b))
    go None e h = is ∙ sym (ap (option_map f) (named_right name j a b e))
    go (Some m) e h = absurd (none-some (f m) h)

-- the member is on the side where it was found
pub holds_left : {S : Type 0} (P : Member S → Type 0) (name : MemberName) (j : JoinState) (a b : NetTree S) → is_some (option_map member_now (member_in name a)) ≡ true → IsSomeAnd (member_in name (fork j a b)) P
    → IsSomeAnd (member_in name a) P
holds_left {S} P name j a b is h = go (member_in name a) refl is
  where
    go : (o : Option (Member S)) → member_in name a ≡ o → is_some (option_map member_now o) ≡ true → IsSomeAnd (member_in name a) P
    go None e is = absurd (false≢true is)
    go (Some m) e is = subst (λ o. IsSomeAnd o P) (named_left name j a b m e ∙ sym e) h

pub holds_right : {S : Type 0} (P : Member S → Type 0) (name : MemberName) (j : JoinState) (a b : NetTree S) → is_some (option_map member_now (member_in name a)) ≡ false → IsSomeAnd (member_in name (fork j a b)) P
    → IsSomeAnd (member_in name b) P
holds_right {S} P name j a b is h = go (member_in name a) refl is
  where
    go : (o : Option (Member S)) → member_in name a ≡ o → is_some (option_map member_now o) ≡ false → IsSomeAnd (member_in name b) P
    go None e is = subst (λ o. IsSomeAnd o P) (named_right name j a b e) h
    go (Some m) e is = absurd (false≢true (sym is))
