-- A change of one member that isn't at its end before nor after keeps what a net says of its atoms.
use Rattle.std.proofs.Common.{◌≡◌, ◌==◌, ◌&&◌, ◌||◌, ℕ, zero, suc, Bool, true, false, List, [], ◌∷◌, set, slice_get, Option, Some, None, Result, Ok, Err, refl, sym, ap, subst, ◌∙◌}
use Rattle.std.specs.Prelude.{IfOk, IsSomeAnd, OnErr}
use Rattle.std.specs.List.{find, list_all, list_any, position}
use Rattle.med_base.specs.declared.member.MemberState.TheVariants as state
use Rattle.med_base.specs.declared.outside.source.Source.{Ghosts as Source}
use Rattle.tuple_core.specs.Values.{RowList}
use Rattle.collect_core.specs.Collecting.{Collecting}
use Rattle.collect_core.specs.Giving.{FailsOpening, Gives, IsIdleAt}
use Rattle.collect_core.specs.Members.{AreSound, AreTold, HasAccepted, Member, are_settled, is_ended, is_in, is_settled, member_now, member_now_with}
use Rattle.collect_core.specs.Reading.{Reader}
use Rattle.collect_core.proofs.Places.{some_holds}
use Rattle.step_core.specs.Members.{KeepsLeaf}
use Rattle.step_core.specs.Nets.{LeafState}
use Rattle.step_core.proofs.Finding.{found_at, found_none}

-- ---- one element is put in the place of another that passes alike

any_set : {X : Type 0} (p : X → Bool) (xs : List X) (i : ℕ) (x y : X) → slice_get xs i ≡ Some x → p y ≡ p x → list_any p (set xs i y) ≡ list_any p xs
any_set p [] i x y at e = cc
any_set p (z ∷ zs) zero x y at e = let same : z ≡ x = cc in ap (λ b. b || list_any p zs) (e ∙ ap p (sym same))
any_set p (z ∷ zs) (suc i) x y at e = ap (λ b. p z || b) (any_set p zs i x y at e)

every_set : {X : Type 0} (p : X → Bool) (xs : List X) (i : ℕ) (x y : X) → slice_get xs i ≡ Some x → p y ≡ p x → list_all p (set xs i y) ≡ list_all p xs
every_set p [] i x y at e = cc
every_set p (z ∷ zs) zero x y at e = let same : z ≡ x = cc in ap (λ b. b && list_all p zs) (e ∙ ap p (sym same))
every_set p (z ∷ zs) (suc i) x y at e = ap (λ b. p z && b) (every_set p zs i x y at e)

every_same : {X : Type 0} (p q : X → Bool) → ((x : X) → p x ≡ q x) → (xs : List X) → list_all p xs ≡ list_all q xs
every_same p q same [] = refl
every_same p q same (x ∷ xs) = ap (λ b. b && list_all p xs) (same x) ∙ ap (λ b. q x && b) (every_same p q same xs)

-- ---- groups are settled as before

settled_kept : {S : Type 0} (members : List (Member S)) (i : ℕ) (old new : Member S) → slice_get members i ≡ Some old → new.name ≡ old.name → is_ended (member_now new).state ≡ is_ended (member_now old).state
    → are_settled (set members i new) ≡ are_settled members
settled_kept {S} members i old new at name ended =
    every_same (λ m. is_settled (set members i new) m.name.group) (λ m. is_settled members m.name.group) (λ m. settled m.name.group) (set members i new)
    ∙ every_set (λ m. is_settled members m.name.group) members i old new at (ap (λ n. is_settled members n.group) name)
  where
    settled : (group : ℕ) → is_settled (set members i new) group ≡ is_settled members group
    settled group = any_set (λ m. is_in group m && is_ended (member_now m).state) members i old new at (ap (λ n. (n.group == group) && is_ended (member_now new).state) name ∙ ap (λ b. is_in group old && b) ended)

giving_ended : {S M : Type 0} (source : Source S M) (s t : Collecting S) (index : ℕ) (given : S) (h : Gives source s t index given) → is_ended (member_now h.new).state ≡ false
giving_ended source s t index given h = ap (λ m. is_ended (member_now m).state) h.gives.2 ∙ ap is_ended h.gives.1.state_is

failing_ended : {S : Type 0} (opening_failed : Bool) (o : Option (Reader S)) → (member_now_with opening_failed o).state ≡ state.Idle → is_ended (member_now_with true o).state ≡ false
failing_ended opening_failed None e = refl
failing_ended opening_failed (Some r) e = ap is_ended e

idle_there : {S : Type 0} (members : List (Member S)) (index : ℕ) (old : Member S) → slice_get members index ≡ Some old → IsIdleAt members index → (member_now old).state ≡ state.Idle
idle_there members index old at idle = some_holds (λ m. (member_now m).state ≡ state.Idle) (slice_get members index) old at idle

-- ---- an atom

pub leaf_same : {S M : Type 0} (source : Source S M) (l k : LeafState S) → k ≡ l → KeepsLeaf source l k
leaf_same source l k same = subst (KeepsLeaf source l) (sym same) (record { select = refl; accepted = λ accepted has. has; settled = refl; told = λ accepted has told. told; sound = λ sound. sound })

pub giving_keeps : {S M : Type 0} (source : Source S M) (l k : LeafState S) (index : ℕ) (given : S) → Gives source l.collecting k.collecting index given → IsIdleAt l.collecting.members index
    → ((accepted : List RowList) → HasAccepted source l.collecting.members accepted → HasAccepted source k.collecting.members accepted)
    → ((accepted : List RowList) → HasAccepted source k.collecting.members accepted → AreTold source k.collecting.columns k.collecting.members accepted)
    → AreSound source k.collecting.columns k.collecting.members → KeepsLeaf source l k
giving_keeps source l k index given h idle accepted told sound = record {
  told = λ rows has was. told rows (accepted rows has);
  sound = λ was. sound;
  select = ap (λ c. c.select) h.changed;
  accepted = accepted;
  settled = ap (λ c. are_settled c.members) h.changed ∙ settled_kept l.collecting.members index h.old h.new h.at (ap (λ m. m.name) h.gives.2)
      (giving_ended source l.collecting k.collecting index given h ∙ sym (ap is_ended (idle_there l.collecting.members index h.old h.at idle)));
}

pub giving_keeps_after : {S M E : Type 0} (source : Source S M) (l k : LeafState S) (index : ℕ) (given : S) (result : Result (Unit {0}) E) → IfOk result (λ _. Gives source l.collecting k.collecting index given)
    → OnErr result (k.collecting ≡ l.collecting) → k.atom ≡ l.atom → IsIdleAt l.collecting.members index
    → ((accepted : List RowList) → HasAccepted source l.collecting.members accepted → HasAccepted source k.collecting.members accepted)
    → ((accepted : List RowList) → HasAccepted source k.collecting.members accepted → AreTold source k.collecting.columns k.collecting.members accepted)
    → AreSound source k.collecting.columns k.collecting.members → KeepsLeaf source l k
giving_keeps_after source l k index given (Ok x) ok err atom idle accepted told sound = giving_keeps source l k index given ok idle accepted told sound
giving_keeps_after source l k index given (Err x) ok err atom idle accepted told sound = record { told = λ rows has was. told rows (accepted rows has); sound = λ was. sound; select = ap (λ c. c.select) err; accepted = accepted; settled = ap (λ c. are_settled c.members) err }

pub failing_keeps : {S M : Type 0} (source : Source S M) (l k : LeafState S) (index : ℕ) → FailsOpening l.collecting k.collecting index → IsIdleAt l.collecting.members index
    → ((accepted : List RowList) → HasAccepted source l.collecting.members accepted → HasAccepted source k.collecting.members accepted)
    → ((accepted : List RowList) → HasAccepted source k.collecting.members accepted → AreTold source k.collecting.columns k.collecting.members accepted)
    → AreSound source k.collecting.columns k.collecting.members → KeepsLeaf source l k
failing_keeps {S} {M} source l k index h idle accepted told sound = record {
  told = λ rows has was. told rows (accepted rows has);
  sound = λ was. sound;
  select = ap (λ c. c.select) h.changed;
  accepted = accepted;
  settled = ap (λ c. are_settled c.members) h.changed ∙ settled_kept l.collecting.members index h.old (record h.old { opening_failed = true }) h.at refl
      (failing_ended h.old.opening_failed h.old.reader was ∙ sym (ap is_ended was));
}
  where
    was : (member_now h.old).state ≡ state.Idle
    was = idle_there l.collecting.members index h.old h.at idle

-- ---- the member that was found

pub found_holds : {X : Type 0} (P : X → Type 0) (p : X → Bool) (xs : List X) (i : ℕ) → position p xs ≡ Some i → IsSomeAnd (find p xs) P → IsSomeAnd (slice_get xs i) P
found_holds P p xs i e h = subst (λ o. IsSomeAnd o P) (found_at p xs i e) h

pub found_somewhere : {X : Type 0} (P : X → Type 0) (p : X → Bool) (xs : List X) → position p xs ≡ None → IsSomeAnd (find p xs) P → ⊥
found_somewhere P p xs e h = subst (λ o. IsSomeAnd o P) (found_none p xs e) h
