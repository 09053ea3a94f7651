-- A run goes on by one atom, and the rows that came for each atom are those that its members accepted.
use Rattle.std.proofs.Common.{◌≡◌, ℕ, suc, ◌+◌, ◌==◌, ◌<◌, ◌≤◌, Bool, true, false, length, drop, slice_index_or, filter, option_map, option_and_then, List, [], ◌∷◌, ◌++◌, Option, Some, None, IfSome, arith, refl, sym, ap, ◌∙◌, append_assoc, append-nil, subst}
use Rattle.std.specs.List.{AllByRecursion}
use Rattle.std.proofs.lemmas.Bool.Decides.{nat_tests}
use Rattle.std.proofs.lemmas.List.{drop_all}
use Rattle.std.proofs.lemmas.List.Elements.{filter-append}
use Rattle.csv_wrap.specs.declared.members.MemberEnd.{MemberEnd}
use Rattle.med_base.specs.declared.outside.source.Source.{Ghosts as Source}
use Rattle.med_prelude.specs.Counts.{Rose}
use Rattle.tuple_core.specs.declared.columns.Column.{Column}
use Rattle.tuple_core.specs.declared.value.Value.{Value}
use Rattle.med_prelude.specs.Texts.{Bytes, ToldBytes}
use Rattle.med_top.specs.Atoms.{AreAllMembers, EndsAtoms, all_arrivals, arrivals_for, is_of}
use Rattle.med_top.specs.Members.{AreMembers, EndsRun, HasEnded, HasFailed, HasStalled, IsIdle, StopsAt, arrivals}
use Rattle.med_top.specs.declared.groups.RunEnd.{RunEnd}
use Rattle.med_top.specs.declared.groups.RunEnd.TheVariants as run
use Rattle.med_top.specs.declared.target.Target.{Target}
use Rattle.med_top.proofs.MemberLaws.{drop_at, rose_before}

abbrev Row : Type 0
Row = List Value

all_append : {A : Type 0} (P : A → Type 0) (xs ys : List A) → AllByRecursion P xs → AllByRecursion P ys → AllByRecursion P (xs ++ ys)
all_append P [] ys a b = b
all_append P (x ∷ xs) ys a b = (a.0, all_append P xs ys a.1 b)

all_weaker : {A : Type 0} (P Q : A → Type 0) → ((x : A) → P x → Q x) → (xs : List A) → AllByRecursion P xs → AllByRecursion Q xs
all_weaker P Q f [] a = tt
all_weaker P Q f (x ∷ xs) a = (f x a.0, all_weaker P Q f xs a.1)

filter_all : {A : Type 0} (test : A → Bool) (xs : List A) → AllByRecursion (λ x. test x ≡ true) xs → filter test xs ≡ xs
filter_all test [] a = refl
filter_all test (x ∷ xs) a = rw (a.0) (ap (λ more. x ∷ more) (filter_all test xs a.1))

filter_none : {A : Type 0} (test : A → Bool) (xs : List A) → AllByRecursion (λ x. test x ≡ false) xs → filter test xs ≡ []
filter_none test [] a = refl
filter_none test (x ∷ xs) a = rw (a.0) (filter_none test xs a.1)

same_number : (a b : ℕ) → a ≡ b → (a == b) ≡ true
same_number a b e = grind (arith, nat_tests)

less_differs : (a b : ℕ) → a < b → (a == b) ≡ false
less_differs a b e = grind (arith, nat_tests)

more_differs : (a b : ℕ) → b < a → (a == b) ≡ false
more_differs a b e = grind (arith, nat_tests)

-- ---- the members of each atom, with the rows that came for it

abbrev pub AreRead : {S M : Type 0} → Source S M → (Bytes → ToldBytes) → ℕ → List Target → List (MemberEnd S) → List (List Row) → Type 0
AreRead source told atom [] members rows = (members ≡ []) × (rows ≡ [])
AreRead {S} source told atom (target ∷ targets) members rows =
    (own : List (MemberEnd S)) × (others : List (MemberEnd S)) × (first : List Row) × (more : List (List Row))
    × (members ≡ own ++ others) × (rows ≡ first ∷ more) × AreMembers source target.columns told atom 1 target.locations own
    × IfSome (arrivals source target.columns own) (λ accepted. first ≡ accepted)
    × AreRead source told (atom + 1) targets others more

module _ {S M : Type 0} (source : Source S M) (told : Bytes → ToldBytes) where
  named_so : (columns : List Column) (atom group : ℕ) (locations : List Bytes) (members : List (MemberEnd S))
      → AreMembers source columns told atom group locations members → AllByRecursion (λ (m : MemberEnd S). m.name.atom ≡ atom) members
  named_so columns atom group [] [] are = tt
  named_so columns atom group [] (member ∷ members) are = absurd are
  named_so columns atom group (location ∷ locations) [] are = absurd are
  named_so columns atom group (location ∷ locations) (member ∷ members) are =
      (ap (λ name. name.atom) are.0.name, named_so columns atom (group + 1) locations members are.1)

  named_later : (before atom : ℕ) (targets : List Target) (members : List (MemberEnd S)) (rows : List (List Row)) → before < atom
      → AreRead source told atom targets members rows → AllByRecursion (λ (m : MemberEnd S). before < m.name.atom) members
  named_later before atom [] members rows less are = rw (are.0) tt
  named_later before atom (target ∷ targets) members rows less (own, others, first, more, split, ordered, are, accepted, rest) =
      rw split (all_append (λ (m : MemberEnd S). before < m.name.atom) own others
      (all_weaker (λ (m : MemberEnd S). m.name.atom ≡ atom) (λ (m : MemberEnd S). before < m.name.atom) (λ m e. omega (arith, e, less)) own (named_so target.columns atom 1 target.locations own are))
      (named_later before (atom + 1) targets others more (omega (arith, less)) rest))

  -- of all members those of the atom are the atom's own
  own_ones : (atom : ℕ) (target : Target) (targets : List Target) (front own others : List (MemberEnd S)) (more : List (List Row))
      → AllByRecursion (λ (m : MemberEnd S). m.name.atom < atom) front → AreMembers source target.columns told atom 1 target.locations own
      → AreRead source told (atom + 1) targets others more → filter (is_of atom) (front ++ (own ++ others)) ≡ own
  own_ones atom target targets front own others more earlier are rest =
      filter-append (is_of atom) front (own ++ others)
      ∙ rw (filter_none (is_of atom) front (all_weaker (λ (m : MemberEnd S). m.name.atom < atom) (λ m. is_of atom m ≡ false) (λ m less. less_differs m.name.atom atom less) front earlier))
      (filter-append (is_of atom) own others
      ∙ rw (
        filter_all (is_of atom) own (all_weaker (λ (m : MemberEnd S). m.name.atom ≡ atom) (λ m. is_of atom m ≡ true) (λ m e. same_number m.name.atom atom e) own (named_so target.columns atom 1 target.locations own are)),
        filter_none (is_of atom) others (all_weaker (λ (m : MemberEnd S). atom < m.name.atom) (λ m. is_of atom m ≡ false) (λ m less. more_differs m.name.atom atom less) others (named_later atom (atom + 1) targets others more (omega arith) rest)),
      )
      (append-nil own))

  both_told : (own : Option (List Row)) (others : Option (List (List Row))) (first : List Row) (more : List (List Row))
      → IfSome own (λ accepted. first ≡ accepted) → IfSome others (λ accepted. more ≡ accepted)
      → IfSome (option_and_then (λ rows. option_map (λ rest. rows ∷ rest) others) own) (λ accepted. first ∷ more ≡ accepted)
  both_told None others first more a b = tt
  both_told (Some rows) None first more a b = tt
  both_told (Some rows) (Some rest) first more a b = rw (a, b) refl

  read_arrived : (atom : ℕ) (targets : List Target) (front members : List (MemberEnd S)) (rows : List (List Row))
      → AllByRecursion (λ (m : MemberEnd S). m.name.atom < atom) front → AreRead source told atom targets members rows
      → IfSome (all_arrivals source (front ++ members) atom targets) (λ accepted. rows ≡ accepted)
  read_arrived atom [] front members rows earlier are = are.1
  read_arrived atom (target ∷ targets) front members rows earlier (own, others, first, more, split, ordered, are, accepted, rest) =
      subst (λ all. IfSome (all_arrivals source (front ++ all) atom (target ∷ targets)) (λ accepted. rows ≡ accepted)) (sym split)
      (subst (λ came. IfSome (all_arrivals source (front ++ (own ++ others)) atom (target ∷ targets)) (λ accepted. came ≡ accepted)) (sym ordered)
      (both_told (arrivals_for source (front ++ (own ++ others)) atom target) (all_arrivals source (front ++ (own ++ others)) (atom + 1) targets) first more
      (rw (own_ones atom target targets front own others more earlier are rest) accepted)
      (subst (λ all. IfSome (all_arrivals source all (atom + 1) targets) (λ told. more ≡ told)) (append_assoc front own others)
      (read_arrived (atom + 1) targets (front ++ own) others more
      (all_append (λ (m : MemberEnd S). m.name.atom < atom + 1) front own
      (all_weaker (λ (m : MemberEnd S). m.name.atom < atom) (λ (m : MemberEnd S). m.name.atom < atom + 1) (λ m less. omega (arith, less)) front earlier)
      (all_weaker (λ (m : MemberEnd S). m.name.atom ≡ atom) (λ (m : MemberEnd S). m.name.atom < atom + 1) (λ m e. omega (arith, e)) own (named_so target.columns atom 1 target.locations own are)))
      rest))))

  -- ---- a run so far, whatever comes for the atoms that are left

  abbrev pub EndsSoFar : List Target → ℕ → ℕ → ℕ → List (MemberEnd S) → List (List Row) → RunEnd → Type 0
  EndsSoFar targets index old new members rows run.Settled = AllByRecursion HasEnded members
      × ((ms : List (MemberEnd S)) (more : List (List Row)) → AreRead source told (index + 1) (drop index targets) ms more → AreRead source told 1 targets (members ++ ms) (rows ++ more))
  EndsSoFar targets index old new members rows (run.Starved group) = StopsAt members (HasFailed old new group)
  EndsSoFar targets index old new members rows run.Stalled = StopsAt members (HasStalled source)

  stops_behind : (stops stops_too : MemberEnd S → Type 0) (members own : List (MemberEnd S)) → ((m : MemberEnd S) → stops m → stops_too m)
      → AllByRecursion HasEnded members → StopsAt own stops → StopsAt (members ++ own) stops_too
  stops_behind stops stops_too members own weaker ended at = record {
    before = members ++ at.before;
    member = at.member;
    after = at.after;
    split = ap (λ more. members ++ more) at.split ∙ sym (append_assoc members at.before (at.member ∷ at.after));
    ended = all_append HasEnded members at.before ended at.ended;
    stops_so = weaker at.member at.stops_so;
    idle = at.idle;
  }

  stays_stopped : (stops stops_too : MemberEnd S → Type 0) (members own : List (MemberEnd S)) → ((m : MemberEnd S) → stops m → stops_too m)
      → AllByRecursion IsIdle own → StopsAt members stops → StopsAt (members ++ own) stops_too
  stays_stopped stops stops_too members own weaker idle at = record {
    before = at.before;
    member = at.member;
    after = at.after ++ own;
    split = ap (λ all. all ++ own) at.split ∙ append_assoc at.before (at.member ∷ at.after) own;
    ended = at.ended;
    stops_so = weaker at.member at.stops_so;
    idle = all_append IsIdle at.after own at.idle idle;
  }

  rose_after : (first old new : ℕ) → old ≤ new → Rose first old → Rose first new
  rose_after first old new up rose = grind (arith)

  next_index : (targets : List Target) (index : ℕ) (target : Target) → index < length targets → target ≡ slice_index_or targets index target
      → (P : ℕ → List Target → Type 0) → P (index + 1) (target ∷ drop (index + 1) targets) → P (index + 1) (drop index targets)
  next_index targets index target within is P p =
      let next : index + 1 ≡ suc index = omega arith in
      rw (drop_at targets index target within is) (subst (λ n. P (index + 1) (target ∷ drop n targets)) next p)

  module _ (targets : List Target) (index : ℕ) (target : Target) (first old new : ℕ) (members own : List (MemberEnd S)) (rows : List (List Row)) (came : List Row)
      (lower : first ≤ old) (up : old ≤ new) (within : index < length targets) (is : target ≡ slice_index_or targets index target)
      (are : AreMembers source target.columns told (index + 1) 1 target.locations own) where
    settled_on : (after : RunEnd) → EndsRun source target.columns old new own came after → EndsSoFar targets index first old members rows run.Settled
        → EndsSoFar targets (index + 1) first new (members ++ own) (rows ++ came ∷ []) after
    settled_on run.Settled ends so_far = (
      all_append HasEnded members own so_far.0 ends.0,
      λ ms more behind. rw (append_assoc members own ms, append_assoc rows (came ∷ []) more)
          (so_far.1 (own ++ ms) (came ∷ more) (next_index targets index target within is (λ n left. AreRead source told n left (own ++ ms) (came ∷ more))
          (own, ms, came, more, refl, refl, are, ends.1, behind))),
    )
    settled_on (run.Starved group) ends so_far = stops_behind (HasFailed old new group) (HasFailed first new group) members own
        (λ m failed. record { failed = failed.failed; named = failed.named; opening = λ none. rose_before first old new lower (failed.opening none) }) so_far.0 ends
    settled_on run.Stalled ends so_far = stops_behind (HasStalled source) (HasStalled source) members own (λ m stalled. stalled) so_far.0 ends

    stopped_on : (end : RunEnd) → (end ≡ run.Settled → ⊥) → AllByRecursion IsIdle own → EndsSoFar targets index first old members rows end
        → EndsSoFar targets (index + 1) first new (members ++ own) (rows ++ came ∷ []) end
    stopped_on run.Settled stopped idle so_far = absurd (stopped refl)
    stopped_on (run.Starved group) stopped idle so_far = stays_stopped (HasFailed first old group) (HasFailed first new group) members own
        (λ m failed. record { failed = failed.failed; named = failed.named; opening = λ none. rose_after first old new up (failed.opening none) }) idle so_far
    stopped_on run.Stalled stopped idle so_far = stays_stopped (HasStalled source) (HasStalled source) members own (λ m stalled. stalled) idle so_far

    pub ends_on : (end after : RunEnd) → (end ≡ run.Settled → EndsRun source target.columns old new own came after)
        → ((end ≡ run.Settled → ⊥) → AllByRecursion IsIdle own × (after ≡ end)) → EndsSoFar targets index first old members rows end
        → EndsSoFar targets (index + 1) first new (members ++ own) (rows ++ came ∷ []) after
    ends_on run.Settled after ends stays so_far = settled_on after (ends refl) so_far
    ends_on (run.Starved group) after ends stays so_far =
        let left = stays (λ e. cc e) in rw (left.1) (stopped_on (run.Starved group) (λ e. cc e) left.0 so_far)
    ends_on run.Stalled after ends stays so_far =
        let left = stays (λ e. cc e) in rw (left.1) (stopped_on run.Stalled (λ e. cc e) left.0 so_far)

    -- the members so far have those of one more atom behind them
    pub atom_members : ((more : List (MemberEnd S)) → AreAllMembers source told (index + 1) (drop index targets) more → AreAllMembers source told 1 targets (members ++ more))
        → (more : List (MemberEnd S)) → AreAllMembers source told (index + 1 + 1) (drop (index + 1) targets) more → AreAllMembers source told 1 targets ((members ++ own) ++ more)
    atom_members so_far more behind =
        rw (append_assoc members own more) (so_far (own ++ more) (next_index targets index target within is (λ n left. AreAllMembers source told n left (own ++ more)) (own, more, refl, are, behind)))

  pub all_members : (targets : List Target) (index : ℕ) (members : List (MemberEnd S)) → length targets ≤ index
      → ((more : List (MemberEnd S)) → AreAllMembers source told (index + 1) (drop index targets) more → AreAllMembers source told 1 targets (members ++ more))
      → AreAllMembers source told 1 targets members
  all_members targets index members all so_far =
      subst (AreAllMembers source told 1 targets) (append-nil members) (so_far [] (rw (drop_all index targets all) refl))

  pub ends_all : (targets : List Target) (index old new : ℕ) (members : List (MemberEnd S)) (rows : List (List Row)) (end : RunEnd) → length targets ≤ index
      → EndsSoFar targets index old new members rows end → EndsAtoms source targets old new members rows end
  ends_all targets index old new members rows run.Settled all so_far =
      let read = so_far.1 [] [] (rw (drop_all index targets all) (refl, refl)) in
      (so_far.0, read_arrived 1 targets [] members rows tt (rw (append-nil members, append-nil rows) at read))
  ends_all targets index old new members rows (run.Starved group) all so_far = so_far
  ends_all targets index old new members rows run.Stalled all so_far = so_far
