-- A run goes on by one member: the next one ran, or it was left alone behind one that stopped the run.
use Rattle.std.proofs.Common.{◌≡◌, ℕ, zero, suc, ◌+◌, ◌<◌, length, drop, slice_index_or, if◌then◌else◌, option_map, Result, Ok, Err, OnOk, IfOk, ◌≤◌, List, [], ◌∷◌, ◌++◌, Option, Some, None, IfSome, arith, refl, sym, ap, ◌∙◌, append_assoc, append-nil, length-append, subst}
use Rattle.std.specs.List.{AllByRecursion}
use Rattle.std.specs.Option.{option_to_list}
use Rattle.std.proofs.lemmas.List.{drop_all}
use Rattle.csv_wrap.specs.declared.members.MemberEnd.{MemberEnd}
use Rattle.csv_wrap.specs.Sound.{IsSoundState, accepted_rows, asked_locations, given_marks, was_asked}
use Rattle.csv_wrap.specs.Wrapped.{SameSource, SoundAs, Wrapped}
use Rattle.med_base.specs.declared.member.MemberFault.{MemberFault}
use Rattle.med_base.specs.declared.member.MemberState.{MemberState}
use Rattle.med_base.specs.declared.names.MemberName.{MemberName}
use Rattle.med_prelude.specs.Texts.{Bytes, ToldBytes}
use Rattle.tuple_core.specs.Values.{RowList}
use Rattle.med_top.specs.Taking.{HasTaken}
use Rattle.med_base.specs.declared.outside.source.Source.{Ghosts as Source}
use Rattle.med_prelude.specs.Counts.{Rose}
use Rattle.tuple_core.specs.declared.columns.Column.{Column}
use Rattle.tuple_core.specs.declared.value.Value.{Value}
use Rattle.med_top.specs.Members.{Advances, AreMembers, EndsMember, EndsRun, HasEnded, HasFailed, HasStalled, IsIdle, IsMemberOf, StopsAt, arrivals, idle_member, member_of, with_more}
use Rattle.med_top.specs.declared.groups.GroupsRead.{GroupsRead}
use Rattle.med_top.specs.declared.groups.RunEnd.{RunEnd}
use Rattle.med_top.specs.declared.groups.RunEnd.TheVariants as run

all_more : {A : Type 0} (P : A → Type 0) (xs : List A) (x : A) → AllByRecursion P xs → P x → AllByRecursion P (xs ++ x ∷ [])
all_more P [] x all p = (p, tt)
all_more P (y ∷ ys) x all p = (all.0, all_more P ys x all.1 p)

pub rose_before : (first old new : ℕ) → first ≤ old → Rose old new → Rose first new
rose_before first old new lower rose = grind (arith)

-- a member that accepted what its wrapper gave
pub member_sound : {S M : Type 0} (source : Source S M) (columns : List Column) (first : S) (atom group : ℕ) (at : Bytes) (w : Wrapped S) (before rows : RowList) (state : MemberState) (why : Option MemberFault) (accepted : ℕ) (name : MemberName) (member : MemberEnd S)
    → member ≡ record { name = name; location = at; state = state; fault = why; accepted = accepted; source = Some w.source }
    → name ≡ member_of atom group → source.location first ≡ at → SameSource source first w.source → w.ahead.columns ≡ columns
    → HasTaken source w before rows → accepted + length before ≡ length rows → SoundAs source w state why → IsMemberOf source columns (λ _. source.whole first) atom group at member
member_sound source columns first atom group at w before rows state why accepted name member is named located same of_columns taken count sound =
    let own : w.accepted ≡ accepted = omega (arith, taken.has.0, count, ap length taken.behind, length-append before taken.given) in
    let P : List Column → ℕ → Type 0 = λ cs n. IsSoundState cs (source.taken w.source) (source.whole w.source) (source.faults w.source) n state why in
    rw is (record {
      name = named;
      location = refl;
      sound = (same.location ∙ located, subst (λ cs. P cs accepted) of_columns (subst (P w.ahead.columns) own (sound taken.given taken.has)));
      whole = same.whole;
    })

-- what holds for all counts holds for these
pub at_counts : {A E : Type 0} (result : Result A E) (P : A → ℕ → ℕ → Type 0) (old new : ℕ) → IfOk result (λ x. (a : ℕ) (b : ℕ) → P x a b) → IfOk result (λ x. P x old new)
at_counts (Ok x) P old new h = h old new
at_counts (Err e) P old new h = tt

-- the rows of one member more
with_more_twice : (a b c : Option RowList) → with_more a (with_more b c) ≡ with_more (with_more a b) c
with_more_twice None b c = refl
with_more_twice (Some x) None c = refl
with_more_twice (Some x) (Some y) None = refl
with_more_twice (Some x) (Some y) (Some z) = rw (append_assoc x y z) refl

with_nothing : (a : Option RowList) → with_more a (Some []) ≡ a
with_nothing None = refl
with_nothing (Some x) = rw (append-nil x) refl

nothing_with : (a : Option RowList) → with_more (Some []) a ≡ a
nothing_with None = refl
nothing_with (Some x) = refl

arrivals_more : {S M : Type 0} (source : Source S M) (columns : List Column) (members : List (MemberEnd S)) (member : MemberEnd S)
    → arrivals source columns (members ++ member ∷ []) ≡ with_more (arrivals source columns members) (accepted_rows source columns member)
arrivals_more source columns [] member = with_nothing (accepted_rows source columns member) ∙ sym (nothing_with (accepted_rows source columns member))
arrivals_more source columns (first ∷ members) member =
    ap (with_more (accepted_rows source columns first)) (arrivals_more source columns members member)
    ∙ with_more_twice (accepted_rows source columns first) (arrivals source columns members) (accepted_rows source columns member)

told_more : (before accepted : Option RowList) (rows more : RowList)
    → IfSome before (λ all. rows ≡ all) → IfSome accepted (λ own. more ≡ rows ++ own) → IfSome (with_more before accepted) (λ all. more ≡ all)
told_more None accepted rows more front own = tt
told_more (Some all) None rows more front own = tt
told_more (Some all) (Some last) rows more front own = own ∙ ap (λ start. start ++ last) front

-- the next member ran, behind members that were all read to their ends
pub run_on : {S M : Type 0} (source : Source S M) (columns : List Column) (first old new : ℕ) (members : List (MemberEnd S)) (rows more : RowList) (member : MemberEnd S) (end : RunEnd)
    → first ≤ old → EndsRun source columns first old members rows run.Settled → EndsMember source columns old new rows more member end
    → EndsRun source columns first new (members ++ member ∷ []) more end
run_on source columns first old new members rows more member run.Settled lower so_far ends = (
  all_more HasEnded members member so_far.0 ends.0,
  subst (λ all. IfSome all (λ told. more ≡ told)) (sym (arrivals_more source columns members member)) (told_more (arrivals source columns members) (accepted_rows source columns member) rows more so_far.1 ends.1),
)
run_on source columns first old new members rows more member (run.Starved group) lower so_far ends =
    record {
      before = members;
      member = member;
      after = [];
      split = refl;
      ended = so_far.0;
      stops_so = record { failed = ends.failed; named = ends.named; opening = λ none. rose_before first old new lower (ends.opening none) };
      idle = tt;
    }
run_on source columns first old new members rows more member run.Stalled lower so_far ends =
    record { before = members; member = member; after = []; split = refl; ended = so_far.0; stops_so = ends; idle = tt }

stays_stopped : {S : Type 0} (members : List (MemberEnd S)) (stops : MemberEnd S → Type 0) (member : MemberEnd S) → IsIdle member → StopsAt members stops → StopsAt (members ++ member ∷ []) stops
stays_stopped members stops member idle at = record {
  before = at.before;
  member = at.member;
  after = at.after ++ member ∷ [];
  split = ap (λ all. all ++ member ∷ []) at.split ∙ append_assoc at.before (at.member ∷ at.after) (member ∷ []);
  ended = at.ended;
  stops_so = at.stops_so;
  idle = all_more IsIdle at.after member at.idle idle;
}

-- the next member was left alone, behind one that failed or stalled
pub starved_on : {S M : Type 0} (source : Source S M) (columns : List Column) (first old : ℕ) (members : List (MemberEnd S)) (rows : RowList) (member : MemberEnd S) (end : RunEnd)
    → (end ≡ run.Settled → ⊥) → IsIdle member → EndsRun source columns first old members rows end → EndsRun source columns first old (members ++ member ∷ []) rows end
starved_on source columns first old members rows member run.Settled runs idle so_far = absurd (runs refl)
starved_on source columns first old members rows member (run.Starved group) runs idle so_far = stays_stopped members (HasFailed first old group) member idle so_far
starved_on source columns first old members rows member run.Stalled runs idle so_far = stays_stopped members (HasStalled source) member idle so_far

-- the next member is listed as one that was never opened
pub left_alone : {S M E : Type 0} (source : Source S M) (columns : List Column) (told : Bytes → ToldBytes) (name : MemberName) (at : Bytes) (faults : ℕ) (asked : List Bytes) (given : List M) (old new : GroupsRead S) (result : Result (Unit {0}) E)
    → name ≡ member_of name.atom name.group → (old.end ≡ run.Settled → ⊥)
    → OnOk result (new.members ≡ old.members ++ idle_member name at ∷ []) → new.rows ≡ old.rows → new.end ≡ old.end
    → OnOk result (Advances source columns told name.atom name.group at (record { faults = record { old = faults; new = faults }; asked = record { old = asked; new = asked }; given = record { old = given; new = given } }) old new)
left_alone source columns told name at faults asked given old new (Err e) named runs grown rows end = tt
left_alone source columns told name at faults asked given old new (Ok done) named runs grown rows end = record {
  member = idle_member name at;
  grown = grown;
  is_member = record { name = named; location = refl; sound = (refl, tt); whole = tt };
  asked = sym (append-nil asked);
  given = sym (append-nil given);
  stays = λ _. ((refl, refl), end);
  ends = λ first lower so_far. rw (grown, rows, end) (starved_on source columns first faults old.members old.rows (idle_member name at) old.end runs (refl, refl) so_far);
}

pub asked_more : {S : Type 0} (members more : List (MemberEnd S)) → asked_locations (members ++ more) ≡ asked_locations members ++ asked_locations more
asked_more [] more = refl
asked_more (member ∷ members) more =
    let own : List Bytes = if was_asked member.source member.state then member.location ∷ [] else [] in
    ap (λ rest. own ++ rest) (asked_more members more) ∙ sym (append_assoc own (asked_locations members) (asked_locations more))

pub given_more : {S M : Type 0} (source : Source S M) (members more : List (MemberEnd S)) → given_marks source (members ++ more) ≡ given_marks source members ++ given_marks source more
given_more source [] more = refl
given_more {M = M} source (member ∷ members) more =
    let own : List M = option_to_list (option_map source.mark member.source) in
    ap (λ rest. own ++ rest) (given_more source members more) ∙ sym (append_assoc own (given_marks source members) (given_marks source more))

pub appended : {A : Type 0} (old mid new xs ys all : List A) → mid ≡ old ++ xs → new ≡ mid ++ ys → all ≡ xs ++ ys → new ≡ old ++ all
appended old mid new xs ys all first second is = second ∙ ap (λ front. front ++ ys) first ∙ append_assoc old xs ys ∙ ap (λ more. old ++ more) (sym is)

pub drop_at : {A : Type 0} (xs : List A) (index : ℕ) (x : A) → index < length xs → x ≡ slice_index_or xs index x → drop index xs ≡ x ∷ drop (suc index) xs
drop_at [] index x within is = absurd (omega (arith, within))
drop_at (y ∷ ys) zero x within is = ap (λ first. first ∷ ys) (sym is)
drop_at (y ∷ ys) (suc index) x within is = drop_at ys index x (omega (arith, within)) is

-- the members so far have one more behind them, whatever the others will be
pub members_on : {S M : Type 0} (source : Source S M) (columns : List Column) (told : Bytes → ToldBytes) (atom : ℕ) (locations : List Bytes) (index : ℕ) (at : Bytes) (name : MemberName) (member : MemberEnd S) (old new : List (MemberEnd S))
    → index < length locations → at ≡ slice_index_or locations index at → name ≡ member_of atom (index + 1) → IsMemberOf source columns told name.atom name.group at member → new ≡ old ++ member ∷ []
    → ((more : List (MemberEnd S)) → AreMembers source columns told atom (index + 1) (drop index locations) more → AreMembers source columns told atom 1 locations (old ++ more))
    → (more : List (MemberEnd S)) → AreMembers source columns told atom (index + 1 + 1) (drop (index + 1) locations) more → AreMembers source columns told atom 1 locations (new ++ more)
members_on source columns told atom locations index at name member old new within is named is_member grown so_far more behind =
    let next : index + 1 ≡ suc index = omega arith in
    rw (grown, append_assoc old (member ∷ []) more) (so_far (member ∷ more) (rw (drop_at locations index at within is) (subst (λ n. IsMemberOf source columns told n.atom n.group at member) named is_member, subst (λ n. AreMembers source columns told atom (index + 1 + 1) (drop n locations) more) next behind)))

-- all locations have their members
pub members_all : {S M : Type 0} (source : Source S M) (columns : List Column) (told : Bytes → ToldBytes) (atom : ℕ) (locations : List Bytes) (index : ℕ) (members : List (MemberEnd S))
    → length locations ≤ index
    → ((more : List (MemberEnd S)) → AreMembers source columns told atom (index + 1) (drop index locations) more → AreMembers source columns told atom 1 locations (members ++ more))
    → AreMembers source columns told atom 1 locations members
members_all source columns told atom locations index members all so_far =
    subst (AreMembers source columns told atom 1 locations) (append-nil members) (so_far [] (rw (drop_all index locations all) tt))

-- behind a run that had ended already, one more is left alone
pub stays_on : {S : Type 0} (member : MemberEnd S) (members more : List (MemberEnd S)) {before mid after : RunEnd} → more ≡ members ++ member ∷ []
    → AllByRecursion IsIdle members × (mid ≡ before) → (before ≡ run.Settled → ⊥) → ((mid ≡ run.Settled → ⊥) → IsIdle member × (after ≡ mid))
    → AllByRecursion IsIdle more × (after ≡ before)
stays_on member members more grown so_far stopped stays =
    let next = stays (λ settled. stopped (sym so_far.1 ∙ settled)) in
    (rw grown (all_more IsIdle members member so_far.0 next.0), next.1 ∙ so_far.1)
