-- The members of a collector: their soundness, and what one step adds.
use Rattle.std.proofs.Common.{◌≡◌, ℕ, ◌+◌, ◌<◌, ◌≤◌, inl, inr, Bool, true, false, List, [], ◌∷◌, ◌++◌, length, set, drop, replicate, Option, Some, None, IfSome, refl, sym, ap, subst, ◌∙◌, arith, append-nil}
use Rattle.std.specs.List.{AllByRecursion, cons_option, slice_get, slice_index_or}
use Rattle.std.specs.Option.{MatchOption}
use Rattle.std.proofs.lemmas.List.{drop_all}
use Rattle.answer_theory.specs.Bags.{SameBag, weight_of}
use Rattle.answer_theory.proofs.Lists.{each_append, each_then}
use Rattle.med_base.specs.declared.member.MemberState.TheVariants as state
use Rattle.med_base.specs.declared.names.MemberName.{MemberName}
use Rattle.med_base.specs.declared.outside.source.Source.{Ghosts as Source}
use Rattle.tuple_core.specs.declared.columns.Column.{Column}
use Rattle.tuple_core.specs.Values.{RowList}
use Rattle.csv_wrap.specs.Sound.{IsSoundMember, IsSoundState}
use Rattle.csv_wrap.specs.Wrapped.{SameSource}
use Rattle.collect_core.specs.Collecting.{Collecting, IsCollector}
use Rattle.collect_core.specs.Giving.{FailsOpening, Gives, GivesMember, IsAt, IsIdleAt}
use Rattle.collect_core.specs.Members.{AreSound, HasAccepted, IsMember, Member, MemberAccepted, end_of, fresh_group, fresh_members, member_left, member_now, member_now_with}
use Rattle.collect_core.specs.Reading.{HasBegun, IsReader, Reader, ReaderAccepted}
use Rattle.collect_core.specs.Selecting.{Select, selected_row, selected_rows}
use Rattle.collect_core.specs.Steps.{AcceptsHeld, Falls, Gathers, GrewTo, ReadsHeld, ReadsOn, Steps, StepsHeld, StepsMember, gave, given_rows, with_rows}
use Rattle.collect_core.specs.declared.reader.Collected.{Collected}
use Rattle.collect_core.specs.declared.reader.Collected.TheVariants as collected
use Rattle.collect_core.proofs.Places.{all_at, all_set, bag_set, filter_map_append, some_holds, some_inside, stands_at, weight_set, zip_at, zip_self_set, zip_set, zip_set_left, zip_there}

-- ---- soundness

sound_with : {S M : Type 0} (source : Source S M) (columns : List Column) (name : MemberName) (location : List ℕ) (failed : Bool) (reader : Option (Reader S))
    → IfSome reader (λ r. IsReader source r × (r.wrapper.ahead.columns ≡ columns) × (source.location r.wrapper.source ≡ location))
    → IsSoundMember source columns (end_of (record { name = name; location = location; opening_failed = failed; reader = reader }))
sound_with source columns name location true None h = (refl, tt)
sound_with source columns name location false None h = (refl, tt)
sound_with source columns name location failed (Some r) h =
    (h.2, subst (λ cs. IsSoundState cs (source.taken r.wrapper.source) (source.whole r.wrapper.source) (source.faults r.wrapper.source) r.accepted r.state r.fault) h.1 h.0.sound)

pub member_sound : {S M : Type 0} (source : Source S M) (columns : List Column) (m : Member S) → IsMember source columns m → IsSoundMember source columns (end_of m)
member_sound source columns m h = sound_with source columns m.name m.location m.opening_failed m.reader h

pub members_sound : {S M : Type 0} (source : Source S M) (columns : List Column) (members : List (Member S)) → AllByRecursion (IsMember source columns) members → AreSound source columns members
members_sound source columns members h = each_then (IsMember source columns) (λ m. IsSoundMember source columns (end_of m)) (member_sound source columns) members h

-- ---- what one member adds

pub record Adds {S M : Type 0} (source : Source S M) (select : Select) (new : Member S) (result : Collected) (rows : RowList) : Type 0 where
  pub more : RowList
  pub few : length more ≤ 1
  pub has : MemberAccepted source new (rows ++ more)
  pub selected : gave result ≡ selected_rows select more

reader_adds : {S M : Type 0} (source : Source S M) (select : Select) (name : MemberName) (location : List ℕ) (failed : Bool) (r q : Reader S) (result : Collected) (rows : RowList)
    → ReadsOn source select r q result → ReaderAccepted source r rows → Adds source select (record { name = name; location = location; opening_failed = failed; reader = Some q }) result rows
reader_adds source select name location failed r q (collected.Row values) rows (row, is, e) h =
    record { more = row ∷ []; few = omega arith; has = is.accepted rows h; selected = sym (ap (λ o. cons_option o []) e) }
reader_adds source select name location failed r q collected.Moved rows (inl (row, is, e)) h =
    record { more = row ∷ []; few = omega arith; has = is.accepted rows h; selected = sym (ap (λ o. cons_option o []) e) }
reader_adds source select name location failed r q collected.Moved rows (inr (inl (why, is))) h =
    record { more = []; few = omega arith; has = subst (ReaderAccepted source q) (sym (append-nil rows)) (is.nothing.accepted rows h); selected = refl }
reader_adds source select name location failed r q collected.Moved rows (inr (inr (answer, is, moved))) h =
    record { more = []; few = omega arith; has = subst (ReaderAccepted source q) (sym (append-nil rows)) (is.nothing.accepted rows h); selected = refl }
reader_adds source select name location failed r q collected.Still rows (inl (over, same)) h =
    record { more = []; few = omega arith; has = subst (ReaderAccepted source q) (sym (append-nil rows)) (subst (λ p. ReaderAccepted source p rows) (sym same) h); selected = refl }
reader_adds source select name location failed r q collected.Still rows (inr is) h =
    record { more = []; few = omega arith; has = subst (ReaderAccepted source q) (sym (append-nil rows)) (is.nothing.accepted rows h); selected = refl }
reader_adds source select name location failed r q collected.NoMemory rows (active, is) h =
    record { more = []; few = omega arith; has = subst (ReaderAccepted source q) (sym (append-nil rows)) (is.nothing.accepted rows h); selected = refl }

adds_with : {S M : Type 0} (source : Source S M) (select : Select) (name : MemberName) (location : List ℕ) (failed : Bool) (reader : Option (Reader S)) (new : Member S) (result : Collected) (rows : RowList)
    → StepsMember source select (record { name = name; location = location; opening_failed = failed; reader = reader }) new result
    → MemberAccepted source (record { name = name; location = location; opening_failed = failed; reader = reader }) rows → Adds source select new result rows
adds_with source select name location failed None new result rows (still, same) h =
    record {
      more = [];
      few = omega arith;
      has = subst (λ m. MemberAccepted source m (rows ++ [])) (sym same) (append-nil rows ∙ h);
      selected = ap gave still;
    }
adds_with source select name location failed (Some r) new result rows (q, is, same, reads) h =
    subst (λ m. Adds source select m result rows) (sym is) (reader_adds source select name location failed r q result rows reads h)

pub member_adds : {S M : Type 0} (source : Source S M) (select : Select) (old new : Member S) (result : Collected) (rows : RowList)
    → StepsMember source select old new result → MemberAccepted source old rows → Adds source select new result rows
member_adds source select old new result rows steps h = adds_with source select old.name old.location old.opening_failed old.reader new result rows steps h

-- what one member adds of what it holds

reader_adds_held : {S M : Type 0} (source : Source S M) (select : Select) (name : MemberName) (location : List ℕ) (failed : Bool) (r q : Reader S) (result : Collected) (rows : RowList)
    → ReadsHeld source select r q result → ReaderAccepted source r rows → Adds source select (record { name = name; location = location; opening_failed = failed; reader = Some q }) result rows
reader_adds_held source select name location failed r q (collected.Row values) rows reads h = reader_adds source select name location failed r q (collected.Row values) rows reads h
reader_adds_held source select name location failed r q collected.Moved rows (inl accepts) h = reader_adds source select name location failed r q collected.Moved rows (inl accepts) h
reader_adds_held source select name location failed r q collected.Moved rows (inr reaches) h = reader_adds source select name location failed r q collected.Moved rows (inr (inl reaches)) h
reader_adds_held source select name location failed r q collected.Still rows (inl over) h = reader_adds source select name location failed r q collected.Still rows (inl over) h
reader_adds_held source select name location failed r q collected.Still rows (inr finds) h =
    record { more = []; few = omega arith; has = subst (ReaderAccepted source q) (sym (append-nil rows)) (finds.nothing.accepted rows h); selected = refl }
reader_adds_held source select name location failed r q collected.NoMemory rows reads h = reader_adds source select name location failed r q collected.NoMemory rows reads h

adds_held_with : {S M : Type 0} (source : Source S M) (select : Select) (name : MemberName) (location : List ℕ) (failed : Bool) (reader : Option (Reader S)) (new : Member S) (result : Collected) (rows : RowList)
    → AcceptsHeld source select (record { name = name; location = location; opening_failed = failed; reader = reader }) new result
    → MemberAccepted source (record { name = name; location = location; opening_failed = failed; reader = reader }) rows → Adds source select new result rows
adds_held_with source select name location failed None new result rows idle h = adds_with source select name location failed None new result rows idle h
adds_held_with source select name location failed (Some r) new result rows (q, is, same, reads) h =
    subst (λ m. Adds source select m result rows) (sym is) (reader_adds_held source select name location failed r q result rows reads h)

pub member_adds_held : {S M : Type 0} (source : Source S M) (select : Select) (old new : Member S) (result : Collected) (rows : RowList)
    → AcceptsHeld source select old new result → MemberAccepted source old rows → Adds source select new result rows
member_adds_held source select old new result rows steps h = adds_held_with source select old.name old.location old.opening_failed old.reader new result rows steps h

-- ---- what the collector gathers

same_grew : (rows : RowList) → GrewTo rows rows
same_grew rows = ([], sym (append-nil rows))

gathers_by : {S M : Type 0} (source : Source S M) (s t : Collecting S) (index : ℕ) (result : Collected) (accepted : List RowList) (old new : Member S) → slice_get s.members index ≡ Some old
    → t ≡ record s { members = set s.members index new } → ((rows : RowList) → MemberAccepted source old rows → Adds source s.select new result rows) → HasAccepted source s.members accepted
    → Gathers source s t index result accepted
gathers_by source s t index result accepted old new at changed adding has =
    let rows : RowList = slice_index_or accepted index [] in
    let there : slice_get accepted index ≡ Some rows = zip_there (MemberAccepted source) s.members accepted index old [] at has in
    let adds = adding rows (zip_at (MemberAccepted source) s.members accepted index old [] at has) in
    let members : HasAccepted source (set s.members index new) (set accepted index (rows ++ adds.more)) =
    zip_set (MemberAccepted source) s.members accepted index new (rows ++ adds.more) has adds.has in
    let bag : SameBag (given_rows s.select (with_rows accepted index adds.more)) (given_rows s.select accepted ++ selected_rows s.select adds.more) =
    bag_set (selected_rows s.select) accepted index rows (rows ++ adds.more) (selected_rows s.select adds.more) there (filter_map_append (selected_row s.select) rows adds.more) in
    record {
      more = adds.more;
      few = adds.few;
      has = subst (λ (c : Collecting _). HasAccepted source c.members (with_rows accepted index adds.more)) (sym changed) members;
      selected = adds.selected;
      step = record {
        grew = zip_self_set GrewTo same_grew accepted index rows (rows ++ adds.more) there (adds.more, refl);
        given = subst (λ g. SameBag (given_rows s.select (with_rows accepted index adds.more)) (given_rows s.select accepted ++ g)) (sym adds.selected) bag;
      };
    }

pub gathers : {S M : Type 0} (source : Source S M) (s t : Collecting S) (index : ℕ) (result : Collected) (accepted : List RowList)
    → Steps source s t index result → HasAccepted source s.members accepted → Gathers source s t index result accepted
gathers source s t index result accepted steps has =
    gathers_by source s t index result accepted steps.old steps.new steps.at steps.changed (λ rows h. member_adds source s.select steps.old steps.new result rows steps.step h) has

pub gathers_held : {S M : Type 0} (source : Source S M) (s t : Collecting S) (index : ℕ) (result : Collected) (accepted : List RowList)
    → StepsHeld source s t index result → HasAccepted source s.members accepted → Gathers source s t index result accepted
gathers_held source s t index result accepted steps has =
    gathers_by source s t index result accepted steps.old steps.new steps.at steps.changed (λ rows h. member_adds_held source s.select steps.old steps.new result rows steps.step h) has

-- ---- how much is left

falls_set : (old new x y : ℕ) (result : Collected) → new + x ≡ old + y → Falls result x y → Falls result old new
falls_set old new x y (collected.Row row) e h = omega arith
falls_set old new x y collected.Moved e h = omega arith
falls_set old new x y collected.Still e h = omega arith
falls_set old new x y collected.NoMemory e h = tt

pub work_falls : {S M : Type 0} (source : Source S M) (members : List (Member S)) (index : ℕ) (old new : Member S) (result : Collected) → slice_get members index ≡ Some old
    → Falls result (member_left source old) (member_left source new) → Falls result (weight_of (member_left source) members) (weight_of (member_left source) (set members index new))
work_falls source members index old new result at h =
    falls_set (weight_of (member_left source) members) (weight_of (member_left source) (set members index new)) (member_left source old) (member_left source new) result
    (weight_set (member_left source) members index old new at) h

-- ---- one member's step

pub member_steps : {S M : Type 0} (source : Source S M) (select : Select) (old : Member S) (r q : Reader S) (result : Collected) → old.reader ≡ Some r
    → SameSource source r.wrapper.source q.wrapper.source → ReadsOn source select r q result → StepsMember source select old (record old { reader = Some q }) result
member_steps {S = S} source select old r q result e same reads =
    subst (λ o. MatchOption o ((result ≡ collected.Still) × (record old { reader = Some q } ≡ old))
    (λ (u : Reader S). (v : Reader S) × (record old { reader = Some q } ≡ record old { reader = Some v }) × SameSource source u.wrapper.source v.wrapper.source × ReadsOn source select u v result)) (sym e)
    (q, refl, same, reads)

pub member_idle : {S M : Type 0} (source : Source S M) (select : Select) (old : Member S) → old.reader ≡ None → StepsMember source select old old collected.Still
member_idle {S = S} source select old e =
    subst (λ o. MatchOption o ((collected.Still ≡ collected.Still) × (old ≡ old))
    (λ (u : Reader S). (v : Reader S) × (old ≡ record old { reader = Some v }) × SameSource source u.wrapper.source v.wrapper.source × ReadsOn source select u v collected.Still)) (sym e)
    (refl, refl)

pub member_accepts : {S M : Type 0} (source : Source S M) (select : Select) (old : Member S) (r q : Reader S) (result : Collected) → old.reader ≡ Some r
    → q.wrapper.source ≡ r.wrapper.source → ReadsHeld source select r q result → AcceptsHeld source select old (record old { reader = Some q }) result
member_accepts {S = S} source select old r q result e same reads =
    subst (λ o. MatchOption o ((result ≡ collected.Still) × (record old { reader = Some q } ≡ old))
    (λ (u : Reader S). (v : Reader S) × (record old { reader = Some q } ≡ record old { reader = Some v }) × (v.wrapper.source ≡ u.wrapper.source) × ReadsHeld source select u v result)) (sym e)
    (q, refl, same, reads)

pub member_unheld : {S M : Type 0} (source : Source S M) (select : Select) (old : Member S) → old.reader ≡ None → AcceptsHeld source select old old collected.Still
member_unheld {S = S} source select old e =
    subst (λ o. MatchOption o ((collected.Still ≡ collected.Still) × (old ≡ old))
    (λ (u : Reader S). (v : Reader S) × (old ≡ record old { reader = Some v }) × (v.wrapper.source ≡ u.wrapper.source) × ReadsHeld source select u v collected.Still)) (sym e)
    (refl, refl)

-- ---- one member of a collector

pub stepped : {S M : Type 0} (source : Source S M) (s : Collecting S) (index : ℕ) (old new : Member S) (result : Collected) → index < length s.members → old ≡ slice_index_or s.members index old
    → StepsMember source s.select old new result → Steps source s (record s { members = set s.members index new }) index result
stepped source s index old new result inside is steps = record {
  old = old;
  new = new;
  at = stands_at s.members index old inside is;
  changed = refl;
  step = steps;
}

pub stepped_held : {S M : Type 0} (source : Source S M) (s : Collecting S) (index : ℕ) (old new : Member S) (result : Collected) → index < length s.members → old ≡ slice_index_or s.members index old
    → AcceptsHeld source s.select old new result → StepsHeld source s (record s { members = set s.members index new }) index result
stepped_held source s index old new result inside is steps = record {
  old = old;
  new = new;
  at = stands_at s.members index old inside is;
  changed = refl;
  step = steps;
}

pub changed_sound : {S M : Type 0} (source : Source S M) (columns : List Column) (members : List (Member S)) (index : ℕ) (new : Member S) → AllByRecursion (IsMember source columns) members
    → IsMember source columns new → AreSound source columns (set members index new)
changed_sound source columns members index new all is = members_sound source columns (set members index new) (all_set (IsMember source columns) members index new all is)

-- ---- a member whose opening failed

pub opening_kept : {S M : Type 0} (source : Source S M) (members : List (Member S)) (index : ℕ) (old new : Member S) (accepted : List RowList) → slice_get members index ≡ Some old
    → new ≡ record old { opening_failed = true } → HasAccepted source members accepted → HasAccepted source (set members index new) accepted
opening_kept source members index old new accepted at is has =
    zip_set_left (MemberAccepted source) members accepted index old new at (λ rows h. subst (λ m. MemberAccepted source m rows) (sym is) h) has

-- ---- a member that is given a source

idle_with : {S M : Type 0} (source : Source S M) (columns : List Column) (name : MemberName) (location : List ℕ) (failed : Bool) (reader : Option (Reader S))
    → IsMember source columns (record { name = name; location = location; opening_failed = failed; reader = reader })
    → (member_now_with failed reader).state ≡ state.Idle → reader ≡ None
idle_with source columns name location failed None is idle = refl
idle_with source columns name location failed (Some r) is idle = absurd (subst HasBegun idle is.0.begun)

pub idle_none : {S M : Type 0} (source : Source S M) (columns : List Column) (m : Member S) → IsMember source columns m → (member_now m).state ≡ state.Idle → m.reader ≡ None
idle_none source columns m is idle = idle_with source columns m.name m.location m.opening_failed m.reader is idle

pub given_member : {S M : Type 0} (source : Source S M) (columns : List Column) (s : S) (old new : Member S) → old.location ≡ source.location s → GivesMember source columns s old new
    → IsMember source columns new
given_member source columns s old new at gives =
    subst (IsMember source columns) (sym gives.2) (gives.1.reader, gives.1.columns_is, ap source.location gives.1.source_is ∙ sym at)

pub given_kept : {S M : Type 0} (source : Source S M) (columns : List Column) (s : S) (old new : Member S) (rows : RowList) → old.reader ≡ None → GivesMember source columns s old new
    → MemberAccepted source old rows → MemberAccepted source new rows
given_kept source columns s old new rows none gives h =
    let empty : rows ≡ [] = subst (λ o. MatchOption o (rows ≡ []) (λ r. ReaderAccepted source r rows)) none h in
    subst (λ m. MemberAccepted source m rows) (sym gives.2) (subst (ReaderAccepted source gives.0) (sym empty) gives.1.accepted)

pub fails_opening : {S : Type 0} (s : Collecting S) (index : ℕ) (old new : Member S) → index < length s.members → old ≡ slice_index_or s.members index old → new ≡ record old { opening_failed = true }
    → FailsOpening s (record s { members = set s.members index new }) index
fails_opening s index old new inside is e = record {
  old = old;
  at = stands_at s.members index old inside is;
  changed = ap (λ m. record s { members = set s.members index m }) e;
}

pub changed_collector : {S M : Type 0} (source : Source S M) (s : Collecting S) (index : ℕ) (new : Member S) → IsCollector source s → IsMember source s.columns new
    → IsCollector source (record s { members = set s.members index new })
changed_collector source s index new is member = record {
  members = all_set (IsMember source s.columns) s.members index new is.members member;
  width = is.width;
  short = is.short;
}

pub gives_source : {S M : Type 0} (source : Source S M) (s : Collecting S) (index : ℕ) (given : S) (old new : Member S) → slice_get s.members index ≡ Some old
    → GivesMember source s.columns given old new → Gives source s (record s { members = set s.members index new }) index given
gives_source source s index given old new at gives = record {
  old = old;
  new = new;
  at = at;
  changed = refl;
  gives = gives;
}

-- the member that is given a source, of a collector that stands
pub record GivingTo {S M : Type 0} (source : Source S M) (s : Collecting S) (index : ℕ) (given : S) (old new : Member S) : Type 0 where
  pub collector : IsCollector source (record s { members = set s.members index new })
  pub gives : Gives source s (record s { members = set s.members index new }) index given
  pub accepted : (accepted : List RowList) → HasAccepted source s.members accepted → HasAccepted source (set s.members index new) accepted
  pub sound : AreSound source s.columns (set s.members index new)

pub giving_to : {S M : Type 0} (source : Source S M) (s : Collecting S) (index : ℕ) (given : S) (old new : Member S) → IsCollector source s → IsIdleAt s.members index
    → IsAt s.members index (source.location given) → old ≡ slice_index_or s.members index old → GivesMember source s.columns given old new → GivingTo source s index given old new
giving_to {S = S} source s index given old new is idle at reads gives =
    let inside = some_inside (λ (m : Member S). (member_now m).state ≡ state.Idle) s.members index idle in
    let there : slice_get s.members index ≡ Some old = stands_at s.members index old inside reads in
    let was = all_at (IsMember source s.columns) s.members index old there is.members in
    let none = idle_none source s.columns old was (some_holds (λ (m : Member S). (member_now m).state ≡ state.Idle) (slice_get s.members index) old there idle) in
    let location = some_holds (λ (m : Member S). m.location ≡ source.location given) (slice_get s.members index) old there at in
    let member = given_member source s.columns given old new location gives in
    record {
      collector = changed_collector source s index new is member;
      gives = gives_source source s index given old new there gives;
      accepted = λ accepted has. zip_set_left (MemberAccepted source) s.members accepted index old new there (λ rows h. given_kept source s.columns given old new rows none gives h) has;
      sound = changed_sound source s.columns s.members index new is.members member;
    }

-- ---- a collector of which no member was opened

one_more_fresh : {S M : Type 0} (source : Source S M) (columns : List Column) (atom group mirror : ℕ) (locations : List (List ℕ)) → AllByRecursion (IsMember source columns) (fresh_group {S = S} atom group mirror locations)
one_more_fresh source columns atom group mirror [] = tt
one_more_fresh source columns atom group mirror (location ∷ locations) = (tt, one_more_fresh source columns atom group (mirror + 1) locations)

fresh_are : {S M : Type 0} (source : Source S M) (columns : List Column) (atom group : ℕ) (groups : List (List (List ℕ))) → AllByRecursion (IsMember source columns) (fresh_members {S = S} atom group groups)
fresh_are source columns atom group [] = tt
fresh_are {S} source columns atom group (locations ∷ groups) =
    each_append (IsMember source columns) (fresh_group {S = S} atom group 1 locations) (fresh_members {S = S} atom (group + 1) groups) (one_more_fresh source columns atom group 1 locations) (fresh_are source columns atom (group + 1) groups)

unread_group : (S : Type 0) (atom group mirror : ℕ) (locations : List (List ℕ)) → AllByRecursion (λ (m : Member S). m.reader ≡ None) (fresh_group {S = S} atom group mirror locations)
unread_group S atom group mirror [] = tt
unread_group S atom group mirror (location ∷ locations) = (refl, unread_group S atom group (mirror + 1) locations)

unread_members : (S : Type 0) (atom group : ℕ) (groups : List (List (List ℕ))) → AllByRecursion (λ (m : Member S). m.reader ≡ None) (fresh_members {S = S} atom group groups)
unread_members S atom group [] = tt
unread_members S atom group (locations ∷ groups) =
    each_append (λ (m : Member S). m.reader ≡ None) (fresh_group {S = S} atom group 1 locations) (fresh_members {S = S} atom (group + 1) groups) (unread_group S atom group 1 locations) (unread_members S atom (group + 1) groups)

no_rows : {S M : Type 0} (source : Source S M) (o : Option (Reader S)) (rows : RowList) → rows ≡ [] → o ≡ None → MatchOption o (rows ≡ []) (λ r. ReaderAccepted source r rows)
no_rows source None rows e none = e
no_rows source (Some r) rows e none = absurd (let clash : Some r ≡ None = none in cc)

nothing_accepted : {S M : Type 0} (source : Source S M) (members : List (Member S)) → AllByRecursion (λ (m : Member S). m.reader ≡ None) members → HasAccepted source members (replicate (length members) [])
nothing_accepted source [] h = tt
nothing_accepted source (m ∷ members) h = (no_rows source m.reader [] refl h.0, nothing_accepted source members h.1)

-- once all groups are listed
pub all_listed : {S : Type 0} (members : List (Member S)) (atom index : ℕ) (groups : List (List (List ℕ))) → length groups ≤ index
    → members ++ fresh_members atom (index + 1) (drop index groups) ≡ fresh_members atom 1 groups → members ≡ fresh_members atom 1 groups
all_listed {S} members atom index groups past is =
    sym (append-nil members) ∙ ap (λ gs. members ++ fresh_members {S = S} atom (index + 1) gs) (sym (drop_all index groups past)) ∙ is

pub fresh_collector : {S M : Type 0} (source : Source S M) (columns : List Column) (select : Select) (members : List (Member S)) (atom : ℕ) (groups : List (List (List ℕ)))
    → members ≡ fresh_members atom 1 groups → length columns ≡ length select.terms → length columns ≤ 64 → IsCollector source (record { columns = columns; select = select; members = members })
fresh_collector source columns select members atom groups is wide short = record {
  members = subst (AllByRecursion (IsMember source columns)) (sym is) (fresh_are source columns atom 1 groups);
  width = wide;
  short = short;
}

pub fresh_accepted : {S M : Type 0} (source : Source S M) (members : List (Member S)) (atom : ℕ) (groups : List (List (List ℕ))) → members ≡ fresh_members atom 1 groups
    → HasAccepted source members (replicate (length members) [])
fresh_accepted {S} source members atom groups is = nothing_accepted source members (subst (AllByRecursion (λ (m : Member S). m.reader ≡ None)) (sym is) (unread_members S atom 1 groups))
