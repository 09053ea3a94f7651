-- The members of a net's atoms, and what a net tells of its operators.
use Rattle.std.specs.Prelude.{◌≡◌, ◌⊎◌, ℕ, ◌<◌, ◌≤◌, List, [], ◌∷◌, ◌++◌, Option, Some, None, IsSomeAnd, cond, nat_lt}
use Rattle.std.specs.List.{AllByRecursion, find, position}
use Rattle.std.specs.Option.{option_or, option_to_list}
use Rattle.med_base.specs.declared.member.MemberState.TheVariants as state
use Rattle.med_base.specs.declared.names.GroupName.{GroupName}
use Rattle.med_base.specs.declared.names.MemberName.{MemberName}
use Rattle.med_base.specs.declared.names.Name.{Name}
use Rattle.med_base.specs.declared.outside.source.Source.{Ghosts as Source}
use Rattle.med_prelude.specs.Texts.{Bytes}
use Rattle.tuple_core.specs.Values.{RowList}
use Rattle.collect_core.specs.Collecting.{Collecting}
use Rattle.collect_core.specs.Giving.{FailsOpening, Gives}
use Rattle.collect_core.specs.Members.{AreSound, AreTold, HasAccepted, Member, are_settled, is_named, member_now, starved_group}
use Rattle.step_core.specs.Edges.{Waits}
use Rattle.step_core.specs.Names.{is_atom, is_join}
use Rattle.step_core.specs.Nets.{LeafState, NetState, NetTree, leaf, fork}

-- The edge out of the operator of that name, if it is in the tree, whose own edge out is given. The first of that name counts, the operator at the top before those on
-- its left, and these before those on its right.
abbrev pub edge_out : {S : Type 0} → Name → NetTree S → Waits → Option Waits
edge_out x (leaf l) w = cond (is_atom x l.atom) (Some w) None
edge_out x (fork j a b) w = cond (is_join x j.number) (Some w) (option_or (edge_out x a j.left) (edge_out x b j.right))

-- all members, from left to right
abbrev pub members_of : {S : Type 0} → NetTree S → List (Member S)
members_of (leaf l) = l.collecting.members
members_of (fork j a b) = members_of a ++ members_of b

-- the member of that name
abbrev pub member_in : {S : Type 0} → MemberName → NetTree S → Option (Member S)
member_in name t = find (is_named name) (members_of t)

-- the ends of the members say what is so of their sources, for each atom
abbrev pub AreSoundIn : {S M : Type 0} → Source S M → NetTree S → Type 0
AreSoundIn source (leaf l) = AreSound source l.collecting.columns l.collecting.members
AreSoundIn source (fork j a b) = AreSoundIn source a × AreSoundIn source b

-- ---- groups whose members all failed

-- the group of the lesser atom, where there are two; of two of one atom the first
abbrev pub earlier : Option GroupName → Option GroupName → Option GroupName
earlier None h = h
earlier (Some g) None = Some g
earlier (Some g) (Some h) = cond (nat_lt h.atom g.atom) (Some h) (Some g)

-- of the first group of each atom whose members all failed, that of the least atom
abbrev pub starved_in : {S : Type 0} → NetTree S → Option GroupName
starved_in (leaf l) = starved_group l.collecting.members
starved_in (fork j a b) = earlier (starved_in a) (starved_in b)

-- the first group of each atom whose members all failed, from left to right
abbrev pub starved_groups : {S : Type 0} → NetTree S → List GroupName
starved_groups (leaf l) = option_to_list (starved_group l.collecting.members)
starved_groups (fork j a b) = starved_groups a ++ starved_groups b

-- it is the first of those of the least atom
pub record IsFirst (groups : List GroupName) (g : GroupName) : Type 0 where
  pub before : List GroupName
  pub after : List GroupName
  pub split : groups ≡ before ++ g ∷ after
  pub less : AllByRecursion (λ h. g.atom < h.atom) before
  pub least : AllByRecursion (λ h. g.atom ≤ h.atom) after

-- the first one, or none where there is none
abbrev pub IsFirstOf : List GroupName → Option GroupName → Type 0
IsFirstOf groups None = groups ≡ []
IsFirstOf groups (Some g) = IsFirst groups g

-- ---- a change of one member

-- the member of that name has no source, and none was looked for
abbrev pub IsIdleIn : {S : Type 0} → MemberName → NetTree S → Type 0
IsIdleIn name t = IsSomeAnd (member_in name t) (λ m. (member_now m).state ≡ state.Idle)

-- the member of that name is that of the location
abbrev pub LiesAt : {S : Type 0} → MemberName → NetTree S → Bytes → Type 0
LiesAt name t location = IsSomeAnd (member_in name t) (λ m. m.location ≡ location)

-- what may become of a collector, by one of its members, whose index is told
abbrev pub MemberChange : Type 0 → Type 1
MemberChange S = Collecting S → Collecting S → ℕ → Type 0

-- this became of the collector by the member of that name
pub record ChangesLeaf {S : Type 0} (Change : MemberChange S) (name : MemberName) (l k : LeafState S) : Type 0 where
  pub index : ℕ
  pub named : position (is_named name) l.collecting.members ≡ Some index
  pub changes : Change l.collecting k.collecting index
  pub atom : k.atom ≡ l.atom

-- This became of the collector that has the member of that name, the first one from the left; nothing else has changed.
abbrev pub ChangesIn : {S : Type 0} → MemberChange S → MemberName → NetTree S → NetTree S → Type 0
ChangesIn {S} Change name (leaf l) u = (k : LeafState S) × ((u ≡ leaf k) × ChangesLeaf Change name l k)
ChangesIn {S} Change name (fork j a b) u =
    ((c : NetTree S) × ((u ≡ fork j c b) × ChangesIn Change name a c))
    ⊎ ((member_in name a ≡ None) × ((c : NetTree S) × ((u ≡ fork j a c) × ChangesIn Change name b c)))

-- the member of that name has the source
abbrev pub TreeGives : {S M : Type 0} → Source S M → S → MemberName → NetTree S → NetTree S → Type 0
TreeGives source given name t u = ChangesIn (λ s r index. Gives source s r index given) name t u

-- the opening of the member of that name failed
abbrev pub TreeFails : {S : Type 0} → MemberName → NetTree S → NetTree S → Type 0
TreeFails name t u = ChangesIn FailsOpening name t u

-- the operators alone have changed
pub record ChangesTree {S : Type 0} (Change : NetTree S → NetTree S → Type 0) (s t : NetState S) : Type 0 where
  pub tree : Change s.tree t.tree
  pub edge : t.edge ≡ s.edge
  pub rows : t.rows ≡ s.rows

abbrev pub NetGives : {S M : Type 0} → Source S M → S → MemberName → NetState S → NetState S → Type 0
NetGives source given name s t = ChangesTree (TreeGives source given name) s t

abbrev pub NetFails : {S : Type 0} → MemberName → NetState S → NetState S → Type 0
NetFails name s t = ChangesTree (TreeFails name) s t

-- ---- what such a change keeps

-- The atom selects alike, the same rows were accepted of its members, its groups are settled where they were, and what its members say of their sources is still so.
pub record KeepsLeaf {S M : Type 0} (source : Source S M) (l k : LeafState S) : Type 0 where
  pub select : k.collecting.select ≡ l.collecting.select
  pub accepted : (accepted : List RowList) → HasAccepted source l.collecting.members accepted → HasAccepted source k.collecting.members accepted
  pub settled : are_settled k.collecting.members ≡ are_settled l.collecting.members
  pub told : (accepted : List RowList) → HasAccepted source l.collecting.members accepted → AreTold source l.collecting.columns l.collecting.members accepted
      → AreTold source k.collecting.columns k.collecting.members accepted
  pub sound : AreSound source l.collecting.columns l.collecting.members → AreSound source k.collecting.columns k.collecting.members

-- the joins are the same, and the atoms stand alike
abbrev pub KeepsTree : {S M : Type 0} → Source S M → NetTree S → NetTree S → Type 0
KeepsTree source (leaf l) (leaf k) = KeepsLeaf source l k
KeepsTree source (leaf l) (fork i c d) = ⊥
KeepsTree source (fork j a b) (leaf k) = ⊥
KeepsTree source (fork j a b) (fork i c d) = (i ≡ j) × (KeepsTree source a c × KeepsTree source b d)
