-- Which operator of a net an actor means.
use Rattle.std.specs.Prelude.{ℕ, ◌==◌, ◌||◌, Bool, false, Option, Some, None, cond, is_some}
use Rattle.std.specs.List.{position}
use Rattle.med_base.specs.declared.names.Name.{Name}
use Rattle.med_base.specs.declared.names.Name.TheVariants as name
use Rattle.row_match.specs.declared.shape.Side.TheVariants as side
use Rattle.collect_core.specs.Members.{is_named}
use Rattle.step_core.specs.Nets.{LeafState, NetTree, leaf, fork}
use Rattle.step_core.specs.declared.actor.Actor.{Actor}
use Rattle.step_core.specs.declared.actor.Actor.TheVariants as actor
use Rattle.step_core.specs.declared.actor.Turn.{Turn}
use Rattle.step_core.specs.declared.actor.Turn.TheVariants as turn

abbrev pub is_atom : Name → ℕ → Bool
is_atom (name.Member m) a = false
is_atom (name.Atom b) a = b == a
is_atom (name.Join j) a = false
is_atom (name.Fragment f) a = false

abbrev pub is_join : Name → ℕ → Bool
is_join (name.Member m) j = false
is_join (name.Atom a) j = false
is_join (name.Join i) j = i == j
is_join (name.Fragment f) j = false

-- the operator at the top of the tree has that name
abbrev pub is_called : {S : Type 0} → Name → NetTree S → Bool
is_called x (leaf l) = is_atom x l.atom
is_called x (fork j a b) = is_join x j.number

-- what the actor means of a join of these two: an edge of it, or its end
abbrev pub join_turn : {S : Type 0} → Actor → ℕ → NetTree S → NetTree S → Option Turn
join_turn (actor.Pull m) number a b = None
join_turn (actor.Edge x) number a b = cond (is_called x a) (Some (turn.Take side.Left)) (cond (is_called x b) (Some (turn.Take side.Right)) None)
join_turn (actor.Closing x) number a b = cond (is_join x number) (Some turn.Close) None

-- the actor means a member of the atom, or its end
abbrev pub is_leaf_actor : {S : Type 0} → Actor → LeafState S → Bool
is_leaf_actor (actor.Pull m) l = is_some (position (is_named m) l.collecting.members)
is_leaf_actor (actor.Edge x) l = false
is_leaf_actor (actor.Closing x) l = is_atom x l.atom

-- the actor is in the tree
abbrev pub has_actor : {S : Type 0} → Actor → NetTree S → Bool
has_actor x (leaf l) = is_leaf_actor x l
has_actor x (fork j a b) = is_some (join_turn x j.number a b) || (has_actor x a || has_actor x b)
