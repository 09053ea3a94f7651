-- The operator that an actor means is one of the tree's.
use Rattle.std.proofs.Common.{◌≡◌, inl, inr, Option, Some, None, sym, subst, MatchOption, false}
use Rattle.med_base.specs.declared.outside.source.Source.{Ghosts as Source}
use Rattle.tuple_core.specs.Values.{RowList}
use Rattle.step_core.specs.Edges.{Waits}
use Rattle.step_core.specs.Names.{has_actor}
use Rattle.step_core.specs.Nets.{LeafState, NetTree, leaf, fork}
use Rattle.step_core.specs.Standing.{IsDone, NetStands}
use Rattle.step_core.specs.Steps.{LeafActs, LeafObeys, TreeActs, TreeObeys}
use Rattle.step_core.specs.declared.actor.Actor.{Actor}
use Rattle.step_core.specs.declared.actor.Actor.TheVariants as actor
use Rattle.step_core.specs.declared.actor.StepEnd.{StepEnd}
use Rattle.step_core.proofs.Edging.{edge_given}
use Rattle.step_core.specs.Going.{Pushes}
use Rattle.step_core.proofs.Pushing.{pushes}
use Rattle.step_core.proofs.Same.{placed_same}

leaf_obeys : {S M : Type 0} (source : Source S M) (x : Actor) (l k : LeafState S) (w v : Waits) (end : StepEnd) → LeafObeys source x l k w v end → LeafActs source l k w v end
leaf_obeys source (actor.Pull m) l k w v end (index, (is, pulls)) = inl (index, pulls)
leaf_obeys source (actor.Edge n) l k w v end h = absurd h
leaf_obeys source (actor.Closing n) l k w v end (is, closes) = inr closes

pub obeys_acts : {S M : Type 0} (source : Source S M) (x : Actor) (t u : NetTree S) (w v : Waits) (end : StepEnd) → TreeObeys source x t u w v end → TreeActs source t u w v end
obeys_acts source x (leaf l) u w v end (k, (is, acts)) = (k, (is, leaf_obeys source x l k w v end acts))
obeys_acts source x (fork j a b) u w v end (inl (k, (is, (the_turn, (means, acts))))) = inl (k, (is, (the_turn, acts)))
obeys_acts source x (fork j a b) u w v end (inr (same, inl (c, (y, (is, (other, acts)))))) = inr (same, inl (c, (y, (is, obeys_acts source x a c j.left y end acts))))
obeys_acts source x (fork j a b) u w v end (inr (same, inr (c, (y, (is, (other, (absent, acts))))))) = inr (same, inr (c, (y, (is, obeys_acts source x b c j.right y end acts))))

-- a net stands after turns of its operators
pub net_pushed : {S M : Type 0} (source : Source S M) (t u : NetTree S) (w v : Waits) (rows : RowList) (h : NetStands source (record { tree = t; edge = w; rows = rows })) → Pushes source t u w v h.gave
    → NetStands source (record { tree = u; edge = v; rows = rows })
net_pushed source t u w v rows h p = record {
  gave = p.now;
  tree = p.stands;
  edge = edge_given w v rows h.gave p.now p.more (IsDone t) (IsDone u) h.edge p.rows p.given p.taken p.put p.bag (p.closed h.edge.closed) p.quiet;
  placed = placed_same t u p.same h.placed;
}

pub net_stands : {S M : Type 0} (source : Source S M) (t u : NetTree S) (w v : Waits) (rows : RowList) (end : StepEnd) → TreeActs source t u w v end → NetStands source (record { tree = t; edge = w; rows = rows })
    → NetStands source (record { tree = u; edge = v; rows = rows })
net_stands source t u w v rows end acts h = net_pushed source t u w v rows h (pushes source t u w v end h.gave acts h.tree)

-- what came of the operators, where the actor means one of them or none
pub net_stands_after : {S M : Type 0} (source : Source S M) (x : Actor) (t u : NetTree S) (w v : Waits) (rows : RowList) (result : Option StepEnd)
    → MatchOption result ((has_actor x t ≡ false) × ((u ≡ t) × (v ≡ w))) (λ end. TreeObeys source x t u w v end)
    → NetStands source (record { tree = t; edge = w; rows = rows }) → NetStands source (record { tree = u; edge = v; rows = rows })
net_stands_after source x t u w v rows None (absent, (tree, edge)) h = subst (λ y. NetStands source (record { tree = y; edge = v; rows = rows })) (sym tree) (subst (λ e. NetStands source (record { tree = t; edge = e; rows = rows })) (sym edge) h)
net_stands_after source x t u w v rows (Some end) obeys h = net_stands source t u w v rows end (obeys_acts source x t u w v end obeys) h
