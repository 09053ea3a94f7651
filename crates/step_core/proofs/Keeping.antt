-- A net stands after each change that keeps what it says of its atoms.
use Rattle.std.proofs.Common.{◌≡◌, ℕ, ◌+◌, refl, sym, ap, subst, ◌∙◌}
use Rattle.med_base.specs.declared.outside.source.Source.{Ghosts as Source}
use Rattle.tuple_core.specs.Values.{RowList}
use Rattle.row_match.specs.Patterns.{pattern_variables}
use Rattle.collect_core.specs.Steps.{given_rows as selected_of}
use Rattle.step_core.specs.Edges.{IsEdge, Waits}
use Rattle.step_core.specs.Members.{KeepsLeaf, KeepsTree}
use Rattle.step_core.specs.Nets.{JoinState, LeafState, NetTree, leaf, fork, joined_variables, variables}
use Rattle.step_core.specs.Standing.{ArePlaced, AreWide, FillTerms, HasSelected, IsDone, NetStands, Reads, Stands, TakesFrom}
use Rattle.step_core.proofs.Changing.{leaf_same}

-- how many operators there are: a number that falls on the way down
abbrev pub operators : {S : Type 0} → NetTree S → ℕ
operators (leaf l) = 1
operators (fork j a b) = 1 + (operators a + operators b)

pub keeps_same : {S M : Type 0} (source : Source S M) (t : NetTree S) → KeepsTree source t t
keeps_same source (leaf l) = leaf_same source l l refl
keeps_same source (fork j a b) = (refl, (keeps_same source a, keeps_same source b))

pub keeps_left : {S M : Type 0} (source : Source S M) (j : JoinState) (a b c : NetTree S) → KeepsTree source a c → KeepsTree source (fork j a b) (fork j c b)
keeps_left source j a b c k = (refl, (k, keeps_same source b))

pub keeps_right : {S M : Type 0} (source : Source S M) (j : JoinState) (a b c : NetTree S) → KeepsTree source b c → KeepsTree source (fork j a b) (fork j a c)
keeps_right source j a b c k = (refl, (keeps_same source a, k))

variables_kept : {S M : Type 0} (source : Source S M) (t u : NetTree S) → KeepsTree source t u → variables u ≡ variables t
variables_kept source (leaf l) (leaf m) k = ap (λ s. pattern_variables s.terms) k.select
variables_kept source (leaf l) (fork i c d) k = absurd k
variables_kept source (fork j a b) (leaf m) k = absurd k
variables_kept source (fork j a b) (fork i c d) k = ap (λ x. joined_variables x.joining.shape) k.0

done_kept : {S M : Type 0} (source : Source S M) (t u : NetTree S) → KeepsTree source t u → IsDone t → IsDone u
done_kept source (leaf l) (leaf m) k done = k.settled ∙ done
done_kept source (leaf l) (fork i c d) k done = absurd k
done_kept source (fork j a b) (leaf m) k done = absurd k
done_kept source (fork j a b) (fork i c d) k done = subst (λ x. IsDone (fork x c d)) (sym k.0) done

placed_kept : {S M : Type 0} (source : Source S M) (t u : NetTree S) → KeepsTree source t u → ArePlaced t → ArePlaced u
placed_kept source (leaf l) (leaf m) k placed = subst (λ s. Reads (pattern_variables s.terms) s.comparisons) (sym k.select) placed
placed_kept source (leaf l) (fork i c d) k placed = absurd k
placed_kept source (fork j a b) (leaf m) k placed = absurd k
placed_kept source (fork j a b) (fork i c d) k placed =
    (placed_kept source a c k.1.0 placed.0, (placed_kept source b d k.1.1 placed.1.0, subst (λ x. Reads (joined_variables x.joining.shape) x.comparisons) (sym k.0) placed.1.1))

edge_kept : (w : Waits) (had gave : RowList) (D E : Type 0) → (D → E) → IsEdge w had gave D → IsEdge w had gave E
edge_kept w had gave D E to h = record { rows = h.rows; counted = h.counted; closed = λ e. to (h.closed e); last = h.last }

takes_kept : {S M : Type 0} (source : Source S M) (j : JoinState) (a b c d : NetTree S) (from_left from_right : RowList) → KeepsTree source a c → KeepsTree source b d
    → TakesFrom j (variables a) (variables b) (IsDone a) (IsDone b) from_left from_right → TakesFrom j (variables c) (variables d) (IsDone c) (IsDone d) from_left from_right
takes_kept source j a b c d from_left from_right l r h = record {
  left_variables = h.left_variables ∙ sym (variables_kept source a c l);
  right_variables = h.right_variables ∙ sym (variables_kept source b d r);
  left = edge_kept j.left _ from_left (IsDone a) (IsDone c) (done_kept source a c l) h.left;
  right = edge_kept j.right _ from_right (IsDone b) (IsDone d) (done_kept source b d r) h.right;
  left_ended = h.left_ended;
  right_ended = h.right_ended;
  left_wide = subst (λ us. AreWide us from_left) (sym (variables_kept source a c l)) h.left_wide;
  right_wide = subst (λ us. AreWide us from_right) (sym (variables_kept source b d r)) h.right_wide;
}

leaf_stands : {S M : Type 0} (source : Source S M) (l m : LeafState S) (gave : RowList) → KeepsLeaf source l m → HasSelected source l gave → HasSelected source m gave
leaf_stands source l m gave k h = record {
  accepted = h.accepted;
  has = k.accepted h.accepted h.has;
  fill = subst (λ s. FillTerms s h.accepted) (sym k.select) h.fill;
  told = k.told h.accepted h.has h.told;
  sound = k.sound h.sound;
  selected = h.selected ∙ ap (λ s. selected_of s h.accepted) (sym k.select);
  wide = subst (λ s. AreWide (pattern_variables s.terms) gave) (sym k.select) h.wide;
}

stands_kept : {S M : Type 0} (source : Source S M) (t u : NetTree S) (gave : RowList) → KeepsTree source t u → Stands source t gave → Stands source u gave
stands_kept source (leaf l) (leaf m) gave k h = leaf_stands source l m gave k h
stands_kept source (leaf l) (fork i c d) gave k h = absurd k
stands_kept source (fork j a b) (leaf m) gave k h = absurd k
stands_kept source (fork j a b) (fork i c d) gave (same, (l, r)) (from_left, from_right, (left, (right, (takes, gave_is)))) =
    subst (λ x. Stands source (fork x c d) gave) (sym same)
    (from_left, from_right, (stands_kept source a c from_left l left, (stands_kept source b d from_right r right, (takes_kept source j a b c d from_left from_right l r takes, gave_is))))

pub net_kept : {S M : Type 0} (source : Source S M) (t u : NetTree S) (w : Waits) (rows : RowList) → KeepsTree source t u → NetStands source (record { tree = t; edge = w; rows = rows })
    → NetStands source (record { tree = u; edge = w; rows = rows })
net_kept source t u w rows k h = record {
  gave = h.gave;
  tree = stands_kept source t u h.gave k h.tree;
  edge = edge_kept w rows h.gave (IsDone t) (IsDone u) (done_kept source t u k) h.edge;
  placed = placed_kept source t u k h.placed;
}
