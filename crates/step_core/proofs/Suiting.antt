-- Operators to which nothing has come stand, and have given nothing.
use Rattle.std.proofs.Common.{◌≡◌, ℕ, zero, suc, ◌<◌, List, [], length, map, filter, not, replicate, refl, sym, ap, subst, ◌∙◌}
use Rattle.std.proofs.lemmas.Bool.{false≢true}
use Rattle.std.proofs.lemmas.List.Elements.{All-append, All-filter}
use Rattle.answer_theory.specs.Rows.{glued_variables}
use Rattle.answer_theory.specs.Solutions.{names}
use Rattle.answer_theory.specs.Pairs.{pairs}
use Rattle.answer_theory.proofs.Bags.{bag_from_same}
use Rattle.med_base.specs.declared.outside.source.Source.{Ghosts as Source}
use Rattle.tuple_core.specs.Values.{RowList}
use Rattle.row_match.specs.Shapes.{Shape}
use Rattle.row_match.specs.Patterns.{most_variables}
use Rattle.row_match.specs.declared.filter.Comparison.{Comparison}
use Rattle.row_match.specs.declared.shape.Side.TheVariants as side
use Rattle.join_core.specs.Given.{given_rows, glued, is_given}
use Rattle.join_core.specs.State.{fresh_join, no_pile, rows_of, stored_rows}
use Rattle.collect_core.specs.Members.{AreSound, AreTold, HasAccepted}
use Rattle.collect_core.specs.Selecting.{Select}
use Rattle.collect_core.specs.Steps.{given_rows as selected_of}
use Rattle.step_core.specs.Edges.{IsEdge, IsUnused, Waits}
use Rattle.step_core.specs.Nets.{JoinState, LeafState, NetTree, leaf, fork, joined_variables, passed_rows, passes, variables}
use Rattle.step_core.specs.Planting.{AreFew, FitsAtom, FitsJoin, IsFresh, IsFreshJoin, fresh_leaf, shape_over}
use Rattle.step_core.specs.Standing.{FillTerms, HasSelected, IsDone, NetStands, Reads, TakesFrom}
use Rattle.step_core.specs.declared.planting.NetAtom.{NetAtom}
use Rattle.step_core.specs.declared.planting.NetJoin.{NetJoin}

-- ---- an edge

pub unused_edge : (w : Waits) (D : Type 0) → IsUnused w → IsEdge w [] [] D
unused_edge w D u = record {
  rows = bag_from_same u.rows;
  counted = u.given;
  closed = λ e. absurd (false≢true (sym u.put ∙ e));
  last = λ e. absurd (false≢true (sym u.taken ∙ e));
}

-- ---- an atom

selects_none : (select : Select) (n : ℕ) → [] ≡ selected_of select (replicate n [])
selects_none select zero = refl
selects_none select (suc n) = selects_none select n

fills_none : (select : Select) (n : ℕ) → FillTerms select (replicate n [])
fills_none select zero = tt
fills_none select (suc n) = (tt, fills_none select n)

pub leaf_selects : {S M : Type 0} (source : Source S M) (l : LeafState S) → HasAccepted source l.collecting.members (replicate (length l.collecting.members) [])
    → ((accepted : List RowList) → HasAccepted source l.collecting.members accepted → AreTold source l.collecting.columns l.collecting.members accepted) → AreSound source l.collecting.columns l.collecting.members
    → HasSelected source l []
leaf_selects source l has told sound = record {
  accepted = replicate (length l.collecting.members) [];
  has = has;
  fill = fills_none l.collecting.select (length l.collecting.members);
  told = told (replicate (length l.collecting.members) []) has;
  sound = sound;
  selected = selects_none l.collecting.select (length l.collecting.members);
  wide = refl;
}

pub leaf_fresh : {S M : Type 0} (source : Source S M) (a : NetAtom) (l : LeafState S) (vs : List ℕ) → FitsAtom a → l ≡ fresh_leaf a → HasSelected source l [] → vs ≡ variables (leaf (fresh_leaf {S = S} a)) → IsFresh source (leaf l) vs
leaf_fresh {S} {M} source a l vs fits is selects same = subst (λ k. IsFresh source (leaf k) vs) (sym is) (record {
  stands = subst (λ k. HasSelected source k []) is selects;
  placed = fits.reads;
  variables = same;
  few = subst (λ us. AreFew us) (sym same) fits.few;
})

-- ---- a join

no_rows : (n : ℕ) → rows_of (replicate n no_pile) ≡ []
no_rows zero = refl
no_rows (suc n) = no_rows n

nothing_given : (n : ℕ) (shape : Shape) → given_rows (fresh_join n shape) ≡ []
nothing_given n shape =
    ap (λ rows. map (λ p. glued shape p.0.row p.1.row) (pairs (is_given (fresh_join n shape)) rows (rows_of (replicate n no_pile)))) (no_rows n)

nothing_passed : (s : JoinState) (n : ℕ) (shape : Shape) → s.joining ≡ fresh_join n shape → [] ≡ passed_rows s
nothing_passed s n shape e = ap (λ rows. filter (passes s) rows) (sym (ap given_rows e ∙ nothing_given n shape))

takes_none : (j : NetJoin) (s : JoinState) (us vs : List ℕ) (D E : Type 0) → IsFreshJoin us vs j s → TakesFrom s us vs D E [] []
takes_none j s us vs D E f = record {
  left_variables = ap (λ x. x.shape.left) f.joining;
  right_variables = ap (λ x. x.shape.right) f.joining;
  left = subst (λ rows. IsEdge s.left rows [] D) (sym (ap (λ x. stored_rows side.Left x) f.joining ∙ ap (λ rows. map (λ h. h.row) rows) (no_rows j.buckets))) (unused_edge s.left D f.left);
  right = subst (λ rows. IsEdge s.right rows [] E) (sym (ap (λ x. stored_rows side.Right x) f.joining ∙ ap (λ rows. map (λ h. h.row) rows) (no_rows j.buckets))) (unused_edge s.right E f.right);
  left_ended = ap (λ x. x.left_ended) f.joining ∙ sym f.left.taken;
  right_ended = ap (λ x. x.right_ended) f.joining ∙ sym f.right.taken;
  left_wide = refl;
  right_wide = refl;
}

pub glued_below : (us vs : List ℕ) → AreFew us → AreFew vs → AreFew (glued_variables us vs)
glued_below us vs h k = All-append (λ v. v < most_variables) us (filter (λ v. not (names us v)) vs) h (All-filter (λ v. not (names us v)) (λ v. v < most_variables) vs k)

abbrev Placed : Shape → List Comparison → Type 0
Placed x cs = Reads (joined_variables x) cs

pub fork_fresh : {S M : Type 0} (source : Source S M) (j : NetJoin) (s : JoinState) (a b : NetTree S) (us vs ws : List ℕ) → IsFresh source a us → IsFresh source b vs → IsFreshJoin us vs j s → FitsJoin us vs j
    → ws ≡ glued_variables us vs → AreFew ws → IsFresh source (fork s a b) ws
fork_fresh {S} {M} source j s a b us vs ws h k f fits same few =
    let shape = ap (λ x. x.shape) f.joining in
    record {
      stands = (
        [],
        [],
        (
          h.stands,
          (
            k.stands,
            (
              subst (λ x. TakesFrom s x (variables b) (IsDone a) (IsDone b) [] []) h.variables (subst (λ x. TakesFrom s us x (IsDone a) (IsDone b) [] []) k.variables (takes_none j s us vs (IsDone a) (IsDone b) f)),
              nothing_passed s j.buckets (shape_over us vs) f.joining,
            ),
          ),
        ),
      );
      placed = (h.placed, (k.placed, subst (λ x. Placed x s.comparisons) (sym shape) (subst (λ cs. Placed (shape_over us vs) cs) (sym f.comparisons) fits.reads)));
      variables = same ∙ ap (λ x. glued_variables x.left x.right) (sym shape);
      few = few;
    }

-- ---- the net

pub net_fresh : {S M : Type 0} (source : Source S M) (t : NetTree S) (vs : List ℕ) (w : Waits) → IsFresh source t vs → IsUnused w → NetStands source (record { tree = t; edge = w; rows = [] })
net_fresh source t vs w f u = record { gave = []; tree = f.stands; edge = unused_edge w (IsDone t) u; placed = f.placed }
