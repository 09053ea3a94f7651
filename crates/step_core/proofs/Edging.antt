-- What an edge promises, after each change of it.
use Rattle.std.proofs.Common.{◌≡◌, ◌+◌, true, List, [], ◌∷◌, ◌++◌, length, sym, ap, subst, ◌∙◌, append_assoc, append-nil, length-append, arith}
use Rattle.answer_theory.specs.Bags.{SameBag}
use Rattle.answer_theory.proofs.Bags.{bag_append, bag_from_same, bag_length, bag_refl, bag_sym, bag_trans}
use Rattle.tuple_core.specs.Values.{RowList, RowValues}
use Rattle.step_core.specs.Edges.{IsEdge, SameWaits, TakesEnd, TakesFirst, Waits}

pub bag_more : {X : Type 0} {xs ys : List X} → SameBag xs (ys ++ []) → SameBag xs ys
bag_more {X} {xs} {ys} h = bag_trans h (bag_from_same (append-nil ys))

not_empty : {X : Type 0} (x : X) (xs : List X) → x ∷ xs ≡ [] → ⊥
not_empty x xs e = Prim.omega (arith, ap length e)

-- the giver gave more, and put it
pub edge_given : (w v : Waits) (had gave now more : RowList) (D E : Type 0) → IsEdge w had gave D → v.rows ≡ w.rows ++ more → v.given ≡ w.given + length more → v.taken ≡ w.taken → (w.put ≡ true → v.put ≡ true)
    → SameBag now (gave ++ more) → (v.put ≡ true → E) → (w.put ≡ true → D → more ≡ []) → IsEdge v had now E
edge_given w v had gave now more D E h rows given taken put bag done quiet = record {
  rows = bag_trans (bag_from_same (ap (λ x. had ++ x) rows ∙ sym (append_assoc had w.rows more))) (bag_trans (bag_append h.rows (bag_refl more)) (bag_sym bag));
  counted = given ∙ ap (λ n. n + length more) h.counted ∙ sym (length-append gave more) ∙ sym (bag_length bag);
  closed = done;
  last = λ e. (put (h.last (sym taken ∙ e)).0, rows ∙ ap (λ x. w.rows ++ x) (quiet (h.last (sym taken ∙ e)).0 (h.closed (h.last (sym taken ∙ e)).0)) ∙ append-nil w.rows ∙ (h.last (sym taken ∙ e)).1);
}

-- the taker has the same rows of it
pub edge_same : (w v : Waits) (had has gave : RowList) (D : Type 0) → IsEdge w had gave D → SameWaits w v → SameBag has had → IsEdge v has gave D
edge_same w v had has gave D h same bag = record {
  rows = bag_trans (bag_append bag (bag_from_same same.rows)) h.rows;
  counted = same.given ∙ h.counted;
  closed = λ e. h.closed (sym same.put ∙ e);
  last = λ e. (same.put ∙ (h.last (sym same.taken ∙ e)).0, same.rows ∙ (h.last (sym same.taken ∙ e)).1);
}

-- the taker took the first row
pub edge_taken : (w v : Waits) (had has gave : RowList) (row : RowValues) (D : Type 0) → IsEdge w had gave D → TakesFirst w v row → SameBag has (had ++ row ∷ []) → IsEdge v has gave D
edge_taken w v had has gave row D h takes bag = record {
  rows = bag_trans (bag_append bag (bag_refl v.rows)) (bag_trans (bag_from_same (append_assoc had (row ∷ []) v.rows ∙ ap (λ x. had ++ x) (sym takes.first))) h.rows);
  counted = takes.given ∙ h.counted;
  closed = λ e. h.closed (sym takes.put ∙ e);
  last = λ e. absurd (not_empty row v.rows (sym takes.first ∙ (h.last (sym takes.taken ∙ e)).1));
}

-- the taker took the end
pub edge_ended : (w v : Waits) (had has gave : RowList) (D : Type 0) → IsEdge w had gave D → TakesEnd w v → SameBag has had → IsEdge v has gave D
edge_ended w v had has gave D h takes bag = subst (λ x. IsEdge x has gave D) (sym takes.taken) (record {
  rows = bag_trans (bag_append bag (bag_refl w.rows)) h.rows;
  counted = h.counted;
  closed = h.closed;
  last = λ e. (takes.put, takes.empty);
})

-- a row was taken of an edge whose end wasn't
pub taken_goes_on : (w v : Waits) (had gave : RowList) (row : RowValues) (D : Type 0) → IsEdge w had gave D → TakesFirst w v row → w.taken ≡ true → ⊥
taken_goes_on w v had gave row D h takes e = not_empty row v.rows (sym takes.first ∙ (h.last e).1)
