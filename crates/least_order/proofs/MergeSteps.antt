-- One more part that is looked at while an item is merged with those that share a variable with it.
use Rattle.std.proofs.Common.{◌≡◌, ℕ, ◌+◌, ◌<◌, true, false, not, List, [], ◌∷◌, ◌++◌, length, get_or, set, take, drop, sym, ◌∙◌, ap, arith, append-nil}
use Rattle.std.proofs.lemmas.Bool.{cond-true, cond-false, not_from_true, not_from_false}
use Rattle.std.proofs.lemmas.List.{get_or-drop, get_or_default}
use Rattle.std.proofs.lemmas.List.Elements.{filter_more}
use Rattle.std.proofs.lemmas.List.Filters.{FiltersInPlace, FiltersInPlace-more_no, FiltersInPlace-more_set}
use Rattle.std.proofs.lemmas.List.Sums.{fold_push}
use Rattle.std.specs.List.{filter, fold}
use Rattle.least_order.specs.declared.item.Item.{Item}
use Rattle.least_order.specs.Items.{shares}
use Rattle.least_order.specs.Merging.{joined}

-- The first parts were looked at: those that share nothing with the item are in front, and the others are joined with it.
pub record Merges (item : Item) (before parts : List Item) (merged : Item) (kept index : ℕ) : Type 0 where
  pub apart : FiltersInPlace (λ part. not (shares part item)) before parts kept index
  pub joined : merged ≡ fold joined item (filter (λ part. shares part item) (take index before))

-- what stands at the index now stood there before
read_before : (item : Item) (before parts : List Item) (merged : Item) (kept index : ℕ) (d : Item)
    → Merges item before parts merged kept index → get_or parts index d ≡ get_or before index d
read_before item before parts merged kept index d so_far =
    let here : get_or (drop index parts) 0 d ≡ get_or parts index d =
    get_or-drop index parts 0 d ∙ ap (λ (i : ℕ). get_or parts i d) (let e : index + 0 ≡ index = omega arith in e) in
    let there : get_or (drop index before) 0 d ≡ get_or before index d =
    get_or-drop index before 0 d ∙ ap (λ (i : ℕ). get_or before i d) (let e : index + 0 ≡ index = omega arith in e) in
    sym here ∙ ap (λ (rest : List Item). get_or rest 0 d) so_far.apart.rest ∙ there

pub merges_shared : (item : Item) (before parts : List Item) (merged : Item) (kept index : ℕ) (d : Item)
    → Merges item before parts merged kept index → index < length parts → shares (get_or parts index d) item ≡ true
    → Merges item before parts (joined merged (get_or parts index d)) kept (index + 1)
merges_shared item before parts merged kept index d so_far within share =
    let long : length parts ≡ length before = so_far.apart.long in
    let same : get_or parts index d ≡ get_or before index d = read_before item before parts merged kept index d so_far in
    let more : filter (λ (part : Item). shares part item) (take (index + 1) before)
    ≡ filter (λ (part : Item). shares part item) (take index before) ++ get_or before index d ∷ [] =
    filter_more (λ part. shares part item) before index d (omega arith)
    ∙ ap (λ (last : List Item). filter (λ (part : Item). shares part item) (take index before) ++ last)
    (cond-true (shares (get_or before index d) item) (get_or before index d ∷ []) [] (sym (ap (λ (x : Item). shares x item) same) ∙ share)) in
    record {
      apart = FiltersInPlace-more_no so_far.apart within (not_from_true (shares (get_or parts index d) item) share)
          (get_or_default parts index d (get_or parts index d) within);
      joined = ap (λ (m : Item). joined m (get_or parts index d)) so_far.joined
          ∙ ap (λ (x : Item). joined (fold joined item (filter (λ (part : Item). shares part item) (take index before))) x) same
          ∙ sym (ap (λ (xs : List Item). fold joined item xs) more
          ∙ fold_push joined item (filter (λ (part : Item). shares part item) (take index before)) (get_or before index d));
    }

pub merges_apart : (item : Item) (before parts : List Item) (merged : Item) (kept index : ℕ) (d : Item)
    → Merges item before parts merged kept index → index < length parts → shares (get_or parts index d) item ≡ false
    → Merges item before (set parts kept (get_or parts index d)) merged (kept + 1) (index + 1)
merges_apart item before parts merged kept index d so_far within share =
    let long : length parts ≡ length before = so_far.apart.long in
    let same : get_or parts index d ≡ get_or before index d = read_before item before parts merged kept index d so_far in
    let more : filter (λ (part : Item). shares part item) (take (index + 1) before)
    ≡ filter (λ (part : Item). shares part item) (take index before) ++ [] =
    filter_more (λ part. shares part item) before index d (omega arith)
    ∙ ap (λ (last : List Item). filter (λ (part : Item). shares part item) (take index before) ++ last)
    (cond-false (shares (get_or before index d) item) (get_or before index d ∷ []) [] (sym (ap (λ (x : Item). shares x item) same) ∙ share)) in
    record {
      apart = FiltersInPlace-more_set so_far.apart within (not_from_false (shares (get_or parts index d) item) share)
          (get_or_default parts index d (get_or parts index d) within);
      joined = so_far.joined ∙ sym (ap (λ (xs : List Item). fold joined item xs)
          (more ∙ append-nil (filter (λ (part : Item). shares part item) (take index before))));
    }
