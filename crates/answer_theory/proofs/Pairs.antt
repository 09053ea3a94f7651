-- The laws of pairs.
use Rattle.std.proofs.Common.{◌≡◌, ℕ, ◌+◌, arith, Bool, true, false, cond, not, ◌&&◌, ◌||◌, List, [], ◌∷◌, ◌++◌, filter, flat_map, All, refl, sym, ap, ap₂, ◌∙◌, append-nil}
use Rattle.std.proofs.lemmas.List.Elements.{recursion_from_All}
use Rattle.answer_theory.specs.Bags.{weight_of, SameBag}
use Rattle.answer_theory.specs.Bindings.{Binding, meet, glue}
use Rattle.answer_theory.specs.Solutions.{only, joined_rows}
use Rattle.answer_theory.specs.Pairs.{pairs, AlikeOn}
use Rattle.answer_theory.proofs.Bags.{weight_of_flat_map, weight_of_alike, weight_of_sum, weight_of_append, bag_trans, bag_from_same, bag_append_comm, bag_flat_map, bag_flat_map_alike}
use Rattle.answer_theory.proofs.Lists.{flat_map_filter, flat_map_append, flat_map_flat_map, flat_map_alike, flat_map_alike_in}
use Rattle.answer_theory.proofs.Solutions.{flat_map_only, cond_flat_map}

-- ---- what pairs weigh

abbrev weight : {L R : Type 0} → (L × R → ℕ) → (L → R → Bool) → L → R → ℕ
weight {L} {R} f p l r = weight_of f (only {X = L × R} (p l r) (l, r))

weight_of_pairs : {L R : Type 0} (f : L × R → ℕ) (p : L → R → Bool) (ls : List L) (rs : List R) → weight_of f (pairs p ls rs) ≡ weight_of (λ l. weight_of (weight f p l) rs) ls
weight_of_pairs f p ls rs = weight_of_flat_map _ f ls ∙ weight_of_alike _ _ (λ l. weight_of_flat_map _ f rs) ls

-- a test that holds where exactly one of two tests holds
pub pairs_apart : {L R : Type 0} (p q s : L → R → Bool) → ((l : L) (r : R) → (t : L × R) → (f : L × R → ℕ) → weight_of f (only (s l r) t) ≡ weight_of f (only (p l r) t) + weight_of f (only (q l r) t))
    → (ls : List L) (rs : List R) → SameBag (pairs s ls rs) (pairs p ls rs ++ pairs q ls rs)
pairs_apart p q s h ls rs = record {
  weighs = λ f.
      weight_of_pairs f s ls rs
      ∙ (weight_of_alike _ _ (λ l. weight_of_alike _ _ (λ r. h l r (l, r) f) rs ∙ weight_of_sum (weight f p l) (weight f q l) rs) ls
      ∙ (weight_of_sum (λ l. weight_of (weight f p l) rs) (λ l. weight_of (weight f q l) rs) ls
      ∙ (sym (ap₂ (λ m n. m + n) (weight_of_pairs f p ls rs) (weight_of_pairs f q ls rs))
      ∙ sym (weight_of_append f (pairs p ls rs) (pairs q ls rs)))));
}

pub pairs_parted : {L R : Type 0} (p t : L → R → Bool) (ls : List L) (rs : List R) → SameBag (pairs p ls rs) (pairs (λ l r. p l r && t l r) ls rs ++ pairs (λ l r. p l r && not (t l r)) ls rs)
pairs_parted {L} {R} p t = pairs_apart _ _ p (λ l r. go (p l r) (t l r))
  where
    go : (a b : Bool) (x : L × R) (f : L × R → ℕ) → weight_of f (only a x) ≡ weight_of f (only (a && b) x) + weight_of f (only (a && not b) x)
    go true true x f = omega arith
    go true false x f = omega arith
    go false b x f = refl

-- what a further test adds to the pairs of a first one
pub pairs_added : {L R : Type 0} (p t : L → R → Bool) (ls : List L) (rs : List R) → SameBag (pairs (λ l r. p l r || t l r) ls rs) (pairs p ls rs ++ pairs (λ l r. not (p l r) && t l r) ls rs)
pairs_added {L} {R} p t = pairs_apart _ _ _ (λ l r. go (p l r) (t l r))
  where
    go : (a b : Bool) (x : L × R) (f : L × R → ℕ) → weight_of f (only (a || b) x) ≡ weight_of f (only a x) + weight_of f (only (not a && b) x)
    go true b x f = omega arith
    go false true x f = omega arith
    go false false x f = refl

-- ---- tests that answer alike

pub pairs_alike : {L R : Type 0} (p q : L → R → Bool) (ls : List L) (rs : List R) → AlikeOn ls rs p q → pairs p ls rs ≡ pairs q ls rs
pairs_alike {L} {R} p q ls rs h = flat_map_alike_in (λ l. All (λ r. p l r ≡ q l r) rs) _ _
    (λ l k. flat_map_alike_in (λ r. p l r ≡ q l r) _ _ (λ r e. ap (λ t. only {X = L × R} t (l, r)) e) rs (recursion_from_All _ rs k)) ls (recursion_from_All _ ls h)

-- ---- pairs of parts of the sides

pub pairs_filtered : {L R : Type 0} (s : L → Bool) (t : R → Bool) (p : L → R → Bool) (ls : List L) (rs : List R)
    → pairs (λ l r. p l r && (s l && t r)) ls rs ≡ pairs p (filter s ls) (filter t rs)
pairs_filtered {L} {R} s t p ls rs = sym (
    flat_map_filter (λ l. flat_map (λ r. only {X = L × R} (p l r) (l, r)) (filter t rs)) s ls
    ∙ flat_map_alike _ _ (λ l.
    ap (λ us. cond (s l) us []) (flat_map_filter (λ r. only {X = L × R} (p l r) (l, r)) t rs)
    ∙ (cond_flat_map (λ r. cond (t r) (only {X = L × R} (p l r) (l, r)) []) (s l) rs
    ∙ flat_map_alike _ _ (λ r. go (s l) (t r) (p l r) (l, r)) rs)) ls)
  where
    go : (a b c : Bool) (x : L × R) → cond a (cond b (only c x) []) [] ≡ only (c && (a && b)) x
    go true true true x = refl
    go true true false x = refl
    go true false true x = refl
    go true false false x = refl
    go false b true x = refl
    go false b false x = refl

-- A test that is true at one pair more adds exactly that pair. The pair is told by a test of each side that one row alone meets.
pub pairs_one_more : {L R : Type 0} (p q : L → R → Bool) (s : L → Bool) (t : R → Bool) (l : L) (r : R) (ls : List L) (rs : List R)
    → filter s ls ≡ l ∷ [] → filter t rs ≡ r ∷ [] → p l r ≡ false → AlikeOn ls rs q (λ x y. p x y || (s x && t y)) → SameBag (pairs q ls rs) ((l, r) ∷ pairs p ls rs)
pairs_one_more {L} {R} p q s t l r ls rs hl hr hp h =
    bag_trans (bag_from_same (pairs_alike q (λ x y. p x y || (s x && t y)) ls rs h))
    (bag_trans (pairs_added p (λ x y. s x && t y) ls rs)
    (bag_trans (bag_append_comm (pairs p ls rs) (pairs (λ x y. not (p x y) && (s x && t y)) ls rs))
    (bag_from_same (ap (λ us. us ++ pairs p ls rs) one))))
  where
    one : pairs (λ x y. not (p x y) && (s x && t y)) ls rs ≡ (l, r) ∷ []
    one = pairs_filtered s t (λ x y. not (p x y)) ls rs ∙ (ap₂ (pairs (λ x y. not (p x y))) hl hr ∙ (append-nil _ ∙ (append-nil _ ∙ ap (λ a. only {X = L × R} (not a) (l, r)) hp)))

-- ---- rows that come

pub pairs_append_left : {L R : Type 0} (p : L → R → Bool) (ls ms : List L) (rs : List R) → pairs p (ls ++ ms) rs ≡ pairs p ls rs ++ pairs p ms rs
pairs_append_left {L} {R} p ls ms rs = flat_map_append (λ l. flat_map (λ r. only {X = L × R} (p l r) (l, r)) rs) ls ms

pub pairs_append_right : {L R : Type 0} (p : L → R → Bool) (ls : List L) (rs ss : List R) → SameBag (pairs p ls (rs ++ ss)) (pairs p ls rs ++ pairs p ls ss)
pairs_append_right {L} {R} p ls rs ss = record {
  weighs = λ f.
      weight_of_pairs f p ls (rs ++ ss)
      ∙ (weight_of_alike _ _ (λ l. weight_of_append (weight f p l) rs ss) ls
      ∙ (weight_of_sum (λ l. weight_of (weight f p l) rs) (λ l. weight_of (weight f p l) ss) ls
      ∙ (sym (ap₂ (λ m n. m + n) (weight_of_pairs f p ls rs) (weight_of_pairs f p ls ss))
      ∙ sym (weight_of_append f (pairs p ls rs) (pairs p ls ss)))));
}

pub bag_pairs : {L R : Type 0} (p : L → R → Bool) → {ls ms : List L} {rs ss : List R} → SameBag ls ms → SameBag rs ss → SameBag (pairs p ls rs) (pairs p ms ss)
bag_pairs {L} {R} p {ls} {ms} {rs} {ss} h k = bag_trans
    (bag_flat_map (λ l. flat_map (λ r. only {X = L × R} (p l r) (l, r)) rs) h)
    (bag_flat_map_alike _ _ (λ l. bag_flat_map (λ r. only {X = L × R} (p l r) (l, r)) k) ms)

-- ---- joined rows are the glued pairs that meet

pub joined_pairs : {X : Type 0} (joins : X → X → Bool) (test : Binding X → Bool) (ls rs : List (Binding X))
    → joined_rows joins test ls rs ≡ flat_map (λ p. only (test (glue p.0 p.1)) (glue p.0 p.1)) (pairs (meet joins) ls rs)
joined_pairs {X} joins test ls rs = sym (
    flat_map_flat_map (λ p. only (test (glue p.0 p.1)) (glue p.0 p.1)) (λ l. flat_map (λ r. only {X = Binding X × Binding X} (meet joins l r) (l, r)) rs) ls
    ∙ flat_map_alike _ _ (λ l.
    flat_map_flat_map (λ p. only (test (glue p.0 p.1)) (glue p.0 p.1)) (λ r. only {X = Binding X × Binding X} (meet joins l r) (l, r)) rs
    ∙ flat_map_alike _ _ (λ r. flat_map_only (λ p. only (test (glue p.0 p.1)) (glue p.0 p.1)) (meet joins l r) (l, r) ∙ go (meet joins l r) (test (glue l r)) (glue l r)) rs) ls)
  where
    go : (a b : Bool) (g : Binding X) → cond a (only b g) [] ≡ only (a && b) g
    go true b g = refl
    go false b g = refl

pub joined_append_left : {X : Type 0} (joins : X → X → Bool) (test : Binding X → Bool) (ls ms rs : List (Binding X)) → joined_rows joins test (ls ++ ms) rs ≡ joined_rows joins test ls rs ++ joined_rows joins test ms rs
joined_append_left joins test ls ms rs = flat_map_append (λ l. flat_map (λ r. only (meet joins l r && test (glue l r)) (glue l r)) rs) ls ms

pub joined_append_right : {X : Type 0} (joins : X → X → Bool) (test : Binding X → Bool) (ls rs ss : List (Binding X)) → SameBag (joined_rows joins test ls (rs ++ ss)) (joined_rows joins test ls rs ++ joined_rows joins test ls ss)
joined_append_right {X} joins test ls rs ss = bag_trans
    (bag_from_same (joined_pairs joins test ls (rs ++ ss)))
    (bag_trans (bag_flat_map glued_of (pairs_append_right (meet joins) ls rs ss))
    (bag_from_same (flat_map_append glued_of (pairs (meet joins) ls rs) (pairs (meet joins) ls ss)
    ∙ sym (ap₂ (λ us vs. us ++ vs) (joined_pairs joins test ls rs) (joined_pairs joins test ls ss)))))
  where
    glued_of : Binding X × Binding X → List (Binding X)
    glued_of p = only (test (glue p.0 p.1)) (glue p.0 p.1)
