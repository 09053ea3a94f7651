-- The law of joins: the solutions over leaves side by side are the joined solutions over each part.
use Rattle.std.proofs.Common.{◌≡◌, ℕ, Bool, true, false, cond, ◌&&◌, ◌==◌, List, [], ◌∷◌, ◌++◌, map, flat_map, refl, sym, ap, ◌∙◌, subst, append_assoc, append-nil, map-id}
use Rattle.std.specs.List.{AllByRecursion}
use Rattle.std.proofs.lemmas.Bool.{or_left, or_right, or_cases}
use mathlib.Core.Path.{fun_ext}
use mathlib.Core.Logic.{⊎_elim}
use Rattle.answer_theory.specs.Bindings.{Binding, IsSound, meet, consistent, has_entry, value_of, first_entries, glue}
use Rattle.answer_theory.specs.Solutions.{only, combinations, chosen_rows, solutions, joined_rows, names, Binds, ReadsOnly}
use Rattle.answer_theory.proofs.Lists.{any_append, flat_map_flat_map, flat_map_map, map_map, map_flat_map, flat_map_alike, flat_map_alike_in, flat_map_none, each_map, each_flat_map}
use Rattle.answer_theory.proofs.Bindings.{bound_append, consistent_append, first_entries_append, meet_first_entries, met_value, value_of_glue, bound_first_entries}

-- ---- one row of each leaf

pub combinations_append : {X : Type 0} → (ls rs : List (List (Binding X))) → combinations (ls ++ rs) ≡ flat_map (λ l. map (λ r. l ++ r) (combinations rs)) (combinations ls)
combinations_append [] rs = sym (append-nil (map (λ r. r) (combinations rs)) ∙ map-id (combinations rs))
combinations_append (leaf ∷ ls) rs =
    flat_map_alike _ _ (λ b.
    ap (map (λ bs. b ++ bs)) (combinations_append ls rs)
    ∙ (map_flat_map (λ bs. b ++ bs) (λ l. map (λ r. l ++ r) (combinations rs)) (combinations ls)
    ∙ (flat_map_alike _ _ (λ l. map_map (λ bs. b ++ bs) (λ r. l ++ r) (combinations rs) ∙ ap (λ g. map g (combinations rs)) (fun_ext (λ r. sym (append_assoc b l r)))) (combinations ls)
    ∙ sym (flat_map_map (λ l. map (λ r. l ++ r) (combinations rs)) (λ bs. b ++ bs) (combinations ls))))) leaf
    ∙ sym (flat_map_flat_map (λ l. map (λ r. l ++ r) (combinations rs)) (λ b. map (λ bs. b ++ bs) (combinations ls)) leaf)

pub combinations_one : {X : Type 0} → (rows : List (Binding X)) → combinations (rows ∷ []) ≡ rows
combinations_one [] = refl
combinations_one (b ∷ rows) = ap (λ l. (b ++ []) ∷ l) (combinations_one rows) ∙ ap (λ c. c ∷ rows) (append-nil b)

-- ---- only

pub flat_map_only : {X Y : Type 0} (f : X → List Y) (t : Bool) (x : X) → flat_map f (only t x) ≡ cond t (f x) []
flat_map_only f true x = append-nil (f x)
flat_map_only f false x = refl

pub cond_flat_map : {X Y : Type 0} (f : X → List Y) (t : Bool) (xs : List X) → cond t (flat_map f xs) [] ≡ flat_map (λ x. cond t (f x) []) xs
cond_flat_map f true xs = refl
cond_flat_map f false xs = sym (flat_map_none xs)

-- ---- tests that are placed where their variables are bound

pub reads_left : {X : Type 0} (us : List ℕ) (test : Binding X → Bool) → ReadsOnly us test → (l r : Binding X) → Binds us l → test (glue l r) ≡ test l
reads_left us test h l r k = h (glue l r) l (λ v e. value_of_glue l r v ∙ ap (λ t. cond t (value_of l v) (value_of r v)) (k v e))

pub reads_right : {X : Type 0} (joins : X → X → Bool) → IsSound joins → (vs : List ℕ) (test : Binding X → Bool) → ReadsOnly vs test
    → (l r : Binding X) → Binds vs r → meet joins l r ≡ true → test (glue l r) ≡ test r
reads_right joins s vs test h l r k m = h (glue l r) r (λ v e. value_of_glue l r v ∙ go v e (has_entry l v) refl)
  where
    go : (v : ℕ) → names vs v ≡ true → (t : Bool) → has_entry l v ≡ t → cond t (value_of l v) (value_of r v) ≡ value_of r v
    go v e true i = met_value joins s l r v m i (k v e)
    go v e false i = refl

pub binds_first_entries : {X : Type 0} (vs : List ℕ) (b : Binding X) → Binds vs b → Binds vs (first_entries b)
binds_first_entries vs b h v e = bound_first_entries b v ∙ h v e

pub binds_append : {X : Type 0} (us vs : List ℕ) (l r : Binding X) → Binds us l → Binds vs r → Binds (us ++ vs) (l ++ r)
binds_append us vs l r h k v e = bound_append l r v ∙ ⊎_elim
    (λ i. or_left (has_entry l v) (has_entry r v) (h v i))
    (λ i. or_right (has_entry l v) (has_entry r v) (k v i))
    (or_cases (names us v) (names vs v) (sym (any_append (λ w. w == v) us vs) ∙ e))

pub combinations_binds : {X : Type 0} (us vs : List ℕ) → (ls rs : List (List (Binding X))) → AllByRecursion (Binds us) (combinations ls) → AllByRecursion (Binds vs) (combinations rs) → AllByRecursion (Binds (us ++ vs)) (combinations (ls ++ rs))
combinations_binds us vs ls rs h k = subst (AllByRecursion (Binds (us ++ vs))) (sym (combinations_append ls rs))
    (each_flat_map (Binds us) (Binds (us ++ vs)) (λ l. map (λ r. l ++ r) (combinations rs))
    (λ l i. each_map (Binds vs) (Binds (us ++ vs)) (λ r. l ++ r) (λ r j. binds_append us vs l r i j) (combinations rs) k) (combinations ls) h)

-- ---- the law of joins

-- one row of each part: chosen together is chosen apart, and joined
chosen_together : {X : Type 0} (g : X) (cl cr m m' tl tl' tr tr' w : Bool) → (cl ≡ true → cr ≡ true → m' ≡ m) → tl ≡ tl' → (m' ≡ true → tr ≡ tr')
    → only (((cl && cr) && m) && ((tl && tr) && w)) g ≡ cond (cl && tl') (cond (cr && tr') (only (m' && w) g) []) []
chosen_together g false cr m m' tl tl' tr tr' w e h k = refl
chosen_together g true false m m' tl tl' tr tr' w e h k = nothing tl'
  where
    nothing : (t : Bool) → only false g ≡ cond t [] []
    nothing true = refl
    nothing false = refl
chosen_together g true true m m' tl tl' tr tr' w e h k = go m' (e refl refl) k
  where
    nothing : (s t : Bool) → only false g ≡ cond s (cond t [] []) []
    nothing true true = refl
    nothing true false = refl
    nothing false t = refl

    split : (s t : Bool) → only ((s && t) && w) g ≡ cond s (cond t (only w g) []) []
    split true true = refl
    split true false = refl
    split false t = refl

    go : (n : Bool) → n ≡ m → (n ≡ true → tr ≡ tr') → only (m && ((tl && tr) && w)) g ≡ cond tl' (cond tr' (only (n && w) g) []) []
    go false i j = ap (λ t. only (t && ((tl && tr) && w)) g) (sym i) ∙ nothing tl' tr'
    go true i j = ap (λ t. only (t && ((tl && tr) && w)) g) (sym i) ∙ (ap (λ t. only ((t && tr) && w) g) h ∙ (ap (λ t. only ((tl' && t) && w) g) (j refl) ∙ split tl' tr'))

module _ {X : Type 0} (joins : X → X → Bool) (s : IsSound joins) (us vs : List ℕ) (tl tr w : Binding X → Bool) (hl : ReadsOnly us tl) (hr : ReadsOnly vs tr) where
  -- what is found of a row of each part
  abbrev glued_of : Binding X → Binding X → List (Binding X)
  glued_of l r = only (meet joins l r && w (glue l r)) (glue l r)

  row_of_both : (l r : Binding X) → Binds us l → Binds vs r
      → only (consistent joins (l ++ r) && ((tl (first_entries (l ++ r)) && tr (first_entries (l ++ r))) && w (first_entries (l ++ r)))) (first_entries (l ++ r))
      ≡ cond (consistent joins l && tl (first_entries l)) (cond (consistent joins r && tr (first_entries r)) (glued_of (first_entries l) (first_entries r)) []) []
  row_of_both l r i j =
      ap (λ b. only (consistent joins (l ++ r) && ((tl b && tr b) && w b)) b) (first_entries_append l r)
      ∙ (ap (λ t. only (t && ((tl (glue (first_entries l) (first_entries r)) && tr (glue (first_entries l) (first_entries r))) && w (glue (first_entries l) (first_entries r)))) (glue (first_entries l) (first_entries r))) (consistent_append joins l r)
      ∙ chosen_together (glue (first_entries l) (first_entries r)) (consistent joins l) (consistent joins r) (meet joins l r) (meet joins (first_entries l) (first_entries r))
      (tl (glue (first_entries l) (first_entries r))) (tl (first_entries l)) (tr (glue (first_entries l) (first_entries r))) (tr (first_entries r)) (w (glue (first_entries l) (first_entries r)))
      (λ e h. meet_first_entries joins s l r e h)
      (reads_left us tl hl (first_entries l) (first_entries r) (binds_first_entries us l i))
      (λ m. reads_right joins s vs tr hr (first_entries l) (first_entries r) (binds_first_entries vs r j) m))

  -- what the joined solutions are, row by row
  rows_joined : (ls rs : List (Binding X)) → joined_rows joins w (chosen_rows joins tl ls) (chosen_rows joins tr rs)
      ≡ flat_map (λ l. flat_map (λ r. cond (consistent joins l && tl (first_entries l)) (cond (consistent joins r && tr (first_entries r)) (glued_of (first_entries l) (first_entries r)) []) []) rs) ls
  rows_joined ls rs =
      flat_map_flat_map (λ l. flat_map (glued_of l) (chosen_rows joins tr rs)) (λ l. only (consistent joins l && tl (first_entries l)) (first_entries l)) ls
      ∙ flat_map_alike _ _ (λ l.
      flat_map_only (λ b. flat_map (glued_of b) (chosen_rows joins tr rs)) (consistent joins l && tl (first_entries l)) (first_entries l)
      ∙ (ap (λ rows. cond (consistent joins l && tl (first_entries l)) rows [])
      (flat_map_flat_map (glued_of (first_entries l)) (λ r. only (consistent joins r && tr (first_entries r)) (first_entries r)) rs
      ∙ flat_map_alike _ _ (λ r. flat_map_only (glued_of (first_entries l)) (consistent joins r && tr (first_entries r)) (first_entries r)) rs)
      ∙ cond_flat_map (λ r. cond (consistent joins r && tr (first_entries r)) (glued_of (first_entries l) (first_entries r)) []) (consistent joins l && tl (first_entries l)) rs)) ls

  pub solutions_join : (ls rs : List (List (Binding X))) → AllByRecursion (Binds us) (combinations ls) → AllByRecursion (Binds vs) (combinations rs)
      → solutions joins (λ b. (tl b && tr b) && w b) (ls ++ rs) ≡ joined_rows joins w (solutions joins tl ls) (solutions joins tr rs)
  solutions_join ls rs hls hrs =
      ap (chosen_rows joins (λ b. (tl b && tr b) && w b)) (combinations_append ls rs)
      ∙ (flat_map_flat_map (λ b. only (consistent joins b && ((tl (first_entries b) && tr (first_entries b)) && w (first_entries b))) (first_entries b)) (λ l. map (λ r. l ++ r) (combinations rs)) (combinations ls)
      ∙ (flat_map_alike_in (Binds us) _ _ (λ l i.
      flat_map_map (λ b. only (consistent joins b && ((tl (first_entries b) && tr (first_entries b)) && w (first_entries b))) (first_entries b)) (λ r. l ++ r) (combinations rs)
      ∙ flat_map_alike_in (Binds vs) _ _ (λ r j. row_of_both l r i j) (combinations rs) hrs) (combinations ls) hls
      ∙ sym (rows_joined (combinations ls) (combinations rs))))
