-- Looking up a name among the first of each name finds what stands first among all.
use Rattle.std.proofs.Common.{◌≡◌, ℕ, suc, ◌+◌, ◌≤◌, Bool, true, false, cond, not, ◌||◌, true≢false, List, [], ◌∷◌, filter, length, slice_get, Option, Some, None, option_map, refl, sym, ap, ◌∙◌, arith}
use Rattle.std.specs.Prelude.{is_some}
use Rattle.std.specs.List.{find, list_any, position_or_len}
use Rattle.cat_reader.specs.Relations.{same_text}
use Rattle.cat_reader.specs.declared.catalogue.Relation.{Relation}
use Rattle.query_reader.specs.Directories.{relation_indices}
use Rattle.query_reader.specs.Reading.{relation_index}
use Rattle.query_reader.specs.Mentions.{first_mentions, has_name, number_named, value_named}
use Rattle.query_reader.proofs.MentionLaws.{same_name}

-- what is left out of a list without an element that passes
find_kept : {A : Type 0} (test keep : A → Bool) → ((x : A) → test x ≡ true → keep x ≡ true) → (xs : List A) → find test (filter keep xs) ≡ find test xs
find_kept test keep keeps [] = refl
find_kept {A} test keep keeps (x ∷ xs) = by (keep x) (test x) refl refl (find_kept test keep keeps xs)
  where
    by : (k t : Bool) → keep x ≡ k → test x ≡ t → find test (filter keep xs) ≡ find test xs
        → find test (cond k (x ∷ filter keep xs) (filter keep xs)) ≡ cond t (Some x) (find test xs)
    by true t kept tested rest = ap (λ (b : Bool). cond b (Some x) (find test (filter keep xs))) tested ∙ ap (λ (o : Option A). cond t (Some x) o) rest
    by false true left tested rest = absurd (true≢false (sym (keeps x tested) ∙ left))
    by false false left tested rest = rest

any_found : {A : Type 0} (test : A → Bool) (xs : List A) → list_any test xs ≡ is_some (find test xs)
any_found test [] = refl
any_found {A} test (x ∷ xs) = by (test x) (any_found test xs)
  where
    by : (b : Bool) → list_any test xs ≡ is_some (find test xs) → (b || list_any test xs) ≡ is_some (cond b (Some x) (find test xs))
    by true same = refl
    by false same = same

-- one of the name isn't left out with another name
apart : (name other third : List ℕ) → same_text name other ≡ false → same_text name third ≡ true → not (same_text other third) ≡ true
apart name other third differs same = by (same_text other third) refl
  where
    by : (b : Bool) → same_text other third ≡ b → not b ≡ true
    by true e = absurd (true≢false (sym same ∙ ap (same_text name) (sym (same_name other third e)) ∙ differs))
    by false e = refl

module _ {X : Type 0} (name : List ℕ) where
  found_first : (all : List (List ℕ × X)) → find (λ (n : List ℕ × X). same_text name n.0) (first_mentions all) ≡ find (λ (n : List ℕ × X). same_text name n.0) all
  found_first [] = refl
  found_first (n ∷ more) = by (same_text name n.0) refl (found_first more)
    where
      by : (b : Bool) → same_text name n.0 ≡ b → find (λ (m : List ℕ × X). same_text name m.0) (first_mentions more) ≡ find (λ (m : List ℕ × X). same_text name m.0) more
          → cond b (Some n) (find (λ (m : List ℕ × X). same_text name m.0) (filter (λ (m : List ℕ × X). not (same_text n.0 m.0)) (first_mentions more))) ≡ cond b (Some n) (find (λ (m : List ℕ × X). same_text name m.0) more)
      by true e rest = refl
      by false e rest = find_kept (λ (m : List ℕ × X). same_text name m.0) (λ (m : List ℕ × X). not (same_text n.0 m.0)) (λ m same. apart name n.0 m.0 e same) (first_mentions more) ∙ rest

  pub value_of_firsts : (all : List (List ℕ × X)) → value_named (first_mentions all) name ≡ value_named all name
  value_of_firsts all = ap (λ (o : Option (List ℕ × X)). option_map (λ (n : List ℕ × X). n.1) o) (found_first all)

  pub has_of_firsts : (all : List (List ℕ × X)) → has_name (first_mentions all) name ≡ has_name all name
  has_of_firsts all = any_found (λ (n : List ℕ × X). same_text name n.0) (first_mentions all) ∙ ap is_some (found_first all) ∙ sym (any_found (λ (n : List ℕ × X). same_text name n.0) all)

  pub number_within : (all : List (List ℕ × X)) → number_named all name ≤ length all
  number_within [] = omega arith
  number_within (n ∷ more) = by (same_text name n.0) (number_within more)
    where
      by : (b : Bool) → number_named more name ≤ length more → cond (not b) (1 + number_named more name) 0 ≤ suc (length more)
      by true within = omega arith
      by false within = omega arith

-- ---- a relation by its position

-- a position is at most how many relations there are
pub position_within : (name : List ℕ) (relations : List Relation) → relation_index relations name ≤ length relations
position_within name [] = omega arith
position_within name (r ∷ relations) = by (same_text name r.name) (position_within name relations)
  where
    by : (b : Bool) → relation_index relations name ≤ length relations → cond (not b) (1 + relation_index relations name) 0 ≤ suc (length relations)
    by true within = omega arith
    by false within = omega arith

-- the relation of this name is at the position, which is that of the first one of the name
pub record IsAt (name : List ℕ) (relations : List Relation) (position : ℕ) : Type 0 where
  pub relation : slice_get relations position ≡ find (λ (r : Relation). same_text name r.name) relations
  pub number : position ≡ position_or_len (λ (r : Relation). same_text name r.name) relations

-- no relation has the name
pub record IsMissing (name : List ℕ) (relations : List Relation) : Type 0 where
  pub relation : None ≡ find (λ (r : Relation). same_text name r.name) relations
  pub number : length relations ≡ position_or_len (λ (r : Relation). same_text name r.name) relations

module _ (name : List ℕ) where
  at_from : (k : ℕ) (relations : List Relation) (position : ℕ) → Some position ≡ value_named (relation_indices k relations) name → (j : ℕ) × (position ≡ k + j) × IsAt name relations j
  at_from k [] position found = cc
  at_from k (r ∷ relations) position found = by (same_text name r.name) refl (at_from (k + 1) relations position) found
    where
      by : (b : Bool) → same_text name r.name ≡ b
          → (Some position ≡ value_named (relation_indices (k + 1) relations) name → (j : ℕ) × (position ≡ k + 1 + j) × IsAt name relations j)
          → Some position ≡ option_map (λ (n : List ℕ × ℕ). n.1) (cond b (Some (r.name, k)) (find (λ (n : List ℕ × ℕ). same_text name n.0) (relation_indices (k + 1) relations)))
          → (j : ℕ) × (position ≡ k + j) × IsAt name (r ∷ relations) j
      by true e rest found =
          let here : position ≡ k = cc in (
            0,
            omega arith,
            record {
              relation = sym (ap (λ (b : Bool). cond b (Some r) (find (λ (r : Relation). same_text name r.name) relations)) e);
              number = sym (ap (λ (b : Bool). cond (not b) (1 + position_or_len (λ (r : Relation). same_text name r.name) relations) 0) e);
            },
          )
      by false e rest found =
          let later = rest found in
          let number : suc later.0 ≡ 1 + position_or_len (λ (r : Relation). same_text name r.name) relations = omega (arith, later.2.number) in (
            suc later.0,
            omega (arith, later.1),
            record {
              relation = later.2.relation ∙ sym (ap (λ (b : Bool). cond b (Some r) (find (λ (r : Relation). same_text name r.name) relations)) e);
              number = number ∙ sym (ap (λ (b : Bool). cond (not b) (1 + position_or_len (λ (r : Relation). same_text name r.name) relations) 0) e);
            },
          )

  missing_from : (k : ℕ) (relations : List Relation) → None ≡ value_named (relation_indices k relations) name → IsMissing name relations
  missing_from k [] missing = record { relation = refl; number = refl }
  missing_from k (r ∷ relations) missing = by (same_text name r.name) refl (missing_from (k + 1) relations) missing
    where
      by : (b : Bool) → same_text name r.name ≡ b
          → (None ≡ value_named (relation_indices (k + 1) relations) name → IsMissing name relations)
          → None ≡ option_map (λ (n : List ℕ × ℕ). n.1) (cond b (Some (r.name, k)) (find (λ (n : List ℕ × ℕ). same_text name n.0) (relation_indices (k + 1) relations)))
          → IsMissing name (r ∷ relations)
      by true e rest missing = cc
      by false e rest missing =
          let later = rest missing in
          let number : suc (length relations) ≡ 1 + position_or_len (λ (r : Relation). same_text name r.name) relations = omega (arith, later.number) in
          record {
            relation = later.relation ∙ sym (ap (λ (b : Bool). cond b (Some r) (find (λ (r : Relation). same_text name r.name) relations)) e);
            number = number ∙ sym (ap (λ (b : Bool). cond (not b) (1 + position_or_len (λ (r : Relation). same_text name r.name) relations) 0) e);
          }

  -- what a directory finds
  pub found_at : (relations : List Relation) (positions : List (List ℕ × ℕ)) (position : ℕ) → positions ≡ first_mentions (relation_indices 0 relations)
      → Some position ≡ value_named positions name → IsAt name relations position
  found_at relations positions position is found =
      let at = at_from 0 relations position (found ∙ ap (λ (ns : List (List ℕ × ℕ)). value_named ns name) is ∙ value_of_firsts name (relation_indices 0 relations)) in
      let same : position ≡ at.0 = omega (arith, at.1) in
      rw same at.2

  pub found_none : (relations : List Relation) (positions : List (List ℕ × ℕ)) → positions ≡ first_mentions (relation_indices 0 relations)
      → None ≡ value_named positions name → IsMissing name relations
  found_none relations positions is missing =
      missing_from 0 relations (missing ∙ ap (λ (ns : List (List ℕ × ℕ)). value_named ns name) is ∙ value_of_firsts name (relation_indices 0 relations))
