-- The first of each name, as a table of entries keeps them.
use Rattle.std.proofs.Common.{◌≡◌, ℕ, zero, suc, ◌+◌, ◌<◌, ◌≤◌, Bool, true, false, cond, not, ◌&&◌, ◌||◌, true≢false, List, [], ◌∷◌, ◌++◌, filter, map, length, drop, get_or, append_assoc, position, slice_get, Bor, Some, None, option_map, refl, sym, ap, ◌∙◌, if◌then◌else◌, arith}
use Rattle.std.specs.Prelude.{is_some, nat_lt}
use Rattle.std.proofs.lemmas.Bool.Decides.{nat_tests}
use Rattle.std.specs.List.{find, position_or_len}
use Rattle.std.specs.Map.{keys_of, lookup}
use Rattle.indexmap.specs.IndexMap.{insert_entry}
use Rattle.std.specs.Cmp.Lexicographic.{nat_list_eq_equiv, bytes_decides}
use Rattle.std.proofs.lemmas.List.{at_drop_more, length-map, map-append}
use Rattle.std.proofs.lemmas.List.Folds.{list_any-append}
use Rattle.cat_reader.specs.Relations.{same_text}
use Rattle.query_reader.specs.Mentions.{first_mentions, has_name, number_named, value_named}

-- the entries of a table, without where their names lie
abbrev pub plain : {X : Type 0} → List (Bor (List ℕ) × X) → List (List ℕ × X)
plain {X} entries = map (λ (e : Bor (List ℕ) × X). (e.0.now, e.1)) entries

-- the test that finds the name
abbrev finds : List ℕ → Bor (List ℕ) → Bool
finds name key = same_text name key.now

module _ {X : Type 0} (name : List ℕ) where
  pub value_there : (entries : List (Bor (List ℕ) × X)) → lookup (finds name) entries ≡ value_named (plain entries) name
  value_there [] = refl
  value_there (e ∷ entries) = by (finds name e.0) (value_there entries)
    where
      by : (b : Bool) → lookup (finds name) entries ≡ value_named (plain entries) name
          → cond b (Some e.1) (lookup (finds name) entries) ≡ option_map (λ (n : List ℕ × X). n.1) (cond b (Some (e.0.now, e.1)) (find (λ (n : List ℕ × X). same_text name n.0) (plain entries)))
      by true same = refl
      by false same = same

  pub name_there : (entries : List (Bor (List ℕ) × X)) → is_some (lookup (finds name) entries) ≡ has_name (plain entries) name
  name_there [] = refl
  name_there (e ∷ entries) = by (finds name e.0) (name_there entries)
    where
      by : (b : Bool) → is_some (lookup (finds name) entries) ≡ has_name (plain entries) name
          → is_some (cond b (Some e.1) (lookup (finds name) entries)) ≡ (b || has_name (plain entries) name)
      by true same = refl
      by false same = same

  counted : (entries : List (Bor (List ℕ) × X)) → position_or_len (finds name) (keys_of entries) ≡ number_named (plain entries) name
  counted [] = refl
  counted (e ∷ entries) = by (finds name e.0) (counted entries)
    where
      by : (b : Bool) → position_or_len (finds name) (keys_of entries) ≡ number_named (plain entries) name
          → cond (not b) (1 + position_or_len (finds name) (keys_of entries)) 0 ≡ cond (not b) (1 + number_named (plain entries) name) 0
      by true same = refl
      by false same = ap (λ n. 1 + n) same

  counted_within : (entries : List (Bor (List ℕ) × X)) → position_or_len (finds name) (keys_of entries) ≤ length entries
  counted_within [] = omega arith
  counted_within (e ∷ entries) = by (finds name e.0) (counted_within entries)
    where
      by : (b : Bool) → position_or_len (finds name) (keys_of entries) ≤ length entries → cond (not b) (1 + position_or_len (finds name) (keys_of entries)) 0 ≤ suc (length entries)
      by true within = omega arith
      by false within = omega arith

  pub number_found : (entries : List (Bor (List ℕ) × X)) (number : ℕ) → Some number ≡ position (finds name) (keys_of entries) → number ≡ number_named (plain entries) name
  number_found entries number found = by (nat_lt (position_or_len (finds name) (keys_of entries)) (length (keys_of entries))) found
    where
      by : (b : Bool) → Some number ≡ cond b (Some (position_or_len (finds name) (keys_of entries))) None → number ≡ number_named (plain entries) name
      by true same = let it : number ≡ position_or_len (finds name) (keys_of entries) = cc in it ∙ counted entries
      by false same = cc

  pub number_missing : (entries : List (Bor (List ℕ) × X)) → None ≡ position (finds name) (keys_of entries) → length entries ≡ number_named (plain entries) name
  number_missing entries missing = by (nat_lt (position_or_len (finds name) (keys_of entries)) (length (keys_of entries))) refl missing ∙ counted entries
    where
      by : (b : Bool) → nat_lt (position_or_len (finds name) (keys_of entries)) (length (keys_of entries)) ≡ b
          → None ≡ cond b (Some (position_or_len (finds name) (keys_of entries))) None → length entries ≡ position_or_len (finds name) (keys_of entries)
      by true e same = cc
      by false e same =
          let many : length (keys_of entries) ≡ length entries = length-map entries (λ (e : Bor (List ℕ) × X). e.0) in
          let within = counted_within entries in
          grind (arith, nat_tests)

pub plain_at : {X : Type 0} (entries : List (Bor (List ℕ) × X)) (i : ℕ) → slice_get (plain entries) i ≡ option_map (λ (e : Bor (List ℕ) × X). (e.0.now, e.1)) (slice_get entries i)
plain_at [] i = refl
plain_at (e ∷ entries) zero = refl
plain_at (e ∷ entries) (suc i) = plain_at entries i

pub plain_push : {X : Type 0} (entries : List (Bor (List ℕ) × X)) (e : Bor (List ℕ) × X) → plain (entries ++ e ∷ []) ≡ plain entries ++ (e.0.now, e.1) ∷ []
plain_push {X} entries e = map-append (λ (e : Bor (List ℕ) × X). (e.0.now, e.1)) entries (e ∷ [])

-- two keys are equal where their texts are
abbrev pub same_key : Bor (List ℕ) → Bor (List ℕ) → Bool
same_key a b = same_text a.now b.now

absent_added : {X : Type 0} (key : Bor (List ℕ)) (x : X) (entries : List (Bor (List ℕ) × X)) → is_some (lookup (finds key.now) entries) ≡ false
    → insert_entry same_key entries key x ≡ entries ++ (key, x) ∷ []
absent_added key x [] absent = refl
absent_added {X} key x (e ∷ entries) absent = by (finds key.now e.0) absent (absent_added key x entries)
  where
    by : (b : Bool) → is_some (cond b (Some e.1) (lookup (finds key.now) entries)) ≡ false → (is_some (lookup (finds key.now) entries) ≡ false → insert_entry same_key entries key x ≡ entries ++ (key, x) ∷ [])
        → (if b then (e.0, x) ∷ entries else e ∷ insert_entry same_key entries key x) ≡ e ∷ entries ++ (key, x) ∷ []
    by true absent rest = absurd (true≢false absent)
    by false absent rest = ap (λ (es : List (Bor (List ℕ) × X)). e ∷ es) (rest absent)

-- what `add` leaves: a name that is there stays as it was
pub name_added : {X : Type 0} (key : Bor (List ℕ)) (x : X) (entries next : List (Bor (List ℕ) × X)) (before : List (List ℕ × X)) (there : Bool)
    → plain entries ≡ before → there ≡ is_some (lookup (finds key.now) entries) → there ≡ false → next ≡ insert_entry same_key entries key x
    → plain next ≡ (if has_name before key.now then before else before ++ (key.now, x) ∷ [])
name_added {X} key x entries next before there same tested absent is =
    let none : is_some (lookup (finds key.now) entries) ≡ false = sym tested ∙ absent in
    let new : has_name before key.now ≡ false = ap (λ (ns : List (List ℕ × X)). has_name ns key.now) (sym same) ∙ sym (name_there key.now entries) ∙ none in
    ap plain (is ∙ absent_added key x entries none) ∙ plain_push entries (key, x) ∙ rw (same, new) refl

pub name_kept : {X : Type 0} (key : Bor (List ℕ)) (x : X) (entries : List (Bor (List ℕ) × X)) (before : List (List ℕ × X)) (there : Bool)
    → plain entries ≡ before → there ≡ is_some (lookup (finds key.now) entries) → there ≡ true
    → before ≡ (if has_name before key.now then before else before ++ (key.now, x) ∷ [])
name_kept {X} key x entries before there same tested present =
    let old : has_name before key.now ≡ true = ap (λ (ns : List (List ℕ × X)). has_name ns key.now) (sym same) ∙ sym (name_there key.now entries) ∙ sym tested ∙ present in
    rw old refl

-- ---- the first of each name

-- the names that aren't among others
abbrev pub beside : {X : Type 0} → List (List ℕ × X) → List (List ℕ × X) → List (List ℕ × X)
beside {X} seen all = filter (λ (n : List ℕ × X). not (has_name seen n.0)) all

-- what is kept of more names after others
abbrev pub kept_after : {X : Type 0} → List (List ℕ × X) → List (List ℕ × X) → List (List ℕ × X)
kept_after seen more = seen ++ beside seen (first_mentions more)

filter_both : {A : Type 0} (p q r : A → Bool) → ((x : A) → r x ≡ (q x && p x)) → (xs : List A) → filter p (filter q xs) ≡ filter r xs
filter_both p q r both [] = refl
filter_both {A} p q r both (x ∷ xs) = by (q x) (p x) refl refl (filter_both p q r both xs)
  where
    by : (a b : Bool) → q x ≡ a → p x ≡ b → filter p (filter q xs) ≡ filter r xs → filter p (cond a (x ∷ filter q xs) (filter q xs)) ≡ cond (r x) (x ∷ filter r xs) (filter r xs)
    by true true e f rest = rw (both x, e, f) (ap (λ (ys : List A). x ∷ ys) rest)
    by true false e f rest = rw (both x, e, f) rest
    by false b e f rest = rw (both x, e) rest

pub same_name : (a b : List ℕ) → same_text a b ≡ true → a ≡ b
same_name a b e = (bytes_decides a b).0 e

turned : (a b : List ℕ) → same_text a b ≡ same_text b a
turned a b = nat_list_eq_equiv.symm a b

module _ {X : Type 0} where
  -- a name that is among those seen hides only names that are seen
  hidden : (seen : List (List ℕ × X)) (n o : List ℕ × X) → has_name seen n.0 ≡ true → not (has_name seen o.0) ≡ (not (same_text n.0 o.0) && not (has_name seen o.0))
  hidden seen n o old = by (same_text n.0 o.0) refl
    where
      by : (b : Bool) → same_text n.0 o.0 ≡ b → not (has_name seen o.0) ≡ (not b && not (has_name seen o.0))
      by true e = ap not (sym (ap (has_name seen) (same_name n.0 o.0 e)) ∙ old)
      by false e = refl

  more_seen : (seen : List (List ℕ × X)) (n o : List ℕ × X) → not (has_name (seen ++ n ∷ []) o.0) ≡ (not (same_text n.0 o.0) && not (has_name seen o.0))
  more_seen seen n o = ap not (list_any-append (λ (m : List ℕ × X). same_text o.0 m.0) seen (n ∷ [])) ∙ by (has_name seen o.0) (same_text o.0 n.0) (turned o.0 n.0)
    where
      by : (a b : Bool) → b ≡ same_text n.0 o.0 → not (a || (b || false)) ≡ (not (same_text n.0 o.0) && not a)
      by true true e = rw (← e) refl
      by true false e = rw (← e) refl
      by false true e = rw (← e) refl
      by false false e = rw (← e) refl

  -- one name more, which has come before
  old_kept : (seen : List (List ℕ × X)) (n : List ℕ × X) (more : List (List ℕ × X)) → has_name seen n.0 ≡ true → kept_after seen more ≡ kept_after seen (n ∷ more)
  old_kept seen n more old =
      ap (λ (ys : List (List ℕ × X)). seen ++ ys)
      (sym (filter_both (λ (o : List ℕ × X). not (has_name seen o.0)) (λ (o : List ℕ × X). not (same_text n.0 o.0)) (λ (o : List ℕ × X). not (has_name seen o.0)) (λ o. hidden seen n o old) (first_mentions more))
      ∙ sym (ap (λ (b : Bool). cond (not b) (n ∷ beside seen (filter (λ (o : List ℕ × X). not (same_text n.0 o.0)) (first_mentions more))) (beside seen (filter (λ (o : List ℕ × X). not (same_text n.0 o.0)) (first_mentions more)))) old))

  -- one name more, which is new
  new_kept : (seen : List (List ℕ × X)) (n : List ℕ × X) (more : List (List ℕ × X)) → has_name seen n.0 ≡ false → kept_after (seen ++ n ∷ []) more ≡ kept_after seen (n ∷ more)
  new_kept seen n more new =
      append_assoc seen (n ∷ []) (beside (seen ++ n ∷ []) (first_mentions more))
      ∙ ap (λ (ys : List (List ℕ × X)). seen ++ ys)
      (ap (λ (ys : List (List ℕ × X)). n ∷ ys) (sym (filter_both (λ (o : List ℕ × X). not (has_name seen o.0)) (λ (o : List ℕ × X). not (same_text n.0 o.0)) (λ (o : List ℕ × X). not (has_name (seen ++ n ∷ []) o.0)) (λ o. more_seen seen n o) (first_mentions more)))
      ∙ sym (ap (λ (b : Bool). cond (not b) (n ∷ beside seen (filter (λ (o : List ℕ × X). not (same_text n.0 o.0)) (first_mentions more))) (beside seen (filter (λ (o : List ℕ × X). not (same_text n.0 o.0)) (first_mentions more)))) new))

  one_kept : (seen : List (List ℕ × X)) (n : List ℕ × X) (more : List (List ℕ × X)) → kept_after (if has_name seen n.0 then seen else seen ++ n ∷ []) more ≡ kept_after seen (n ∷ more)
  one_kept seen n more = by (has_name seen n.0) refl
    where
      by : (b : Bool) → has_name seen n.0 ≡ b → kept_after (if b then seen else seen ++ n ∷ []) more ≡ kept_after seen (n ∷ more)
      by true e = old_kept seen n more e
      by false e = new_kept seen n more e

  -- the step of a loop over names
  pub next_kept : (seen next all : List (List ℕ × X)) (k : ℕ) (n : List ℕ × X) (name : List ℕ) (x : X) → k < length all → n ≡ get_or all k n → name ≡ n.0 → x ≡ n.1
      → next ≡ (if has_name seen name then seen else seen ++ (name, x) ∷ [])
      → kept_after seen (drop k all) ≡ first_mentions all → kept_after next (drop (k + 1) all) ≡ first_mentions all
  next_kept seen next all k n name x inside here named valued is so_far =
      rw (is, named, valued) (one_kept seen n (drop (k + 1) all)
      ∙ ap (λ (m : List ℕ × X). kept_after seen (m ∷ drop (k + 1) all)) here
      ∙ sym (at_drop_more (kept_after seen) all k n inside) ∙ so_far)

  none_hidden : (all : List (List ℕ × X)) → beside [] all ≡ all
  none_hidden [] = refl
  none_hidden (n ∷ all) = ap (λ (ys : List (List ℕ × X)). n ∷ ys) (none_hidden all)

  -- the loop's start
  pub first_kept : (none all : List (List ℕ × X)) → none ≡ [] → kept_after none all ≡ first_mentions all
  first_kept none all e = rw e (none_hidden (first_mentions all))
