-- An accepted catalogue keeps its limits.
use Rattle.std.proofs.Common.{◌≡◌, ℕ, ◌+◌, ◌≤◌, ◌==◌, ◌||◌, not, Bool, true, false, true≢false, List, [], ◌∷◌, ◌++◌, map, length, Option, Some, None, Ok, refl, sym, subst, if◌then◌else◌, arith, ◌∙◌}
use Rattle.std.specs.Prelude.{ℤ, codes, is_none, nat_lt, option_and_then, option_map}
use Rattle.std.specs.List.{AllByRecursion, cons_option, filter_map, list_all, list_any}
use Rattle.std.proofs.lemmas.List.Folds.{list_any-append}
use Rattle.std.specs.Cmp.Lexicographic.{nat_list_eq_equiv}
use Rattle.std.specs.Path.{rsplit_once}
use Rattle.std.proofs.lemmas.Bool.Decides.{nat_tests}
use Rattle.toml.specs.Data.{Data, Members, as_str, as_table}
use Rattle.med_prelude.specs.Names.{is_name}
use Rattle.med_prelude.specs.Texts.{Bytes}
use Rattle.tuple_core.specs.declared.columns.Column.{Column}
use Rattle.tuple_core.specs.declared.columns.Kind.{Kind}
use Rattle.text_reading.specs.Checks.{IsExact, IsKept, first_broken}
use Rattle.text_reading.specs.Faults.{broken_if, index_past, indices_where}
use Rattle.text_reading.specs.Runs.{longest_name}
use Rattle.text_reading.specs.declared.checks.Broken.{Broken}
use Rattle.text_reading.proofs.CheckLaws as checks
use Rattle.text_reading.proofs.FaultLaws.{first_empty, map_empty, none_broken, none_past, not_broken, rest_empty}
use Rattle.toml_tables.specs.Tables.{array_at, has_only, keys_of, text_at}
use Rattle.cat_reader.specs.Accepted.{AreApart, IsGroupWithin, IsWithin, KeepsLimits, column_names, relation_names}
use Rattle.cat_reader.specs.Catalogue.{catalogue_of, checks_of, document_checks, document_of, relation_checks, relations_in, relations_of, unless_broken}
use Rattle.cat_reader.specs.Doubled.{doubled_after, doubled_columns, doubled_names}
use Rattle.cat_reader.specs.Forms.{is_no_column, is_own_misformed, is_table, misformed_columns, misformed_groups, misformed_in, misformed_items, relation_keys, some_tables, tables_of, where_misformed}
use Rattle.cat_reader.specs.Limits.{empty_groups, is_empty_group, is_estimate, is_large_group, is_long_column, is_longer, is_own_broken, items_past_limits, longest_column, longest_location, most_columns, most_groups, most_mirrors, most_relations, no_group}
use Rattle.cat_reader.specs.Locations.{in_each, is_up_to, of_none, of_relation, where_order}
use Rattle.cat_reader.specs.Relations.{colon, column_in, column_of, kind_of, name_of, named_kind, relation_in, relation_of, relation_with, rows_of, same_text, values_at}
use Rattle.cat_reader.specs.declared.catalogue.Relation.{Relation}
use Rattle.cat_reader.specs.declared.locations.Where.{Where}
use Rattle.cat_reader.proofs.LocationLaws.{none_in}

left_false : (a b : Bool) → (a || b) ≡ false → a ≡ false
left_false true b e = e
left_false false b e = refl

right_false : (a b : Bool) → (a || b) ≡ false → b ≡ false
right_false true b e = absurd (true≢false e)
right_false false b e = e

is_true : (b : Bool) → not b ≡ false → b ≡ true
is_true true e = refl
is_true false e = sym e

any_false : {A : Type 0} (test : A → Bool) (P : A → Type 0) → ((x : A) → test x ≡ false → P x) → (xs : List A) → list_any test xs ≡ false → AllByRecursion P xs
any_false test P says [] e = tt
any_false test P says (x ∷ xs) e = (says x (left_false (test x) (list_any test xs) e), any_false test P says xs (right_false (test x) (list_any test xs) e))

up_to : (limit n : ℕ) → nat_lt limit n ≡ false → n ≤ limit
up_to limit n e = grind (arith, nat_tests)

some : (n : ℕ) → (n == 0) ≡ false → 1 ≤ n
some n e = grind (arith, nat_tests)

each_of : {A : Type 0} (P Q : A → Type 0) → ((x : A) → P x → Q x) → (xs : List A) → AllByRecursion P xs → AllByRecursion Q xs
each_of P Q says [] all = tt
each_of P Q says (x ∷ xs) all = (says x all.0, each_of P Q says xs all.1)

-- Names of which none is doubled: each is none of those before it, so it differs from each later one.
new_names : (before : List Bytes) (n : ℕ) (names : List Bytes) → doubled_after before n names ≡ [] → AllByRecursion (λ name. list_any (same_text name) before ≡ false) names
new_names before n [] e = tt
new_names before n (name ∷ more) e =
    let later = new_names (before ++ name ∷ []) (n + 1) more (rest_empty (broken_if (list_any (same_text name) before) n) (doubled_after (before ++ name ∷ []) (n + 1) more) e) in (
      not_broken (list_any (same_text name) before) n (first_empty (broken_if (list_any (same_text name) before) n) (doubled_after (before ++ name ∷ []) (n + 1) more) e),
      each_of (λ y. list_any (same_text y) (before ++ name ∷ []) ≡ false) (λ y. list_any (same_text y) before ≡ false)
          (λ y h. left_false (list_any (same_text y) before) (list_any (same_text y) (name ∷ [])) (sym (list_any-append (same_text y) before (name ∷ [])) ∙ h)) more later,
    )

differs : (before : List Bytes) (name y : Bytes) → list_any (same_text y) (before ++ name ∷ []) ≡ false → same_text name y ≡ false
differs before name y h =
    nat_list_eq_equiv.symm name y ∙ left_false (same_text y name) false (right_false (list_any (same_text y) before) (list_any (same_text y) (name ∷ [])) (sym (list_any-append (same_text y) before (name ∷ [])) ∙ h))

apart_after : (before : List Bytes) (n : ℕ) (names : List Bytes) → doubled_after before n names ≡ [] → AreApart names
apart_after before n [] e = tt
apart_after before n (name ∷ more) e =
    let rest = rest_empty (broken_if (list_any (same_text name) before) n) (doubled_after (before ++ name ∷ []) (n + 1) more) e in (
      each_of (λ y. list_any (same_text y) (before ++ name ∷ []) ≡ false) (λ y. same_text name y ≡ false) (differs before name) more (new_names (before ++ name ∷ []) (n + 1) more rest),
      apart_after (before ++ name ∷ []) (n + 1) more rest,
    )

group_within : (group : List Bytes) → is_large_group group ≡ false → is_empty_group group ≡ false → IsGroupWithin group
group_within group small full =
    let few = left_false (nat_lt most_mirrors (length group)) (list_any (is_longer longest_location) group) small in
    let short = right_false (nat_lt most_mirrors (length group)) (list_any (is_longer longest_location) group) small in
    let there = left_false (length group == 0) (list_any (λ location. length location == 0) group) full in
    let located = right_false (length group == 0) (list_any (λ location. length location == 0) group) full in
    record {
      some = some (length group) there;
      few = up_to most_mirrors (length group) few;
      located = any_false (λ location. length location == 0) (λ location. 1 ≤ length location) (λ location e. some (length location) e) group located;
      short = any_false (is_longer longest_location) (λ location. length location ≤ longest_location) (λ location e. up_to longest_location (length location) e) group short;
    }

groups_within : (groups : List (List Bytes)) → AllByRecursion (λ g. is_large_group g ≡ false) groups → AllByRecursion (λ g. is_empty_group g ≡ false) groups → AllByRecursion IsGroupWithin groups
groups_within [] small full = tt
groups_within (g ∷ groups) small full = (group_within g small.0 full.0, groups_within groups small.1 full.1)

-- what the check of forms gives of a relation
record IsFormed (r : Relation) : Type 0 where
  named : is_name r.name ≡ true
  some_column : 1 ≤ length r.columns
  named_columns : AllByRecursion (λ (c : Column). 1 ≤ length c.name) r.columns

-- a relation that breaks none of the checks
within : (r : Relation) → IsFormed r → doubled_columns r ≡ [] → items_past_limits r ≡ [] → empty_groups r ≡ [] → no_group r ≡ [] → IsWithin r
unfolding items_past_limits
within r formed single limits full grouped =
    let own : List ℕ = broken_if (is_own_broken r) 0 in
    let columns : List ℕ = index_past most_columns r.columns in
    let groups : List ℕ = index_past most_groups r.groups in
    let long : List ℕ = indices_where is_long_column 0 r.columns in
    let large : List ℕ = indices_where is_large_group 0 r.groups in
    let upto_long = first_empty (own ++ columns ++ groups ++ long) large limits in
    let upto_groups = first_empty (own ++ columns ++ groups) long upto_long in
    let upto_columns = first_empty (own ++ columns) groups upto_groups in
    let own_kept = not_broken {P = ℕ} (is_own_broken r) 0 (first_empty own columns upto_columns) in
    record {
      named = formed.named;
      name = up_to longest_name (length r.name) (left_false (is_longer longest_name r.name) (not (is_estimate r.rows)) own_kept);
      some_column = formed.some_column;
      columns = none_past most_columns r.columns (rest_empty own columns upto_columns);
      apart = apart_after [] 0 (column_names r) single;
      named_columns = formed.named_columns;
      short_columns = each_of (λ c. is_long_column c ≡ false) (λ c. length c.name ≤ longest_column) (λ c e. up_to longest_column (length c.name) e) r.columns (none_broken is_long_column 0 r.columns (rest_empty (own ++ columns ++ groups) long upto_long));
      some_group = some (length r.groups) (not_broken {P = ℕ} (length r.groups == 0) 0 grouped);
      groups = none_past most_groups r.groups (rest_empty (own ++ columns) groups upto_groups);
      mirrors = groups_within r.groups (none_broken is_large_group 0 r.groups (rest_empty (own ++ columns ++ groups ++ long) large limits)) (none_broken is_empty_group 0 r.groups full);
      rows = is_true (is_estimate r.rows) (right_false (is_longer longest_name r.name) (not (is_estimate r.rows)) own_kept);
    }

each_within : (rs : List Relation) → AllByRecursion IsFormed rs → AllByRecursion (λ r. doubled_columns r ≡ []) rs → AllByRecursion (λ r. items_past_limits r ≡ []) rs
    → AllByRecursion (λ r. empty_groups r ≡ []) rs → AllByRecursion (λ r. no_group r ≡ []) rs → AllByRecursion IsWithin rs
each_within [] formed single limits full grouped = tt
each_within (r ∷ rs) formed single limits full grouped =
    (within r formed.0 single.0 limits.0 full.0 grouped.0, each_within rs formed.1 single.1 limits.1 full.1 grouped.1)

-- relations that keep the checks of relations
all_kept : (rs : List Relation) → 1 ≤ length rs → AllByRecursion IsFormed rs → AllByRecursion IsKept (relation_checks rs) → KeepsLimits rs
all_kept rs there formed kept =
    let names = doubled_names (relation_names rs) in
    let single = first_empty (map of_relation names) (in_each doubled_columns 0 rs) kept.0 in
    let columns = rest_empty (map of_relation names) (in_each doubled_columns 0 rs) kept.0 in
    let few = first_empty (map of_relation (index_past most_relations rs)) (in_each items_past_limits 0 rs) kept.1.0 in
    let limits = rest_empty (map of_relation (index_past most_relations rs)) (in_each items_past_limits 0 rs) kept.1.0 in
    record {
      some = there;
      few = none_past most_relations rs (map_empty of_relation (index_past most_relations rs) few);
      apart = apart_after [] 0 (relation_names rs) (map_empty of_relation names single);
      each = each_within rs formed (none_in doubled_columns 0 rs columns) (none_in items_past_limits 0 rs limits) (none_in empty_groups 0 rs kept.1.1.0) (none_in no_group 0 rs kept.1.1.1.0);
    }

-- the form of relations

-- a column's name has a byte
abbrev HasName : Option Column → Type 0
HasName None = Unit {0}
HasName (Some c) = 1 ≤ length c.name

kind_named : (name : Bytes) (kind : Option Kind) → 1 ≤ length name → HasName (option_map (λ k. record { name = name; kind = k }) kind)
kind_named name None h = tt
kind_named name (Some k) h = h

parts_named : (parts : Option (Bytes × Bytes)) → HasName (option_and_then named_kind parts)
parts_named None = tt
parts_named (Some (name, word)) = by (length name == 0) refl
  where
    by : (b : Bool) → (length name == 0) ≡ b → HasName (if b then None else option_map (λ k. record { name = name; kind = k }) (kind_of word))
    by true e = tt
    by false e = kind_named name (kind_of word) (some (length name) e)

text_named : (text : Option Bytes) → HasName (option_and_then column_of text)
text_named None = tt
text_named (Some text) = parts_named (rsplit_once colon text)

column_named : (d : Data) → HasName (column_in d)
unfolding column_in
column_named d = text_named (as_str d)

put_named : (c : Option Column) (cs : List Column) → HasName c → AllByRecursion (λ (c : Column). 1 ≤ length c.name) cs → AllByRecursion (λ (c : Column). 1 ≤ length c.name) (cons_option c cs)
put_named None cs h rest = rest
put_named (Some c) cs h rest = (h, rest)

columns_named : (values : List Data) → AllByRecursion (λ (c : Column). 1 ≤ length c.name) (filter_map column_in values)
columns_named [] = tt
columns_named (d ∷ values) = put_named (column_in d) (filter_map column_in values) (column_named d) (columns_named values)

put_some : {A : Type 0} (x : Option A) (xs : List A) → is_none x ≡ false → 1 ≤ length (cons_option x xs)
put_some None xs e = absurd (true≢false e)
put_some (Some x) xs e = omega arith

columns_some : (values : List Data) → (length values == 0) ≡ false → AllByRecursion (λ d. is_no_column d ≡ false) values → 1 ≤ length (filter_map column_in values)
columns_some [] e all = absurd (true≢false e)
columns_some (d ∷ values) e all = put_some (column_in d) (filter_map column_in values) all.0

-- a name that a table says is one
abbrev IsNamed : Option Bytes → Type 0
IsNamed None = Unit {0}
IsNamed (Some name) = is_name name ≡ true

text_is_name : (text : Option Bytes) → IsNamed (option_and_then (λ bytes. if is_name bytes then Some bytes else None) text)
text_is_name None = tt
text_is_name (Some bytes) = by (is_name bytes) refl
  where
    by : (b : Bool) → is_name bytes ≡ b → IsNamed (if b then Some bytes else None)
    by true e = e
    by false e = tt

name_is_name : (ms : Members) → IsNamed (name_of ms)
name_is_name ms = text_is_name (text_at (codes "name") ms)

abbrev IfFormed : Option Relation → Type 0
IfFormed None = Unit {0}
IfFormed (Some r) = IsFormed r

with_rows : (ms : Members) (name : Bytes) (rows : Option ℤ) → is_name name ≡ true → misformed_columns ms ≡ [] → IfFormed (option_map (relation_with ms name) rows)
with_rows ms name None named kept = tt
with_rows ms name (Some rows) named kept =
    let values = values_at (codes "columns") ms in
    let some_value = not_broken {P = ℕ} (length values == 0) 0 (first_empty (broken_if (length values == 0) 0) (indices_where is_no_column 0 values) kept) in
    let each = none_broken is_no_column 0 values (rest_empty (broken_if (length values == 0) 0) (indices_where is_no_column 0 values) kept) in
    record { named = named; some_column = columns_some values some_value each; named_columns = columns_named values }

formed_table : (ms : Members) → misformed_items ms ≡ [] → IfFormed (relation_of ms)
unfolding misformed_items
formed_table ms kept =
    let own : List ℕ = broken_if (is_own_misformed ms) 0 in
    let columns = rest_empty own (misformed_columns ms) (first_empty (own ++ misformed_columns ms) (misformed_groups ms) kept) in
    by (name_of ms) (name_is_name ms) columns
  where
    by : (name : Option Bytes) → IsNamed name → misformed_columns ms ≡ [] → IfFormed (option_and_then (λ n. option_map (relation_with ms n) (rows_of ms)) name)
    by None named columns = tt
    by (Some name) named columns = with_rows ms name (rows_of ms) named columns

formed_in : (d : Data) → misformed_in d ≡ [] → IfFormed (relation_in d)
unfolding misformed_in relation_in
formed_in d kept = by (as_table d) kept
  where
    by : (table : Option Members) → (elim table as (λ _. List ℕ) [ None ↦ 0 ∷ [] | Some ms ↦ misformed_items ms ]) ≡ [] → IfFormed (option_and_then relation_of table)
    by None e = tt
    by (Some ms) e = formed_table ms e

put_formed : (r : Option Relation) (rs : List Relation) → IfFormed r → AllByRecursion IsFormed rs → AllByRecursion IsFormed (cons_option r rs)
put_formed None rs h rest = rest
put_formed (Some r) rs h rest = (h, rest)

all_formed : (tables : List Data) → AllByRecursion (λ d. misformed_in d ≡ []) tables → AllByRecursion IsFormed (filter_map relation_in tables)
all_formed [] kept = tt
all_formed (d ∷ tables) kept = put_formed (relation_in d) (filter_map relation_in tables) (formed_in d kept.0) (all_formed tables kept.1)

formed : (document : Members) → where_misformed document ≡ [] → AllByRecursion IsFormed (relations_of document)
unfolding where_misformed relations_of
formed document kept = by (tables_of document) kept
  where
    by : (tables : Option (List Data)) → (elim tables as (λ _. List Where) [ None ↦ of_none ∷ [] | Some values ↦ in_each misformed_in 0 values ]) ≡ []
        → AllByRecursion IsFormed (elim tables as (λ _. List Relation) [ None ↦ [] | Some values ↦ filter_map relation_in values ])
    by None e = tt
    by (Some values) e = all_formed values (none_in misformed_in 0 values e)

-- the relations that tables say

last_two : (a b c : Bool) → (a || b || c) ≡ false → (b ≡ false) × (c ≡ false)
last_two true b c e = absurd (true≢false e)
last_two false true c e = absurd (true≢false e)
last_two false false c e = (refl, e)

both_said : (ms : Members) (name : Option Bytes) (rows : Option ℤ) → is_none name ≡ false → is_none rows ≡ false → is_none (option_and_then (λ n. option_map (relation_with ms n) rows) name) ≡ false
both_said ms None rows named counted = absurd (true≢false named)
both_said ms (Some name) None named counted = absurd (true≢false counted)
both_said ms (Some name) (Some rows) named counted = refl

table_said : (ms : Members) → misformed_items ms ≡ [] → is_none (relation_of ms) ≡ false
unfolding misformed_items
table_said ms kept =
    let own : List ℕ = broken_if (is_own_misformed ms) 0 in
    let own_kept = not_broken {P = ℕ} (is_own_misformed ms) 0 (first_empty own (misformed_columns ms) (first_empty (own ++ misformed_columns ms) (misformed_groups ms) kept)) in
    let said = last_two (not (has_only relation_keys ms)) (is_none (name_of ms)) (is_none (rows_of ms)) own_kept in
    both_said ms (name_of ms) (rows_of ms) said.0 said.1

in_said : (d : Data) → misformed_in d ≡ [] → is_none (relation_in d) ≡ false
unfolding misformed_in relation_in
in_said d kept = by (as_table d) kept
  where
    by : (table : Option Members) → (elim table as (λ _. List ℕ) [ None ↦ 0 ∷ [] | Some ms ↦ misformed_items ms ]) ≡ [] → is_none (option_and_then relation_of table) ≡ false
    by None e = cc
    by (Some ms) e = table_said ms e

some_said : (tables : List Data) → (length tables == 0) ≡ false → AllByRecursion (λ d. misformed_in d ≡ []) tables → 1 ≤ length (filter_map relation_in tables)
some_said [] e kept = absurd (true≢false e)
some_said (d ∷ tables) e kept = put_some (relation_in d) (filter_map relation_in tables) (in_said d kept.0)

-- the tables of a document are some
abbrev HasTable : Option (List Data) → Type 0
HasTable None = Unit {0}
HasTable (Some values) = (length values == 0) ≡ false

if_tables : (values : List Data) (b : Bool) → (length values == 0) ≡ false → HasTable (if b then Some values else None)
if_tables values true e = e
if_tables values false e = tt

some_there : (values : List Data) → HasTable (some_tables values)
some_there values = by (length values == 0) refl
  where
    by : (b : Bool) → (length values == 0) ≡ b → HasTable (if b then None else (if list_all is_table values then Some values else None))
    by true e = tt
    by false e = if_tables values (list_all is_table values) e

array_there : (values : Option (List Data)) → HasTable (option_and_then some_tables values)
array_there None = tt
array_there (Some values) = some_there values

tables_there : (document : Members) → HasTable (tables_of document)
tables_there document = by (length (keys_of document) == 1)
  where
    by : (b : Bool) → HasTable (if b then option_and_then some_tables (array_at (codes "relation") document) else None)
    by true = array_there (array_at (codes "relation") document)
    by false = tt

some_relation : (document : Members) → where_misformed document ≡ [] → 1 ≤ length (relations_of document)
unfolding where_misformed relations_of
some_relation document kept = by (tables_of document) (tables_there document) kept
  where
    by : (tables : Option (List Data)) → HasTable tables → (elim tables as (λ _. List Where) [ None ↦ of_none ∷ [] | Some values ↦ in_each misformed_in 0 values ]) ≡ []
        → 1 ≤ length (elim tables as (λ _. List Relation) [ None ↦ [] | Some values ↦ filter_map relation_in values ])
    by None there e = cc
    by (Some values) there e = some_said values there (none_in misformed_in 0 values e)

-- what the checks let through
kept_within : (document : Option Members) → AllByRecursion IsKept (document_checks document) → KeepsLimits (relations_in document)
kept_within None kept = absurd (cc)
kept_within (Some document) kept = all_kept (relations_of document) (some_relation document kept.1.0) (formed document kept.1.0) kept.1.1

accepted : (text : Bytes) (given : List Relation) (told : Option (Broken Where)) → IsExact is_up_to (checks_of text) told → unless_broken told (relations_in (document_of text)) ≡ Ok given → KeepsLimits given
accepted text given None kept e = let it : relations_in (document_of text) ≡ given = cc in subst KeepsLimits it (kept_within (document_of text) kept.1)
accepted text given (Some broken) exact e = cc

pub accepted_within : (text : Bytes) (given : List Relation) → catalogue_of text ≡ Ok given → KeepsLimits given
accepted_within text given e = accepted text given (first_broken is_up_to (checks_of text)) (checks.exact is_up_to where_order (checks_of text)) e
