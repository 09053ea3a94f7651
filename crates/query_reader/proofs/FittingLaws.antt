-- An accepted query fits the catalogue.
use Rattle.std.proofs.Common.{◌≡◌, ℕ, zero, suc, ◌+◌, ◌<◌, ◌≤◌, ◌==◌, Bool, true, false, cond, not, ◌||◌, true≢false, List, [], ◌∷◌, ◌++◌, filter, map, length, slice_get, Option, Some, None, Result, Ok, Err, refl, sym, subst, ap, ◌∙◌, if◌then◌else◌, arith}
use Rattle.std.specs.Prelude.{is_none, nat_le}
use Rattle.std.specs.List.{AllByRecursion, filter_map, find, flat_map, position_or_len}
use Rattle.std.proofs.lemmas.Bool.Decides.{nat_tests}
use Rattle.std.proofs.lemmas.List.{length-map}
use Rattle.std.proofs.Math.Numerals.{one-add}
use Rattle.query_syntax.specs.Reading.{syntax_of}
use Rattle.std.proofs.lemmas.List.Folds.{list_any-append}
use Rattle.std.specs.Cmp.Lexicographic.{nat_list_eq_equiv}
use Rattle.cat_reader.specs.Relations.{same_text}
use Rattle.cat_reader.specs.declared.catalogue.Relation.{Relation}
use Rattle.query_syntax.specs.declared.syntax.Part.{Part}
use Rattle.query_syntax.specs.declared.syntax.Part.TheVariants.{Atom, Comparison}
use Rattle.query_syntax.specs.declared.syntax.WrittenTerm.{WrittenTerm}
use Rattle.query_syntax.specs.declared.syntax.Syntax.{Syntax}
use Rattle.query_syntax.specs.declared.syntax.NamedTerm.{NamedTerm}
use Rattle.query_syntax.specs.declared.syntax.NamedTerm.TheVariants.{Variable, Constant}
use Rattle.query_syntax.specs.declared.syntax.WrittenAtom.{WrittenAtom}
use Rattle.query_syntax.specs.declared.syntax.WrittenComparison.{WrittenComparison}
use Rattle.text_reading.specs.Checks.{IsExact, IsKept, broken_at, first_broken}
use Rattle.text_reading.specs.Order.{nat_order}
use Rattle.text_reading.specs.declared.checks.Broken.{Broken}
use Rattle.text_reading.proofs.CheckLaws.{exact}
use Rattle.query_reader.specs.Checks.{atom_offset, checks_of, comparison_offset, is_loose, is_miscounted, is_unknown, limit_offsets, loose_offsets, occurrence_offset}
use Rattle.text_reading.specs.Faults.{each_where, first_past}
use Rattle.text_reading.proofs.FaultLaws.{first_empty, rest_empty}
use Rattle.query_reader.specs.Fitting.{FitsCatalogue, FitsRelation, IsNumbered, HasNumberedSides}
use Rattle.query_reader.specs.Kinds.{columns_in, columns_of, relation_named}
use Rattle.query_reader.specs.Limits.{longest_head, longest_query, most_atoms, most_comparisons, most_variables}
use Rattle.query_reader.specs.Mentions.{first_mentions, has_name, number_named}
use Rattle.query_reader.specs.Parts.{Occurrence, Pieces, atom_in, atom_variables, comparison_in, comparison_variables, mentions_of, word_occurrence, part_variables, pieces_of, term_variables, variables_of}
use Rattle.query_reader.specs.Reading.{unless_broken, atom_of, checked_query, comparison_of, query_in, query_of, term_of, query_of_pieces}
use Rattle.query_core.specs.declared.query.Query.{Query}
use Rattle.query_reader.proofs.BoundLaws.{compared_stand, each_stands}
use Rattle.query_reader.proofs.FirstLaws.{has_of_firsts}
use Rattle.query_reader.proofs.GrammarLaws.{some_head}

-- nothing is past the limit
within_limit : {A : Type 0} (limit : ℕ) (at : A → ℕ) (all : List A) → first_past limit at all ≡ [] → length all ≤ limit
within_limit limit at [] e = omega arith
within_limit zero at (x ∷ all) e = cc
within_limit (suc limit) at (x ∷ all) e = let rest = within_limit limit at all e in omega arith

-- none of the list is broken
none_broken : {A : Type 0} (is_broken : A → Bool) (at : A → ℕ) (all : List A) → each_where is_broken at all ≡ [] → AllByRecursion (λ x. is_broken x ≡ false) all
none_broken is_broken at [] e = tt
none_broken {A} is_broken at (x ∷ all) e = by (is_broken x) refl e (none_broken is_broken at all)
  where
    by : (b : Bool) → is_broken x ≡ b → map at (cond b (x ∷ filter is_broken all) (filter is_broken all)) ≡ []
        → (each_where is_broken at all ≡ [] → AllByRecursion (λ (y : A). is_broken y ≡ false) all)
        → (is_broken x ≡ false) × AllByRecursion (λ (y : A). is_broken y ≡ false) all
    by true broken e rest = cc
    by false kept e rest = (kept, rest e)

-- ---- limits

-- which limits a query keeps that breaks no check
pub record KeepsLimits (pieces : Pieces) : Type 0 where
  pub atoms : length pieces.atoms ≤ most_atoms
  pub variables : length pieces.variables ≤ most_variables
  pub comparisons : length pieces.comparisons ≤ most_comparisons
  pub head : length pieces.head ≤ longest_head

limits_kept : (pieces : Pieces) → limit_offsets pieces ≡ [] → KeepsLimits pieces
limits_kept pieces e =
    let atoms = first_past most_atoms atom_offset pieces.atoms in
    let variables = first_past most_variables occurrence_offset pieces.variables in
    let comparisons = first_past most_comparisons comparison_offset pieces.comparisons in
    let head = first_past longest_head occurrence_offset pieces.head in
    let three = first_empty (atoms ++ variables ++ comparisons) head e in
    let two = first_empty (atoms ++ variables) comparisons three in
    record {
      atoms = within_limit most_atoms atom_offset pieces.atoms (first_empty atoms variables two);
      variables = within_limit most_variables occurrence_offset pieces.variables (rest_empty atoms variables two);
      comparisons = within_limit most_comparisons comparison_offset pieces.comparisons (rest_empty (atoms ++ variables) comparisons three);
      head = within_limit longest_head occurrence_offset pieces.head (rest_empty (atoms ++ variables ++ comparisons) head e);
    }

all_kept : (catalogue : List Relation) (pieces : Pieces) → first_broken nat_le (checks_of catalogue pieces) ≡ None → AllByRecursion IsKept (checks_of catalogue pieces)
all_kept catalogue pieces none = subst (IsExact nat_le (checks_of catalogue pieces)) none (exact nat_le nat_order (checks_of catalogue pieces))

pub few_variables : (catalogue : List Relation) (pieces : Pieces) (told : Option (Broken ℕ)) → told ≡ first_broken nat_le (checks_of catalogue pieces) → told ≡ None → length pieces.variables ≤ most_variables
few_variables catalogue pieces told is none =
    let kept = all_kept catalogue pieces (sym is ∙ none) in
    (limits_kept pieces kept.1.1.1.1.1.0).variables

-- ---- the answer, by what is told

pub refused : (catalogue directory : List Relation) (syntax : Syntax) (pieces : Pieces) (told : Option (Broken ℕ)) (broken : Broken ℕ) → directory ≡ catalogue → pieces ≡ pieces_of syntax
    → told ≡ first_broken nat_le (checks_of directory pieces) → told ≡ Some broken → Err broken ≡ checked_query catalogue (pieces_of syntax)
unfolding checked_query
refused catalogue directory syntax pieces told broken same apart is some =
    sym (ap (λ (d : List Relation). checked_query d (pieces_of syntax)) (sym same) ∙ ap (checked_query directory) (sym apart) ∙ ap (unless_broken (query_of_pieces directory pieces)) (sym is ∙ some))

pub accepted : (catalogue directory : List Relation) (syntax : Syntax) (pieces : Pieces) (told : Option (Broken ℕ)) (query : Query) → directory ≡ catalogue → pieces ≡ pieces_of syntax
    → told ≡ first_broken nat_le (checks_of directory pieces) → told ≡ None → query ≡ query_of_pieces directory pieces → Ok query ≡ checked_query catalogue (pieces_of syntax)
unfolding checked_query
accepted catalogue directory syntax pieces told query same apart is none made =
    sym (ap (λ (d : List Relation). checked_query d (pieces_of syntax)) (sym same) ∙ ap (checked_query directory) (sym apart) ∙ ap (unless_broken (query_of_pieces directory pieces)) (sym is ∙ none) ∙ ap (λ (q : Query). Ok q) (sym made))

-- ---- numbers

-- each of the names is among all
abbrev Covers : List Occurrence → List Occurrence → Type 0
Covers all some = (name : List ℕ) → has_name some name ≡ true → has_name all name ≡ true

module _ (all xs ys : List Occurrence) (covers : Covers all (xs ++ ys)) where
  or_true : (b : Bool) → (b || true) ≡ true
  or_true true = refl
  or_true false = refl

  left_covered : Covers all xs
  left_covered name there = covers name (list_any-append (λ (o : Occurrence). same_text name o.0) xs ys ∙ ap (λ (b : Bool). b || has_name ys name) there)

  right_covered : Covers all ys
  right_covered name there = covers name (list_any-append (λ (o : Occurrence). same_text name o.0) xs ys ∙ ap (λ (b : Bool). has_name xs name || b) there ∙ or_true (has_name xs name))

number_below : (all : List Occurrence) (name : List ℕ) → has_name all name ≡ true → number_named all name < length all
number_below [] name there = cc
number_below (o ∷ all) name there = by (same_text name o.0) there (number_below all name)
  where
    by : (b : Bool) → (b || has_name all name) ≡ true → (has_name all name ≡ true → number_named all name < length all) → cond (not b) (1 + number_named all name) 0 < suc (length all)
    by true there rest = omega arith
    by false there rest = let below = rest there in omega arith

module _ (all : List Occurrence) (few : length (first_mentions all) ≤ most_variables) where
  numbered : (name : List ℕ) → has_name all name ≡ true → number_named (first_mentions all) name < most_variables
  numbered name there = let below = number_below (first_mentions all) name (has_of_firsts name all ∙ there) in omega arith

  itself : (name : List ℕ) (at : ℕ) (more : List Occurrence) → has_name ((name, at) ∷ more) name ≡ true
  itself name at more = ap (λ (b : Bool). b || has_name more name) (nat_list_eq_equiv.refl name)

  written_numbered : (at : ℕ) (written : NamedTerm) → Covers all (mentions_of at written) → IsNumbered (term_of (first_mentions all) written)
  written_numbered at (Variable name) covers = numbered name (covers name (itself name at []))
  written_numbered at (Constant constant) covers = tt

  terms_numbered : (terms : List WrittenTerm) → Covers all (flat_map term_variables terms) → AllByRecursion IsNumbered (map (λ (term : WrittenTerm). term_of (first_mentions all) term.written) terms)
  terms_numbered [] covers = tt
  terms_numbered (term ∷ terms) covers = (
    written_numbered term.at term.written (left_covered all (term_variables term) (flat_map term_variables terms) covers),
    terms_numbered terms (right_covered all (term_variables term) (flat_map term_variables terms) covers),
  )

  head_numbered : (head : List Occurrence) → Covers all head → AllByRecursion (λ (variable : ℕ). variable < most_variables) (map (λ (o : Occurrence). number_named (first_mentions all) o.0) head)
  head_numbered [] covers = tt
  head_numbered (o ∷ head) covers = (
    numbered o.0 (covers o.0 (itself o.0 o.1 head)),
    head_numbered head (right_covered all (o ∷ []) head covers),
  )

  comparison_numbered : (comparison : WrittenComparison) → Covers all (comparison_variables comparison) → HasNumberedSides (comparison_of (first_mentions all) comparison)
  comparison_numbered comparison covers = (
    numbered comparison.left.name (covers comparison.left.name (itself comparison.left.name comparison.left.at (term_variables comparison.right))),
    written_numbered comparison.right.at comparison.right.written (right_covered all (word_occurrence comparison.left ∷ []) (term_variables comparison.right) covers),
  )

  atoms_covered : (parts : List Part) → Covers all (flat_map part_variables parts) → AllByRecursion (λ (a : WrittenAtom). Covers all (atom_variables a)) (filter_map atom_in parts)
  atoms_covered [] covers = tt
  atoms_covered (Atom atom ∷ parts) covers = (
    left_covered all (atom_variables atom) (flat_map part_variables parts) covers,
    atoms_covered parts (right_covered all (atom_variables atom) (flat_map part_variables parts) covers),
  )
  atoms_covered (Comparison comparison ∷ parts) covers = atoms_covered parts (right_covered all (comparison_variables comparison) (flat_map part_variables parts) covers)

  comparisons_fit : (parts : List Part) → Covers all (flat_map part_variables parts) → AllByRecursion HasNumberedSides (map (comparison_of (first_mentions all)) (filter_map comparison_in parts))
  comparisons_fit [] covers = tt
  comparisons_fit (Atom atom ∷ parts) covers = comparisons_fit parts (right_covered all (atom_variables atom) (flat_map part_variables parts) covers)
  comparisons_fit (Comparison comparison ∷ parts) covers = (
    comparison_numbered comparison (left_covered all (comparison_variables comparison) (flat_map part_variables parts) covers),
    comparisons_fit parts (right_covered all (comparison_variables comparison) (flat_map part_variables parts) covers),
  )

-- ---- relations

found_there : {A : Type 0} (test : A → Bool) (xs : List A) (x : A) → find test xs ≡ Some x → slice_get xs (position_or_len test xs) ≡ Some x
found_there test [] x found = cc
found_there {A} test (y ∷ xs) x found = by (test y) found (found_there test xs x)
  where
    by : (b : Bool) → cond b (Some y) (find test xs) ≡ Some x → (find test xs ≡ Some x → slice_get xs (position_or_len test xs) ≡ Some x)
        → slice_get (y ∷ xs) (cond (not b) (1 + position_or_len test xs) 0) ≡ Some x
    by true found rest = found
    by false found rest = rw one-add (rest found)

equal : (m n : ℕ) → not (m == n) ≡ false → m ≡ n
equal m n e = grind (arith, nat_tests)

atom_fits : (catalogue : List Relation) (all : List Occurrence) → length (first_mentions all) ≤ most_variables → (atom : WrittenAtom)
    → is_unknown catalogue atom ≡ false → is_miscounted catalogue atom ≡ false → Covers all (atom_variables atom) → FitsRelation catalogue (atom_of catalogue (first_mentions all) atom)
atom_fits catalogue all few atom known counted covers = by (relation_named catalogue atom.relation.name) refl known
  where
    by : (relation : Option Relation) → relation_named catalogue atom.relation.name ≡ relation → is_none relation ≡ false → FitsRelation catalogue (atom_of catalogue (first_mentions all) atom)
    by None e known = absurd (true≢false known)
    by (Some relation) e known = record {
      relation = relation;
      is_there = found_there (λ (r : Relation). same_text atom.relation.name r.name) catalogue relation e;
      terms = length-map atom.terms (λ (term : WrittenTerm). term_of (first_mentions all) term.written) ∙ equal (length atom.terms) (length (columns_of catalogue atom)) counted ∙ ap (λ (o : Option Relation). length (columns_in o)) e;
      numbered = terms_numbered all few atom.terms covers;
    }

atoms_fit : (catalogue : List Relation) (all : List Occurrence) → length (first_mentions all) ≤ most_variables → (atoms : List WrittenAtom)
    → AllByRecursion (λ (a : WrittenAtom). is_unknown catalogue a ≡ false) atoms → AllByRecursion (λ (a : WrittenAtom). is_miscounted catalogue a ≡ false) atoms
    → AllByRecursion (λ (a : WrittenAtom). Covers all (atom_variables a)) atoms → AllByRecursion (FitsRelation catalogue) (map (atom_of catalogue (first_mentions all)) atoms)
atoms_fit catalogue all few [] known counted covers = tt
atoms_fit catalogue all few (atom ∷ atoms) known counted covers = (atom_fits catalogue all few atom known.0 counted.0 covers.0, atoms_fit catalogue all few atoms known.1 counted.1 covers.1)

-- the first variable of the head is in an atom
some_atom : (atoms : List WrittenAtom) (head : List Occurrence) → 1 ≤ length head → loose_offsets atoms head ≡ [] → 1 ≤ length atoms
some_atom (atom ∷ atoms) head some kept = omega arith
some_atom [] [] some kept = absurd (omega arith)
some_atom [] (o ∷ head) some kept = cc

fitting : (catalogue : List Relation) (syntax : Syntax) → 1 ≤ length syntax.head → AllByRecursion IsKept (checks_of catalogue (pieces_of syntax)) → FitsCatalogue catalogue (query_of_pieces catalogue (pieces_of syntax))
fitting catalogue syntax some kept =
    let pieces = pieces_of syntax in
    let all = variables_of syntax in
    let variables = first_mentions all in
    let limits = limits_kept pieces kept.1.1.1.1.1.0 in
    let some_word : 1 ≤ length pieces.head = omega (arith, length-map syntax.head word_occurrence, some) in
    let heads = length-map pieces.head (λ (o : Occurrence). number_named variables o.0) in
    let atoms = length-map pieces.atoms (atom_of catalogue variables) in
    let comparisons = length-map pieces.comparisons (comparison_of variables) in
    let in_parts : Covers all (flat_map part_variables syntax.parts) = right_covered all pieces.head (flat_map part_variables syntax.parts) (λ name there. there) in
    let few = limits.variables in
    let bound = flat_map atom_variables pieces.atoms in
    let head_bound = none_broken (is_loose bound) occurrence_offset pieces.head kept.1.1.1.0 in
    let compared = flat_map comparison_variables pieces.comparisons in
    let compared_bound = none_broken (is_loose bound) occurrence_offset compared kept.1.1.1.1.0 in
    record {
      some_head = omega (arith, heads, some_word);
      short_head = omega (arith, heads, limits.head);
      numbered_head = head_numbered all few pieces.head (left_covered all pieces.head (flat_map part_variables syntax.parts) (λ name there. there));
      head_in_atoms = each_stands catalogue variables pieces.atoms pieces.head head_bound;
      some_atom = omega (arith, atoms, some_atom pieces.atoms pieces.head some_word kept.1.1.1.0);
      few_atoms = omega (arith, atoms, limits.atoms);
      each_atom = atoms_fit catalogue all few pieces.atoms (none_broken (is_unknown catalogue) atom_offset pieces.atoms kept.0) (none_broken (is_miscounted catalogue) atom_offset pieces.atoms kept.1.0) (atoms_covered all few syntax.parts in_parts);
      few_comparisons = omega (arith, comparisons, limits.comparisons);
      each_comparison = comparisons_fit all few syntax.parts in_parts;
      comparisons_in_atoms = compared_stand catalogue variables pieces.atoms pieces.comparisons compared_bound;
    }

-- a query that the checks let through
passed : (catalogue : List Relation) (syntax : Syntax) (query : Query) → 1 ≤ length syntax.head → checked_query catalogue (pieces_of syntax) ≡ Ok query → FitsCatalogue catalogue query
unfolding checked_query
passed catalogue syntax query some e = by (first_broken nat_le (checks_of catalogue (pieces_of syntax))) refl e
  where
    by : (told : Option (Broken ℕ)) → first_broken nat_le (checks_of catalogue (pieces_of syntax)) ≡ told → unless_broken (query_of_pieces catalogue (pieces_of syntax)) told ≡ Ok query → FitsCatalogue catalogue query
    by None none same =
        let it : query_of_pieces catalogue (pieces_of syntax) ≡ query = cc in
        subst (FitsCatalogue catalogue) it (fitting catalogue syntax some (all_kept catalogue (pieces_of syntax) none))
    by (Some broken) some same = cc

pub accepted_fits : (text : List ℕ) (catalogue : List Relation) (query : Query) → query_of text catalogue ≡ Ok query → FitsCatalogue catalogue query
accepted_fits text catalogue query e = by (nat_le (length text) longest_query) (syntax_of text) refl e
  where
    by : (b : Bool) (read : Result Syntax ℕ) → syntax_of text ≡ read → (if b then query_in catalogue read else Err (broken_at 7 longest_query)) ≡ Ok query → FitsCatalogue catalogue query
    by true (Ok syntax) is same = passed catalogue syntax query (some_head text syntax is) same
    by true (Err at) is same = cc
    by false read is same = cc
