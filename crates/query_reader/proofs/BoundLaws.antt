-- A variable that is named in an atom as it is written stands in the query's atoms, by its number.
use Rattle.std.proofs.Common.{◌≡◌, ℕ, suc, Bool, true, false, not, ◌||◌, List, [], ◌∷◌, ◌++◌, map, Contains, refl, sym, subst, ◌∙◌, arith}
use Rattle.std.specs.List.{AllByRecursion, flat_map}
use Rattle.std.proofs.lemmas.List.Elements.{Contains-append_left, Contains-append_right}
use Rattle.std.proofs.lemmas.List.Folds.{list_any-append}
use Rattle.cat_reader.specs.Relations.{same_text}
use Rattle.cat_reader.specs.declared.catalogue.Relation.{Relation}
use Rattle.row_match.specs.Filters as filter
use Rattle.row_match.specs.Patterns as pattern
use Rattle.query_syntax.specs.declared.syntax.NamedTerm.{NamedTerm}
use Rattle.query_syntax.specs.declared.syntax.NamedTerm.TheVariants.{Variable, Constant}
use Rattle.query_syntax.specs.declared.syntax.WrittenAtom.{WrittenAtom}
use Rattle.query_syntax.specs.declared.syntax.WrittenComparison.{WrittenComparison}
use Rattle.query_syntax.specs.declared.syntax.WrittenTerm.{WrittenTerm}
use Rattle.query_reader.specs.Checks.{is_loose}
use Rattle.query_reader.specs.Fitting.{StandsIn, variables_in}
use Rattle.query_reader.specs.Mentions.{has_name, number_named}
use Rattle.query_reader.specs.Parts.{Occurrence, atom_variables, comparison_variables, mentions_of, term_variables}
use Rattle.query_reader.specs.Reading.{atom_of, comparison_of, term_of}
use Rattle.query_reader.proofs.MentionLaws.{same_name}

is_first : (n : ℕ) (ns : List ℕ) → Contains (n ∷ ns) n
is_first n ns = (0, omega arith, refl)

is_later : (m n : ℕ) (ns : List ℕ) → Contains ns n → Contains (m ∷ ns) n
is_later m n ns h = (suc h.0, omega (arith, h.1), h.2)

kept : (b : Bool) → not b ≡ false → b ≡ true
kept true e = refl
kept false e = cc

-- not loose: the name is among those of the atoms
named_in : (bound : List Occurrence) (o : Occurrence) → is_loose bound o ≡ false → has_name bound o.0 ≡ true
named_in bound o e = kept (has_name bound o.0) e

module _ (catalogue : List Relation) (variables : List Occurrence) where
  in_terms : (name : List ℕ) (terms : List WrittenTerm) → has_name (flat_map term_variables terms) name ≡ true
      → Contains (pattern.term_variables (map (λ (t : WrittenTerm). term_of variables t.written) terms)) (number_named variables name)
  in_terms name [] there = cc
  in_terms name (t ∷ terms) there = by_term t.written there (in_terms name terms)
    where
      by_name : (other : List ℕ) (b : Bool) → same_text name other ≡ b → (b || has_name (flat_map term_variables terms) name) ≡ true
          → (has_name (flat_map term_variables terms) name ≡ true → Contains (pattern.term_variables (map (λ (t : WrittenTerm). term_of variables t.written) terms)) (number_named variables name))
          → Contains (number_named variables other ∷ pattern.term_variables (map (λ (t : WrittenTerm). term_of variables t.written) terms)) (number_named variables name)
      by_name other true e there rest =
          let numbers = number_named variables other ∷ pattern.term_variables (map (λ (t : WrittenTerm). term_of variables t.written) terms) in
          subst (λ (n : List ℕ). Contains numbers (number_named variables n)) (sym (same_name name other e))
          (is_first (number_named variables other) (pattern.term_variables (map (λ (t : WrittenTerm). term_of variables t.written) terms)))
      by_name other false e there rest =
          is_later (number_named variables other) (number_named variables name) (pattern.term_variables (map (λ (t : WrittenTerm). term_of variables t.written) terms)) (rest there)

      by_term : (written : NamedTerm) → has_name (mentions_of t.at written ++ flat_map term_variables terms) name ≡ true
          → (has_name (flat_map term_variables terms) name ≡ true → Contains (pattern.term_variables (map (λ (t : WrittenTerm). term_of variables t.written) terms)) (number_named variables name))
          → Contains (pattern.term_variables (term_of variables written ∷ map (λ (t : WrittenTerm). term_of variables t.written) terms)) (number_named variables name)
      by_term (Variable other) there rest = by_name other (same_text name other) refl there rest
      by_term (Constant constant) there rest = rest there

  in_atoms : (name : List ℕ) (atoms : List WrittenAtom) → has_name (flat_map atom_variables atoms) name ≡ true
      → StandsIn (map (atom_of catalogue variables) atoms) (number_named variables name)
  in_atoms name [] there = cc
  in_atoms name (atom ∷ atoms) there =
      by (has_name (atom_variables atom) name) refl (sym (list_any-append (λ (o : Occurrence). same_text name o.0) (atom_variables atom) (flat_map atom_variables atoms)) ∙ there) (in_atoms name atoms)
    where
      by : (b : Bool) → has_name (atom_variables atom) name ≡ b → (b || has_name (flat_map atom_variables atoms) name) ≡ true
          → (has_name (flat_map atom_variables atoms) name ≡ true → StandsIn (map (atom_of catalogue variables) atoms) (number_named variables name))
          → StandsIn (map (atom_of catalogue variables) (atom ∷ atoms)) (number_named variables name)
      by true e there rest =
          Contains-append_left (pattern.term_variables (atom_of catalogue variables atom).terms) (variables_in (map (atom_of catalogue variables) atoms)) (number_named variables name) (in_terms name atom.terms e)
      by false e there rest =
          Contains-append_right (pattern.term_variables (atom_of catalogue variables atom).terms) (variables_in (map (atom_of catalogue variables) atoms)) (number_named variables name) (rest there)

  module _ (atoms : List WrittenAtom) where
    -- none of the occurrences is loose
    abbrev pub AreBound : List Occurrence → Type 0
    AreBound occurrences = AllByRecursion (λ (o : Occurrence). is_loose (flat_map atom_variables atoms) o ≡ false) occurrences

    stands : (o : Occurrence) → is_loose (flat_map atom_variables atoms) o ≡ false → StandsIn (map (atom_of catalogue variables) atoms) (number_named variables o.0)
    stands o e = in_atoms o.0 atoms (named_in (flat_map atom_variables atoms) o e)

    pub each_stands : (occurrences : List Occurrence) → AreBound occurrences
        → AllByRecursion (StandsIn (map (atom_of catalogue variables) atoms)) (map (λ (o : Occurrence). number_named variables o.0) occurrences)
    each_stands [] all = tt
    each_stands (o ∷ occurrences) all = (stands o all.0, each_stands occurrences all.1)

    pub compared_stand : (comparisons : List WrittenComparison) → AreBound (flat_map comparison_variables comparisons)
        → AllByRecursion (StandsIn (map (atom_of catalogue variables) atoms)) (filter.comparison_variables (map (comparison_of variables) comparisons))
    compared_stand [] all = tt
    compared_stand (comparison ∷ comparisons) all = (stands (comparison.left.name, comparison.left.at) all.0, by comparison.right.written all.1 (compared_stand comparisons))
      where
        by : (written : NamedTerm) → AreBound (mentions_of comparison.right.at written ++ flat_map comparison_variables comparisons)
            → (AreBound (flat_map comparison_variables comparisons) → AllByRecursion (StandsIn (map (atom_of catalogue variables) atoms)) (filter.comparison_variables (map (comparison_of variables) comparisons)))
            → AllByRecursion (StandsIn (map (atom_of catalogue variables) atoms)) (pattern.term_variables (term_of variables written ∷ []) ++ filter.comparison_variables (map (comparison_of variables) comparisons))
        by (Variable name) all rest = (stands (name, comparison.right.at) all.0, rest all.1)
        by (Constant constant) all rest = rest all
