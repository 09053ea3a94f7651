-- The offsets that break a check are the same where names are looked up among the first of each.
use Rattle.std.proofs.Common.{◌≡◌, ℕ, Bool, true, false, cond, not, List, [], ◌∷◌, filter, map, Option, Some, refl, sym, ap, ◌∙◌}
use Rattle.std.specs.Prelude.{nat_le}
use Rattle.std.specs.List.{flat_map}
use Rattle.cat_reader.specs.declared.catalogue.Relation.{Relation}
use Rattle.query_syntax.specs.declared.syntax.NamedTerm.{NamedTerm}
use Rattle.query_syntax.specs.declared.syntax.NamedTerm.TheVariants.{Variable, Constant}
use Rattle.query_syntax.specs.declared.syntax.WrittenAtom.{WrittenAtom}
use Rattle.query_syntax.specs.declared.syntax.WrittenComparison.{WrittenComparison}
use Rattle.tuple_core.specs.declared.columns.Kind.{Kind}
use Rattle.text_reading.specs.Order.{least, lesser, nat_order}
use Rattle.text_reading.proofs.OrderLaws.{least_append}
use Rattle.query_reader.specs.Checks.{comparison_offset, is_loose, kind_offsets, loose_offsets, occurrence_offset}
use Rattle.text_reading.specs.Faults.{each_where}
use Rattle.query_reader.specs.Kinds.{TypedTerm, is_clash, differ, is_misfit, term_kind, typed_terms, variable_kinds}
use Rattle.query_reader.specs.Mentions.{first_mentions, value_named}
use Rattle.query_reader.specs.Parts.{Occurrence, atom_variables}
use Rattle.query_reader.proofs.FirstLaws.{has_of_firsts, value_of_firsts}

same_offsets : {A : Type 0} (p q : A → Bool) (at : A → ℕ) → ((x : A) → p x ≡ q x) → (xs : List A) → each_where p at xs ≡ each_where q at xs
same_offsets p q at same [] = refl
same_offsets {A} p q at same (x ∷ xs) = ap (λ (b : Bool). map at (cond b (x ∷ filter p xs) (filter p xs))) (same x) ∙ by (q x) (same_offsets p q at same xs)
  where
    by : (b : Bool) → each_where p at xs ≡ each_where q at xs → map at (cond b (x ∷ filter p xs) (filter p xs)) ≡ map at (cond b (x ∷ filter q xs) (filter q xs))
    by true rest = ap (λ (ns : List ℕ). at x ∷ ns) rest
    by false rest = rest

pub loose_of_firsts : (bound occurrences : List Occurrence) → each_where (is_loose (first_mentions bound)) occurrence_offset occurrences ≡ each_where (is_loose bound) occurrence_offset occurrences
loose_of_firsts bound occurrences = same_offsets (is_loose (first_mentions bound)) (is_loose bound) occurrence_offset (λ o. ap not (has_of_firsts o.0 bound)) occurrences

module _ (kinds : List (List ℕ × Kind)) where
  kind_of_firsts : (written : NamedTerm) → term_kind (first_mentions kinds) written ≡ term_kind kinds written
  kind_of_firsts (Variable name) = value_of_firsts name kinds
  kind_of_firsts (Constant constant) = refl

  misfit_of_firsts : (t : TypedTerm) → is_misfit (first_mentions kinds) t ≡ is_misfit kinds t
  misfit_of_firsts t = ap (λ (k : Option Kind). differ k (Some t.1)) (kind_of_firsts t.0.written)

  clash_of_firsts : (c : WrittenComparison) → is_clash (first_mentions kinds) c ≡ is_clash kinds c
  clash_of_firsts c =
      ap (λ (k : Option Kind). differ k (term_kind (first_mentions kinds) c.right.written)) (value_of_firsts c.left.name kinds)
      ∙ ap (λ (k : Option Kind). differ (value_named kinds c.left.name) k) (kind_of_firsts c.right.written)

-- the lesser of the least misfit and the least clash
pub least_kind : (catalogue : List Relation) (atoms : List WrittenAtom) (comparisons : List WrittenComparison) (terms : List TypedTerm) (kinds firsts : List (List ℕ × Kind)) (misfit clash : Option ℕ)
    → terms ≡ typed_terms catalogue atoms → kinds ≡ variable_kinds terms → firsts ≡ first_mentions kinds
    → misfit ≡ least nat_le (each_where (is_misfit firsts) (λ t. t.0.at) terms)
    → clash ≡ least nat_le (each_where (is_clash firsts) comparison_offset comparisons)
    → lesser nat_le misfit clash ≡ least nat_le (kind_offsets catalogue atoms comparisons)
least_kind catalogue atoms comparisons terms kinds firsts misfit clash typed kinded first least_misfit least_clash =
    let ks = variable_kinds (typed_terms catalogue atoms) in
    let same : firsts ≡ first_mentions ks = first ∙ ap first_mentions (kinded ∙ ap variable_kinds typed) in
    rw (least_misfit, least_clash, same, typed) (
    ap (λ (ns : List ℕ). lesser nat_le (least nat_le ns) (least nat_le (each_where (is_clash (first_mentions ks)) comparison_offset comparisons)))
    (same_offsets (is_misfit (first_mentions ks)) (is_misfit ks) (λ t. t.0.at) (misfit_of_firsts ks) (typed_terms catalogue atoms))
    ∙ ap (λ (ns : List ℕ). lesser nat_le (least nat_le (each_where (is_misfit ks) (λ t. t.0.at) (typed_terms catalogue atoms))) (least nat_le ns))
    (same_offsets (is_clash (first_mentions ks)) (is_clash ks) comparison_offset (clash_of_firsts ks) comparisons)
    ∙ sym (least_append nat_le nat_order (each_where (is_misfit ks) (λ t. t.0.at) (typed_terms catalogue atoms)) (each_where (is_clash ks) comparison_offset comparisons)))

-- the least of the variables that are in no atom
pub least_loose : (atoms held : List WrittenAtom) (bound firsts occurrences given : List Occurrence) → firsts ≡ first_mentions bound → bound ≡ flat_map atom_variables held → held ≡ atoms → occurrences ≡ given
    → least nat_le (each_where (is_loose firsts) occurrence_offset occurrences) ≡ least nat_le (loose_offsets atoms given)
least_loose atoms held bound firsts occurrences given first all same here =
    rw (first, all, same, here) (ap (λ (ns : List ℕ). least nat_le ns) (loose_of_firsts (flat_map atom_variables atoms) given))
