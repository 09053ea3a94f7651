-- What the first bytes of a text say of it: all of a text that isn't too long, and that it is too long.
use Rattle.std.proofs.Common.{◌≡◌, ℕ, ◌<◌, ◌≤◌, Bool, true, false, List, length, take, Some, None, Ok, Err, IfSome, arith, refl, sym, ap, ◌∙◌, ◌⊎◌, inl, inr, subst}
use Rattle.std.specs.Prelude.{nat_le}
use Rattle.std.proofs.lemmas.Bool.{leb-true}
use Rattle.std.proofs.lemmas.Bool.Decides.{nat_tests}
use Rattle.std.proofs.lemmas.List.{take_all, length-take-le}
use Rattle.cat_reader.specs.Catalogue.{catalogue_of, of_no_relation}
use Rattle.cat_reader.specs.declared.catalogue.Relation.{Relation}
use Rattle.med_base.specs.Outside.{IsFetched}
use Rattle.med_prelude.specs.Texts.{Bytes, ToldBytes}
use Rattle.query_reader.specs.Reading.{query_of}
use Rattle.text_reading.specs.Checks.{broken_at}

above : (a b : ℕ) → nat_le a b ≡ false → b < a
above a b e = grind (arith, nat_tests)

-- a text is all that was fetched of it, or both are too long
cut_sizes : (text : Bytes) (small : Bool) → nat_le (length text) 1048576 ≡ small
    → (take 1048577 text ≡ text) ⊎ ((nat_le (length text) 1048576 ≡ false) × (nat_le (length (take 1048577 text)) 1048576 ≡ false))
cut_sizes text true e =
    let short : length text ≤ 1048577 = omega (arith, leb-true (length text) 1048576 e) in
    inl (take_all 1048577 text short)
cut_sizes text false e =
    let long : 1048577 ≤ length text = omega (arith, above (length text) 1048576 e) in
    inr (e, rw (length-take-le 1048577 text long) refl)

catalogue_long : (text : Bytes) → nat_le (length text) 1048576 ≡ false → catalogue_of text ≡ Err (of_no_relation 4)
catalogue_long text e = rw e refl

query_long : (relations : List Relation) (text : Bytes) → nat_le (length text) 1048576 ≡ false → query_of text relations ≡ Err (broken_at 7 1048576)
query_long relations text e = rw e refl

catalogue_cut : (text : Bytes) → catalogue_of (take 1048577 text) ≡ catalogue_of text
catalogue_cut text = elim (cut_sizes text (nat_le (length text) 1048576) refl) [
  | inl same ↦ ap catalogue_of same
  | inr long ↦ catalogue_long (take 1048577 text) long.1 ∙ sym (catalogue_long text long.0)
]

query_cut : (relations : List Relation) (text : Bytes) → query_of (take 1048577 text) relations ≡ query_of text relations
query_cut relations text = elim (cut_sizes text (nat_le (length text) 1048576) refl) [
  | inl same ↦ ap (λ bytes. query_of bytes relations) same
  | inr long ↦ query_long relations (take 1048577 text) long.1 ∙ sym (query_long relations text long.0)
]

-- the catalogue that a text spells, or its refusal, is that of the bytes that were fetched of it
catalogue_same : (text bytes : Bytes) → bytes ≡ take 1048577 text → catalogue_of text ≡ catalogue_of bytes
catalogue_same text bytes e = sym (catalogue_cut text) ∙ ap catalogue_of (sym e)

query_same : (relations : List Relation) (text bytes : Bytes) → bytes ≡ take 1048577 text → query_of text relations ≡ query_of bytes relations
query_same relations text bytes e = sym (query_cut relations text) ∙ ap (λ b. query_of b relations) (sym e)

-- what is said of the reading of the fetched bytes is so of the told text
pub of_catalogue : (told : ToldBytes) (bytes : Bytes) (says : Bytes → Type 0)
    → ((text : Bytes) → catalogue_of text ≡ catalogue_of bytes → says text) → IsFetched told bytes → IfSome told says
of_catalogue None bytes says carry fetched = tt
of_catalogue (Some text) bytes says carry fetched = carry text (catalogue_same text bytes fetched.1)

pub of_query : (relations : List Relation) (told : ToldBytes) (bytes : Bytes) (says : Bytes → Type 0)
    → ((text : Bytes) → query_of text relations ≡ query_of bytes relations → says text) → IsFetched told bytes → IfSome told says
of_query relations None bytes says carry fetched = tt
of_query relations (Some text) bytes says carry fetched = carry text (query_same relations text bytes fetched.1)
