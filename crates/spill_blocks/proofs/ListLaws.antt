-- Entries are put and looked at one by one.
use Rattle.std.proofs.Common.{◌≡◌, ℕ, ◌+◌, ◌<◌, ◌≤◌, List, [], ◌∷◌, ◌++◌, length, take, get_or, Some, slice_get, sym, ap, subst, ◌∙◌, append-nil}
use Rattle.std.specs.List.{All}
use Rattle.std.proofs.lemmas.List.{take_all, take_more}
use Rattle.std.proofs.lemmas.List.Concat.{flat_map-append}
use Rattle.std.proofs.lemmas.List.Elements.{All-more}
use Rattle.std.proofs.lemmas.Option.{get_or_from_slice_get, slice_get_within}
use Rattle.spill_blocks.specs.Blocks.{entries_encoding, entry_encoding}
use Rattle.spill_blocks.specs.declared.entries.Kept.{Kept}
use Rattle.spill_blocks.specs.declared.form.EntryForm.{EntryForm}

pub encoding_more : (form : EntryForm) (xs : List Kept) (i : ℕ) (kept : Kept) → Some kept ≡ slice_get xs i → entries_encoding form (take (i + 1) xs) ≡ entries_encoding form (take i xs) ++ entry_encoding form kept
encoding_more form xs i kept e =
    let inside : i < length xs = slice_get_within xs i kept (sym e) in
    let here : get_or xs i kept ≡ kept = get_or_from_slice_get xs i kept kept (sym e) in
    ap (entries_encoding form) (take_more xs i kept inside)
    ∙ flat_map-append (entry_encoding form) (take i xs) (get_or xs i kept ∷ [])
    ∙ ap (λ k. entries_encoding form (take i xs) ++ (entry_encoding form k ++ [])) here
    ∙ ap (λ bs. entries_encoding form (take i xs) ++ bs) (append-nil (entry_encoding form kept))

pub all_more : (P : Kept → Type 0) (xs : List Kept) (i : ℕ) (kept : Kept) → Some kept ≡ slice_get xs i → All P (take i xs) → P kept → All P (take (i + 1) xs)
all_more P xs i kept e all one =
    let inside : i < length xs = slice_get_within xs i kept (sym e) in
    let here : get_or xs i kept ≡ kept = get_or_from_slice_get xs i kept kept (sym e) in
    All-more P xs i kept inside all (subst P (sym here) one)

pub all_taken : (P : Kept → Type 0) (xs : List Kept) (i : ℕ) → length xs ≤ i → All P (take i xs) → All P xs
all_taken P xs i past all = let Q : List Kept → Type 0 = λ ys. All P ys in subst Q (take_all i xs past) all
