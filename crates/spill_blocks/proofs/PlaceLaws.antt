-- Reading goes on from place to place.
use Rattle.std.proofs.Common.{◌≡◌, ℕ, ◌+◌, ◌-◌, ◌<◌, ◌≤◌, ◌^◌, nat_le, true, false, List, [], ◌∷◌, ◌++◌, length, take, drop, get_or, Some, None, option_map, Bool, inl, inr, refl, sym, ap, subst, ◌∙◌, arith, append-nil, append_assoc, length-append, length-take}
use Rattle.std.specs.Bool.{MatchBool}
use Rattle.std.specs.Int.{w32, to_be_bytes, from_be_bytes}
use Rattle.std.proofs.lemmas.Bool.{cases_lt}
use Rattle.std.proofs.lemmas.Bool.Decides.{nat_tests}
use Rattle.std.proofs.lemmas.List.{drop-append-le, drop_all, drop_more, take_more, take-take, length-take-le}
use Rattle.std.proofs.lemmas.List.Elements.{All-nil, All-push}
use Rattle.std.proofs.lemmas.Nat.{from_be_bytes-to_be_bytes_4}
use Rattle.std.proofs.lemmas.Option.{none-some}
use Rattle.med_base.specs.Spills.{file_content, told_content}
use Rattle.med_prelude.specs.Texts.{Bytes}
use Rattle.tuple_core.specs.Decoding.{front_and_rest}
use Rattle.spill_blocks.specs.Blocks.{FitsForm, entry_encoding}
use Rattle.spill_blocks.specs.Places.{IsRest, NothingLies, ReadsFrom}
use Rattle.spill_blocks.specs.Reading.{BeginsWith, LieAt, entry_and_rest}
use Rattle.spill_blocks.specs.Windows.{HoldsAll, HoldsMore, IsHeld, KeepsFile, Window, held_from}
use Rattle.spill_blocks.specs.declared.entries.Kept.{Kept}
use Rattle.spill_blocks.specs.declared.seeking.Wanted.{Wanted}
use Rattle.spill_blocks.specs.declared.table.Place.{Place}
use Rattle.spill_blocks.proofs.LieLaws.{first_found, first_there, lie_on}
use Rattle.spill_blocks.proofs.WindowLaws.{at_told, if_told}

-- told content stays told
pub content_kept : (u w : Window) → KeepsFile u w → file_content w.file ≡ file_content u.file
content_kept u w keeps = ap told_content keeps.file.content

-- nothing is read yet
pub reads_none : (wanted : Wanted) (w : Window) (place : Place) (before : List Kept) → place.next ≤ wanted.from → place.next ≤ wanted.stop → place.at ≤ w.end → ReadsFrom wanted w place before place before
reads_none wanted w place before low within reached = record {
  later = omega arith;
  within = within;
  reached = reached;
  given = [];
  gains = sym (append-nil before);
  many = omega arith;
  wide = All-nil (λ (kept : Kept). length kept.row ≡ wanted.width);
  formed = All-nil (FitsForm wanted.form);
  told = if_told (file_content w.file) (λ content. IsRest wanted w.end content place place []) (λ content e left lie enough.
      let none : place.next - place.next ≡ 0 = omega arith in (
        rw none lie,
        sym (ap (λ n. drop (wanted.from - place.next) (take n left)) none ∙ drop_all (wanted.from - place.next) [] (omega arith)),
      ));
}

-- the place behind an entry that was read of what is held
abbrev place_behind : Place → Bytes → Bytes → Place
place_behind place held rest = record { next = place.next + 1; at = place.at + (length held - length rest) }

-- what lies at the place, entry by entry
rest_on : (wanted : Wanted) (w : Window) (content : Bytes) (first place : Place) (given : List Kept) (held : Bytes) (x : Kept × Bytes) → first.next ≤ place.next → place.next < wanted.stop
    → IsRest wanted w.end content first place given → held ≡ take (length held) (drop place.at content) → BeginsWith wanted.form wanted.width held x.0 x.1
    → (left : List Kept) → LieAt wanted.form wanted.width w.end content first.at left → wanted.stop - first.next ≤ length left
    → LieAt wanted.form wanted.width w.end content (place_behind place held x.1).at (drop (place.next + 1 - first.next) left) × (given ≡ drop (wanted.from - first.next) (take (place.next - first.next) left))
    × (get_or left (place.next - first.next) x.0 ≡ x.0)
rest_on wanted w content first place given held x later more rest are begins left lie enough =
    let k = place.next - first.next in
    let inside : k < length left = omega arith in
    let here = rest left lie enough in
    let parts : drop k left ≡ get_or left k x.0 ∷ drop (k + 1) left = drop_more left k x.0 inside in
    let lies : LieAt wanted.form wanted.width w.end content place.at (get_or left k x.0 ∷ drop (k + 1) left) = rw (← parts) here.0 in
    let found = first_found wanted.form wanted.width w.end content place.at (get_or left k x.0) (drop (k + 1) left) held x lies are begins in
    let behind : place.at + length (entry_encoding wanted.form (get_or left k x.0)) ≡ place.at + (length held - length x.1) = omega (arith, found.long) in
    let next : k + 1 ≡ place.next + 1 - first.next = omega arith in (
      subst (λ n. LieAt wanted.form wanted.width w.end content (place.at + (length held - length x.1)) (drop n left)) next
          (subst (λ at. LieAt wanted.form wanted.width w.end content at (drop (k + 1) left)) behind (lie_on wanted.form wanted.width w.end content place.at (get_or left k x.0) (drop (k + 1) left) lies)),
      here.1,
      sym found.same,
    )

pub held_told : (w : Window) (at : ℕ) (held content : Bytes) → IsHeld w at held → file_content w.file ≡ Some content → held ≡ take (length held) (drop at content)
held_told w at held content is e = at_told (file_content w.file) content (λ bytes. held ≡ take (length held) (drop at bytes)) e is.told

given_on : (from first next : ℕ) (given left : List Kept) (e : Kept) → from ≤ next → first ≤ next → next - first < length left → given ≡ drop (from - first) (take (next - first) left)
    → get_or left (next - first) e ≡ e → given ++ e ∷ [] ≡ drop (from - first) (take (next + 1 - first) left)
given_on from first next given left e wanted later inside before here =
    let k = next - first in
    let long : length (take k left) ≡ k = length-take-le k left (omega arith) in
    let within : from - first ≤ length (take k left) = omega arith in
    let one_more : k + 1 ≡ next + 1 - first = omega arith in
    ap (λ xs. xs ++ e ∷ []) before
    ∙ ap (λ y. drop (from - first) (take k left) ++ y ∷ []) (sym here)
    ∙ sym (drop-append-le (from - first) (take k left) (get_or left k e ∷ []) within)
    ∙ ap (drop (from - first)) (sym (take_more left k e inside))
    ∙ ap (λ n. drop (from - first) (take n left)) one_more

none_given : (from first next : ℕ) (given left : List Kept) → next < from → first ≤ next → given ≡ drop (from - first) (take (next - first) left) → given ≡ drop (from - first) (take (next + 1 - first) left)
none_given from first next given left low later before =
    before
    ∙ drop_all (from - first) (take (next - first) left) (omega (arith, length-take (next - first) left))
    ∙ sym (drop_all (from - first) (take (next + 1 - first) left) (omega (arith, length-take (next + 1 - first) left)))

-- an entry that is wanted is read
pub reads_one : (wanted : Wanted) (w : Window) (first : Place) (before : List Kept) (place : Place) (entries : List Kept) (held : Bytes) (x : Kept × Bytes) → ReadsFrom wanted w first before place entries
    → place.next < wanted.stop → wanted.from ≤ place.next → IsHeld w place.at held → BeginsWith wanted.form wanted.width held x.0 x.1
    → ReadsFrom wanted w first before (place_behind place held x.1) (entries ++ x.0 ∷ [])
reads_one wanted w first before place entries held x r more low is parts =
    record {
      later = omega (arith, r.later);
      within = omega arith;
      reached = omega (arith, is.inside r.reached);
      given = r.given ++ x.0 ∷ [];
      gains = ap (λ es. es ++ x.0 ∷ []) r.gains ∙ append_assoc before r.given (x.0 ∷ []);
      many = omega (arith, length-append r.given (x.0 ∷ []), r.many);
      wide = All-push (λ (kept : Kept). length kept.row ≡ wanted.width) r.given x.0 r.wide parts.entry.wide;
      formed = All-push (FitsForm wanted.form) r.given x.0 r.formed parts.entry.formed;
      told = if_told (file_content w.file) (λ content. IsRest wanted w.end content first (place_behind place held x.1) (r.given ++ x.0 ∷ [])) (λ content e left lie enough.
          let on = rest_on wanted w content first place r.given held x r.later more (at_told (file_content w.file) content (λ bytes. IsRest wanted w.end bytes first place r.given) e r.told) (held_told w place.at held content is e) parts left lie enough in
          let inside : place.next - first.next < length left = omega (arith, r.later) in (on.0, given_on wanted.from first.next place.next r.given left x.0 low r.later inside on.1 on.2));
    }

-- an entry before those that are wanted is passed
pub passes_one : (wanted : Wanted) (w : Window) (first : Place) (before : List Kept) (place : Place) (entries : List Kept) (held : Bytes) (x : Kept × Bytes) → ReadsFrom wanted w first before place entries
    → place.next < wanted.stop → place.next < wanted.from → IsHeld w place.at held → BeginsWith wanted.form wanted.width held x.0 x.1
    → ReadsFrom wanted w first before (place_behind place held x.1) entries
passes_one wanted w first before place entries held x r more low is parts = record {
  later = omega (arith, r.later);
  within = omega arith;
  reached = omega (arith, is.inside r.reached);
  given = r.given;
  gains = r.gains;
  many = omega (arith, r.many);
  wide = r.wide;
  formed = r.formed;
  told = if_told (file_content w.file) (λ content. IsRest wanted w.end content first (place_behind place held x.1) r.given) (λ content e left lie enough.
      let on = rest_on wanted w content first place r.given held x r.later more (at_told (file_content w.file) content (λ bytes. IsRest wanted w.end bytes first place r.given) e r.told) (held_told w place.at held content is e) parts left lie enough in
      (on.0, none_given wanted.from first.next place.next r.given left low r.later on.1));
}

-- ---- why reading stops

pub nothing_lies : (wanted : Wanted) (w : Window) (place : Place) (held : Bytes) → IsHeld w place.at held → place.at + length held ≡ w.end → None ≡ entry_and_rest wanted.form wanted.width held → NothingLies wanted w place
nothing_lies wanted w place held is all none content e [] some lie = omega arith
nothing_lies wanted w place held is all none content e (kept ∷ left) some lie = first_there wanted.form wanted.width w.end content place.at kept left held lie (held_told w place.at held content is e) all none

-- ---- the head of a block

pub held_count : (held whole : Bytes) (count : ℕ) → held ≡ take (length held) whole → 4 ≤ length held → take 4 whole ≡ to_be_bytes w32 count → count < 2 ^ 32
    → option_map (λ (x : Bytes × Bytes). from_be_bytes w32 x.0) (front_and_rest 4 held) ≡ Some count
unfolding front_and_rest
held_count held whole count are long head small =
    let inside : nat_le 4 (length held) ≡ true = grind (arith, nat_tests) in
    let front : take 4 held ≡ to_be_bytes w32 count = ap (take 4) are ∙ take-take 4 (length held) whole long ∙ head in
    rw inside (ap (λ bs. Some (from_be_bytes w32 bs)) front ∙ ap Some (from_be_bytes-to_be_bytes_4 count small))

few_none : (held : Bytes) → length held < 4 → option_map (λ (x : Bytes × Bytes). from_be_bytes w32 x.0) (front_and_rest 4 held) ≡ None
unfolding front_and_rest
few_none held few = let past : nat_le 4 (length held) ≡ false = grind (arith, nat_tests) in rw past refl

-- a number that is found is the one that was put
pub count_found : (held whole : Bytes) (found count : ℕ) → held ≡ take (length held) whole → Some found ≡ option_map (λ (x : Bytes × Bytes). from_be_bytes w32 x.0) (front_and_rest 4 held) → take 4 whole ≡ to_be_bytes w32 count → count < 2 ^ 32 → Some found ≡ Some count
count_found held whole found count are e head small = elim (cases_lt (length held) 4) [
  | inl few ↦ absurd (none-some found (sym (e ∙ few_none held few)))
  | inr long ↦ e ∙ held_count held whole count are long head small
]

pub loaded_long : (more : Bool) (old new : Window) (start : ℕ) → start + 12 ≤ old.end → MatchBool more (HoldsMore old start new) (HoldsAll old start new) → 4 ≤ length (held_from new start)
loaded_long true old new start inside h = omega (arith, h.many)
loaded_long false old new start inside h = subst (λ (w : Window). 4 ≤ length (held_from w start)) (sym h.same) (omega (arith, h.all))

pub holds_all : (more : Bool) (old new : Window) (start : ℕ) → more ≡ false → MatchBool more (HoldsMore old start new) (HoldsAll old start new) → HoldsAll old start new
holds_all more old new start e h = let P : Bool → Type 0 = λ b. MatchBool b (HoldsMore old start new) (HoldsAll old start new) in subst P e h
