-- Told content, and what is held of it.
use Rattle.std.proofs.Common.{◌≡◌, ℕ, ◌+◌, ◌-◌, ◌<◌, ◌≤◌, nat_le, Bool, true, false, cond, min, [], ◌++◌, length, take, drop, Some, None, ◌⊎◌, inl, inr, refl, sym, ap, ap₂, subst, ◌∙◌, arith, length-drop}
use Rattle.std.specs.Option.{IfSome}
use Rattle.std.proofs.lemmas.Bool.{cases_lt}
use Rattle.std.proofs.lemmas.Bool.Decides.{nat_tests}
use Rattle.std.proofs.lemmas.List.{drop-drop, drop-take, drop_all}
use Rattle.std.proofs.lemmas.Option.{none-some, same_Some}
use Rattle.med_base.specs.Spills.{Content, FileState, TellsBytes, TellsLength, content_length, file_content, file_length, told_content}
use Rattle.med_prelude.specs.Counts.{Rose}
use Rattle.med_prelude.specs.Texts.{Bytes, ToldBytes, told_with}
use Rattle.spill_blocks.specs.Windows.{IsHeld, IsWindow, KeepsFile, Window, held_from}

-- ---- told content

pub at_told : (told : ToldBytes) (content : Bytes) (P : Bytes → Type 0) → told ≡ Some content → IfSome told P → P content
at_told told content P e h = let Q : ToldBytes → Type 0 = λ o. IfSome o P in subst Q e h

pub if_told : (told : ToldBytes) (P : Bytes → Type 0) → ((content : Bytes) → told ≡ Some content → P content) → IfSome told P
if_told None P h = tt
if_told (Some content) P h = h content refl

pub untold : (told : ToldBytes) → ((content : Bytes) → told ≡ Some content → ⊥) → told ≡ None
untold None h = refl
untold (Some content) h = absurd (h content refl)

told_long : (content : Content) (bytes : Bytes) → told_content content ≡ Some bytes → content_length content ≡ length bytes
told_long (TellsBytes b) bytes e = ap length (same_Some b bytes e)
told_long (TellsLength n) bytes e = absurd (none-some bytes e)

-- told content is as long as the file
pub content_long : (s : FileState) (bytes : Bytes) → file_content s ≡ Some bytes → file_length s ≡ length bytes
content_long s bytes e = told_long s.content bytes e

-- what is told after an append grew
pub grown : (told : ToldBytes) (more content : Bytes) → told_with told more ≡ Some content → (before : Bytes) × (told ≡ Some before) × (content ≡ before ++ more)
grown None more content e = absurd (none-some content e)
grown (Some before) more content e = (before, refl, sym (same_Some (before ++ more) content e))

-- ---- counts of faults

pub rose_later : (first later last : ℕ) → first ≤ later → Rose later last → Rose first last
rose_later first later last up rose = omega (arith, rose)

-- ---- what is held

no_piece : (w : Window) (at : ℕ) → at < w.start → held_from w at ≡ []
no_piece w at before = let later : nat_le w.start at ≡ false = grind (arith, nat_tests) in ap (λ (b : Bool). cond b (drop (at - w.start) w.piece) []) later

some_piece : (w : Window) (at : ℕ) → w.start ≤ at → held_from w at ≡ drop (at - w.start) w.piece
some_piece w at after = let there : nat_le w.start at ≡ true = grind (arith, nat_tests) in ap (λ (b : Bool). cond b (drop (at - w.start) w.piece) []) there

pub holds_none : (w : Window) (at : ℕ) → IsWindow w → at < w.start → IsHeld w at []
holds_none w at is before = record {
  far = is.far;
  are = sym (no_piece w at before);
  inside = λ h. omega (arith, h);
  told = if_told (file_content w.file) (λ content. [] ≡ take 0 (drop at content)) (λ content e. refl);
}

part_told : (skip start at : ℕ) (piece content : Bytes) → piece ≡ take (length piece) (drop start content) → skip ≤ length piece → start + skip ≡ at → drop skip piece ≡ take (length (drop skip piece)) (drop at content)
part_told skip start at piece content told within e =
    let rest : length (drop skip piece) ≡ length piece - skip = length-drop skip piece in
    let whole : length piece ≡ skip + (length piece - skip) = omega arith in
    ap (drop skip) (told ∙ ap (λ n. take n (drop start content)) whole)
    ∙ drop-take skip (length piece - skip) (drop start content)
    ∙ ap₂ take (sym rest) (drop-drop skip start content ∙ ap (λ n. drop n content) e)

pub holds_some : (w : Window) (at : ℕ) → IsWindow w → w.start ≤ at → at - w.start ≤ length w.piece → IsHeld w at (drop (at - w.start) w.piece)
holds_some w at is after within = record {
  far = is.far;
  are = sym (some_piece w at after);
  inside = λ h. omega (arith, length-drop (at - w.start) w.piece, is.inside);
  told = if_told (file_content w.file) (λ content. drop (at - w.start) w.piece ≡ take (length (drop (at - w.start) w.piece)) (drop at content)) (λ content e.
      part_told (at - w.start) w.start at w.piece content (at_told (file_content w.file) content (λ content. w.piece ≡ take (length w.piece) (drop w.start content)) e is.told) within (omega arith));
}

pub holds_past : (w : Window) (at : ℕ) → IsWindow w → w.start ≤ at → length w.piece ≤ at - w.start → IsHeld w at []
holds_past w at is after past = record {
  far = is.far;
  are = sym (some_piece w at after ∙ drop_all (at - w.start) w.piece past);
  inside = λ h. omega (arith, h);
  told = if_told (file_content w.file) (λ content. [] ≡ take 0 (drop at content)) (λ content e. refl);
}

-- what `split_at` leaves behind so many bytes, or behind all
pub holds_behind : (w : Window) (at : ℕ) (bytes : Bytes) → IsWindow w → w.start ≤ at → bytes ≡ drop (min (at - w.start) (length w.piece)) w.piece → IsHeld w at bytes
holds_behind w at bytes is after e = go (cases_lt (at - w.start) (length w.piece))
  where
    go : ((at - w.start) < length w.piece) ⊎ (length w.piece ≤ (at - w.start)) → IsHeld w at bytes
    go (inl within) = let least : min (at - w.start) (length w.piece) ≡ at - w.start = omega arith in subst (IsHeld w at) (sym (e ∙ ap (λ n. drop n w.piece) least)) (holds_some w at is after (omega (arith, within)))
    go (inr past) = let least : min (at - w.start) (length w.piece) ≡ length w.piece = omega arith in subst (IsHeld w at) (sym (e ∙ ap (λ n. drop n w.piece) least ∙ drop_all (length w.piece) w.piece (omega arith))) (holds_past w at is after past)

-- ---- a file that stays

pub keeps_file : (w : Window) → KeepsFile w w
keeps_file w = record { file = record { content = refl; past_end = refl; same = record { number = refl; limit = refl; faults = omega arith } }; end = refl }
