-- What was written of a text, piece by piece.
use Rattle.std.proofs.Common.{◌≡◌, ℕ, ◌+◌, ◌++◌, Some, None, take, drop, length, min, arith, Result, Ok, Err, OnErr, refl, sym, ap, ◌∙◌, append_assoc}
use Rattle.std.proofs.Math.Seq.{take-add, take-append-add}
use Rattle.std.proofs.lemmas.List.{drop-drop, take-append-le, take_min, take_at}
use Rattle.med_prelude.specs.Texts.{Bytes, ToldBytes, told_with}
use Rattle.out_text.specs.Writing.{IsWrittenUpTo}

grown_twice : (told : ToldBytes) (a b : Bytes) → told_with (told_with told a) b ≡ told_with told (a ++ b)
grown_twice None a b = refl
grown_twice (Some bytes) a b = ap Some (append_assoc bytes a b)

pub written_more : (old mid new : ToldBytes) (text rest after : Bytes) (k : ℕ) → IsWrittenUpTo old mid text rest → new ≡ told_with mid (take k rest) → after ≡ drop k rest → IsWrittenUpTo old new text after
written_more old mid new text rest after k done more is_after = record {
  count = done.count + k;
  written = more ∙ ap (λ told. told_with told (take k rest)) done.written ∙ grown_twice old (take done.count text) (take k rest) ∙ ap (told_with old) (ap (λ left. take done.count text ++ take k left) done.left ∙ sym (take-add done.count k text));
  left = is_after ∙ ap (drop k) done.left ∙ drop-drop k done.count text;
}

-- behind what was written of a text, a prefix of its next piece
pub prefix_more : (old mid new : ToldBytes) (front piece rest whole : Bytes) (k : ℕ) → mid ≡ told_with old front → new ≡ told_with mid (take k piece) → whole ≡ (front ++ piece) ++ rest
    → (n : ℕ) × (new ≡ told_with old (take n whole))
prefix_more old mid new front piece rest whole k done more is = (
  length front + min k (length piece),
  more ∙ ap (λ told. told_with told (take k piece)) done ∙ grown_twice old front (take k piece)
      ∙ ap (told_with old) (sym (ap (take (length front + min k (length piece))) (is ∙ append_assoc front piece rest) ∙ take-append-add front (piece ++ rest) (min k (length piece)) ∙ ap (λ x. front ++ x) (piece_front piece rest k))),
)
  where
    piece_front : (piece rest : Bytes) (k : ℕ) → take (min k (length piece)) (piece ++ rest) ≡ take k piece
    piece_front piece rest k = take-append-le (min k (length piece)) piece rest (omega arith) ∙ take_min k piece

-- what was written before the next piece
pub written_before : (old mid : ToldBytes) (front rest whole : Bytes) → mid ≡ told_with old front → whole ≡ front ++ rest → (n : ℕ) × (mid ≡ told_with old (take n whole))
written_before old mid front rest whole done is = (length front, done ∙ ap (told_with old) (sym (ap (take (length front)) is ∙ take_at front rest (length front) refl)))

pub on_any_error : {A E P : Type 0} (result : Result A E) → P → OnErr result P
on_any_error (Ok x) p = tt
on_any_error (Err why) p = p
