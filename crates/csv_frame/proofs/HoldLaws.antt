-- What a framer has given, while more bytes come.
use Rattle.std.proofs.Common.{◌≡◌, ℕ, ◌∷◌, Bool, false, List, [], ◌++◌, ◌+◌, ◌≤◌, length, drop, slice_range, Option, Some, None, arith, length-drop, refl, sym, ap, ◌∙◌, append_assoc, append-nil}
use Rattle.csv_frame.specs.Frames.{GoesOn, frames, frames_of, long_from, long_offset, pieces}
use Rattle.csv_frame.specs.Holding.{GivesFrames, HasGivenFrames, Held, IsAtHand, IsFrame, IsLong, IsTooLong, KeepsLong, span_bytes}
use Rattle.csv_frame.specs.declared.find.Span.{Span}

pub fed_more : (old new : Held) (piece : List ℕ) → new.rest ≡ old.rest ++ piece → new.at ≡ old.at → old.ended ≡ false
    → (fed : List ℕ) (given : List (Option (List ℕ))) → HasGivenFrames fed given old → HasGivenFrames (fed ++ piece) given new
fed_more old new piece e at unclosed fed given h =
    let going : (more : List ℕ) (ended : Bool) → GoesOn old.ended (piece ++ more) ended = λ more ended t. (cc, cc) in
    let rest : (more : List ℕ) → old.rest ++ (piece ++ more) ≡ new.rest ++ more = λ more. sym (append_assoc old.rest piece more) ∙ ap (λ (bs : List ℕ). bs ++ more) (sym e) in
    record {
      gives = λ more ended goes. ap (λ (bs : List ℕ). frames bs ended) (append_assoc fed piece more) ∙ h.gives (piece ++ more) ended (going more ended)
          ∙ ap (λ (bs : List ℕ). given ++ frames bs ended) (rest more);
      offset = λ more ended goes. ap (λ (bs : List ℕ). long_offset bs ended) (append_assoc fed piece more) ∙ h.offset (piece ++ more) ended (going more ended)
          ∙ ap (λ (bs : List ℕ). long_from old.at (pieces bs ended)) (rest more) ∙ ap (λ (n : ℕ). long_from n (pieces (new.rest ++ more) ended)) (sym at);
    }

-- all that is held, where nothing follows
pub now_given : (old new : Held) (given : List (Option (List ℕ))) → GivesFrames old given new → frames old.rest old.ended ≡ given ++ frames new.rest old.ended
now_given old new given g =
    ap (λ (bs : List ℕ). frames bs old.ended) (sym (append-nil old.rest)) ∙ g [] old.ended (λ t. (refl, t)) ∙ ap (λ (bs : List ℕ). given ++ frames bs old.ended) (append-nil new.rest)

-- the frame at hand is the next one
pub at_hand : (old new : Held) (span : Span) (count : ℕ) → GivesFrames old [] new → IsAtHand new span count → new.ended ≡ old.ended
    → frames old.rest old.ended ≡ Some (span_bytes new span) ∷ frames (drop count new.rest) old.ended
at_hand old new span count g h same =
    now_given old new [] g ∙ ap (λ (bs : List ℕ). frames bs old.ended) (sym (append-nil new.rest)) ∙ h.first [] old.ended (λ t. (refl, sym same ∙ t))
    ∙ ap (λ (bs : List ℕ). Some (span_bytes new span) ∷ frames bs old.ended) (append-nil (drop count new.rest))

-- a frame that was at hand is passed
pub passed : (old mid new : Held) (span : Span) (count : ℕ) → GivesFrames old [] mid → IsAtHand mid span count → mid.ended ≡ old.ended
    → mid.at + length mid.rest ≡ old.at + length old.rest → old.at ≤ mid.at → new.bytes ≡ mid.bytes → new.rest ≡ drop count mid.rest
    → IsFrame old new span
passed old mid new span count g h same at forward bytes rest = record {
  good = (h.good.0, rw bytes h.good.1);
  forward = rw rest (omega (arith, length-drop count mid.rest, h.some, h.inside));
  gives = λ more ended goes. g more ended goes ∙ h.first more ended (λ t. goes (sym same ∙ t))
      ∙ ap (λ (bs : List ℕ). Some (slice_range bs span.from span.end) ∷ frames (drop count mid.rest ++ more) ended) (sym bytes)
      ∙ ap (λ (bs : List ℕ). Some (span_bytes new span) ∷ frames (bs ++ more) ended) (sym rest);
}

pub long_given : (bytes : List ℕ) (ended : Bool) → IsTooLong bytes → frames bytes ended ≡ None ∷ []
long_given bytes ended h = ap (λ (bs : List ℕ). frames bs ended) (sym (append-nil bytes)) ∙ ap frames_of (h.1 [] ended)

-- one step after the other
pub gives_on : (old mid new : Held) (first then : List (Option (List ℕ))) → GivesFrames old first mid → GivesFrames mid then new → mid.ended ≡ old.ended → GivesFrames old (first ++ then) new
gives_on old mid new first then a b same more ended goes =
    a more ended goes ∙ ap (λ (fs : List (Option (List ℕ))). first ++ fs) (b more ended (λ t. goes (sym same ∙ t))) ∙ sym (append_assoc first then (frames (new.rest ++ more) ended))

pub long_on : (old mid new : Held) → KeepsLong old mid → KeepsLong mid new → mid.ended ≡ old.ended → KeepsLong old new
long_on old mid new a b same more ended goes = a more ended goes ∙ b more ended (λ t. goes (sym same ∙ t))

-- what was given and where a long frame begins, after a step
pub given_on : (old new : Held) (given step : List (Option (List ℕ))) (fed : List ℕ) → GivesFrames old step new → KeepsLong old new → new.ended ≡ old.ended
    → HasGivenFrames fed given old → HasGivenFrames fed (given ++ step) new
given_on old new given step fed gives keeps same h =
    let going : (more : List ℕ) (ended : Bool) → GoesOn new.ended more ended → GoesOn old.ended more ended = λ more ended goes t. goes (same ∙ t) in
    record {
      gives = λ more ended goes. h.gives more ended (going more ended goes) ∙ ap (λ (fs : List (Option (List ℕ))). given ++ fs) (gives more ended (going more ended goes))
          ∙ sym (append_assoc given step (frames (new.rest ++ more) ended));
      offset = λ more ended goes. h.offset more ended (going more ended goes) ∙ keeps more ended (going more ended goes);
    }

-- a frame that was at hand is passed, and a long one begins where it did
pub passed_long : (old mid new : Held) (span : Span) (count : ℕ) → KeepsLong old mid → IsAtHand mid span count → mid.ended ≡ old.ended
    → new.rest ≡ drop count mid.rest → new.at ≡ mid.at + count → KeepsLong old new
passed_long old mid new span count keeps h same rest at more ended goes =
    keeps more ended goes ∙ h.offset more ended (λ t. goes (sym same ∙ t))
    ∙ ap (λ (bs : List ℕ). long_from (mid.at + count) (pieces (bs ++ more) ended)) (sym rest) ∙ ap (λ (n : ℕ). long_from n (pieces (new.rest ++ more) ended)) (sym at)

-- the offset that is told of a frame that is too long is the one in the text
pub long_told : (old new : Held) (at : ℕ) → KeepsLong old new → IsLong new at → (fed : List ℕ) (given : List (Option (List ℕ))) → HasGivenFrames fed given old
    → (more : List ℕ) (ended : Bool) → GoesOn old.ended more ended → long_offset (fed ++ more) ended ≡ Some at
long_told old new at keeps long fed given h more ended goes =
    h.offset more ended goes ∙ keeps more ended goes ∙ ap (long_from new.at) (long.long.1 more ended) ∙ ap Some (sym long.offset)
