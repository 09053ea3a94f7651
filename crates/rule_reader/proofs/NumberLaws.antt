-- Numbers that are cut off past the greatest of a rule.
use Rattle.std.proofs.Common.{◌≡◌, ℕ, suc, ◌+◌, ◌*◌, ◌-◌, ◌<◌, min, length, drop, get_or, List, [], ◌∷◌, arith}
use Rattle.std.proofs.Math.Seq.{drop-cons}
use Rattle.rule_reader.specs.Naming.{number_after}

-- where two numbers are cut off alike, they are with more digits too
pub cut_alike : (most : ℕ) (digits : List ℕ) (a b : ℕ) → min a most ≡ min b most → min (number_after a digits) most ≡ min (number_after b digits) most
cut_alike most [] a b e = e
cut_alike most (d ∷ digits) a b e =
    let more : min (a * 10 + (d - 48)) most ≡ min (b * 10 + (d - 48)) most = omega arith in
    cut_alike most digits (a * 10 + (d - 48)) (b * 10 + (d - 48)) more

-- one digit is read
pub cut_digit : (most : ℕ) (digits : List ℕ) (i before after : ℕ) → i < length digits → after ≡ min (before * 10 + (get_or digits i 0 - 48)) most
    → min (number_after after (drop (i + 1) digits)) most ≡ min (number_after before (drop i digits)) most
cut_digit most digits i before after inside e =
    let parted : drop i digits ≡ get_or digits i 0 ∷ drop (suc i) digits = drop-cons digits i 0 inside in
    let same : min after most ≡ min (before * 10 + (get_or digits i 0 - 48)) most = omega arith in
    let next : i + 1 ≡ suc i = omega arith in
    rw (parted, next) (cut_alike most (drop (suc i) digits) after (before * 10 + (get_or digits i 0 - 48)) same)
