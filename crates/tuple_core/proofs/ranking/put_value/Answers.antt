use Rattle.std.proofs.Common.{◌<◌, ◌^◌, FitsSigned, sym}
use Rattle.std.specs.Int.{w64}
use Rattle.std.proofs.lemmas.Int.{to_z-of_z}
use Rattle.tuple_core.specs.Ranks.{put_digit, text_rank, value_rank}
use Rattle.tuple_core.proofs.Digits.{digit_fits, puts_both}
use Rattle.tuple_core.proofs.Ranks.{bit_fits, text_fits}
use Rattle.tuple_core.proofs.ranking.put_value.Goals as goal

pub returns-in-Int : goal.returns-in-Int
returns-in-Int c =
    let fits : FitsSigned w64 c.in-Int.number = rw c.in-Int.is at c.requires in
    rw c.in-Int.is (rw (to_z-of_z w64 c.in-Int.number fits) at c.put_integer.ensures)

pub returns-in-Text : goal.returns-in-Text
unfolding value_rank
returns-in-Text c =
    let bytes = c.in-Text.bytes.now in
    let small = rw c.in-Text.is at c.requires in
    let both = puts_both (put_digit 2 2) (text_rank bytes) _ _ _ _ _ _ (λ rest fits. text_fits bytes rest small.small fits) c.put.ensures c.put_text.ensures in
    rw c.in-Text.is both

pub returns-in-Bool : goal.returns-in-Bool
unfolding value_rank
returns-in-Bool c =
    let bit : c.from.result < 2 ^ 1 = rw c.from.ensures (bit_fits c.in-Bool.truth) in
    let both = puts_both (put_digit 2 3) (put_digit 1 c.from.result) _ _ _ _ _ _ (λ rest fits. digit_fits 1 c.from.result rest bit fits) c.put-in-Bool.ensures c.put-in-Bool-2.ensures in
    rw (c.in-Bool.is, sym c.from.ensures) both
