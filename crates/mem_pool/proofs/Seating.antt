-- What the word shows a seat, after a look and at the end.
use Rattle.std.proofs.Common.{◌≡◌, ℕ, List, [], ◌∷◌, sym, ap, ◌∙◌, subst}
use Rattle.std.specs.Prelude.{slice_index}
use mathlib.Core.Option.{some, some-ne-none, some-injective}
use lib.ListN.{get_elem?}
use Rattle.atomic_table.specs.Seated.{TableId}
use Rattle.atomic_table.specs.Table.{Me, Final, Seen}
use Rattle.mem_pool.specs.declared.rule.SeatView.{SeatView}
use Rattle.mem_pool.specs.Rule.{PoolRule}
use Rattle.mem_pool.specs.Seats.{IsResting, Sees, seated_of}
use Rattle.mem_pool.proofs.Kept.{sees}

-- what a look tells holds of the seat after it
pub sees_after : (n : ℕ) (table : TableId) (before after : Me (Unit {0}) SeatView) → ((t : TableId) → Sees n (seated_of t before.0)) → after ≡ before → Sees n (seated_of table after.0)
sees_after n table before after told same = subst (λ (me : Me (Unit {0}) SeatView). Sees n (seated_of table me.0)) (sym same) (told table)

first_is : (words : List ℕ) (n : ℕ) → get_elem? words 0 ≡ some n → slice_index words 0 ≡ n
first_is [] n e = absurd (some-ne-none n (sym e))
first_is (x ∷ xs) n e = some-injective x n e

-- what the word shows at the end
pub sees_last : (cap id n : ℕ) (table : TableId) (me : Me (Unit {0}) SeatView) (words : List ℕ) (slots : List (Unit {0})) → IsResting me → Final (Seen (PoolRule cap) id me.0) words slots → get_elem? words 0 ≡ some n → Sees n (seated_of table me.0)
sees_last cap id n table me words slots rest final at =
    let shown = sees cap final.0 id me.0 final.1.0 final.1.1 rest.live rest.idle table in
    let same = ap (λ (w : List ℕ). slice_index w 0) final.2 ∙ first_is words n at in
    subst (λ (m : ℕ). Sees m (seated_of table me.0)) same shown
