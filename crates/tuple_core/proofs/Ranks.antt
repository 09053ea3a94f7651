-- Ranks agree with the order of rows.
use Rattle.std.proofs.Common.{add-one, zero-add, drop-cons, ◌≡◌, ℕ, zero, suc, ◌+◌, ◌-◌, ◌^◌, ◌<◌, ◌≤◌, Bool, true, false, List, [], ◌∷◌, ◌++◌, length, drop, get_or, ℤ, negsuc, ◌-ℤ◌, ◌<ℤ◌, unsigned_abs, FitsSigned, refl, sym, ap, ap₂, subst, ◌∙◌, arith}
use Rattle.std.specs.Cmp.{ranks, int_ranks}
use Rattle.std.specs.Cmp.Lexicographic.{slice_cmp}
use Rattle.std.specs.Int.{w64, from_bool}
use Rattle.std.specs.List.{AllByRecursion}
use Rattle.std.specs.Ordering.{MatchOrdering, nat_cmp, ordering_then, ordering_reverse, is_lt, is_eq}
use Rattle.std.specs.declared.cmp.Ordering.{Ordering}
use Rattle.std.specs.declared.cmp.Ordering.TheVariants.{Less, Equal, Greater}
use Rattle.std.proofs.Math.Facts.{clash}
use Rattle.std.proofs.lemmas.Bool.{false≢true}
use Rattle.std.proofs.lemmas.Int.{ints}
use Rattle.std.proofs.lemmas.Cmp.{nat_cmp_total, tied_itself}
use Rattle.std.proofs.lemmas.List.{drop_all, drop_at}
use Rattle.std.proofs.lemmas.Nat.{pow_pos}
use Rattle.tuple_core.specs.Order.{values_same, values_tie, rows_decided, rows_tie, rows_total}
use Rattle.tuple_core.specs.Ranks.{FirstTextBegins, FitsRank, FitsRoom, above_least, Puts, cut_row, cut_value, put_digit, row_rank, text_rank, value_rank}
use Rattle.tuple_core.specs.Values.{FitsValue, FitsRow, value_cmp, row_cmp}
use Rattle.tuple_core.specs.declared.value.Value.{Value}
use Rattle.tuple_core.specs.declared.value.Value.TheVariants as value
use Rattle.tuple_core.proofs.Digits.{digit_below, digit_fits, digit_then, no_room}
use Rattle.tuple_core.proofs.TextBytes.{bytes_below}

no_greater : {X : Type 0} → Greater ≡ Less → X
no_greater e = absurd (false≢true (ap is_lt e))

no_equal : {X : Type 0} → Equal ≡ Less → X
no_equal e = absurd (false≢true (ap is_lt e))

pub text_fits : (bytes : List ℕ) (rest : ℕ → ℕ) → ((k : ℕ) → get_or bytes k 0 < 256) → FitsRoom rest → FitsRoom (text_rank bytes rest)
unfolding text_rank
text_fits [] rest h f = digit_fits 9 0 rest (omega arith) f
text_fits (b ∷ bytes) rest h f =
    let l = h 0 in
    digit_fits 9 (b + 1) (text_rank bytes rest) (omega (arith, l)) (text_fits bytes rest (λ k. h (suc k)) f)

text_below : (xs ys : List ℕ) (f g : ℕ → ℕ) → ((k : ℕ) → get_or xs k 0 < 256) → FitsRoom f → slice_cmp nat_cmp xs ys ≡ Less
    → (room : ℕ) → text_rank xs f room ≤ text_rank ys g room
unfolding text_rank
text_below [] [] f g h fits e = no_equal e
text_below [] (y ∷ ys) f g h fits e = digit_below 9 0 (y + 1) f (text_rank ys g) (omega arith) fits
text_below (x ∷ xs) [] f g h fits e = no_greater e
text_below (x ∷ xs) (y ∷ ys) f g h fits e = go (text_below xs ys f g (λ k. h (suc k)) fits) (nat_cmp x y) (ranks x y) e
  where
    go : (slice_cmp nat_cmp xs ys ≡ Less → (room : ℕ) → text_rank xs f room ≤ text_rank ys g room) → (r : Ordering) → MatchOrdering r (x < y) (x ≡ y) (y < x) → ordering_then r (slice_cmp nat_cmp xs ys) ≡ Less
        → (room : ℕ) → put_digit 9 (x + 1) (text_rank xs f) room ≤ put_digit 9 (y + 1) (text_rank ys g) room
    go ih Less l i = digit_below 9 (x + 1) (y + 1) (text_rank xs f) (text_rank ys g) (omega (arith, l)) (text_fits xs f (λ k. h (suc k)) fits)
    go ih Equal l i = rw l (digit_then 9 (y + 1) (text_rank xs f) (text_rank ys g) (ih i))
    go ih Greater l i = no_greater i

-- what is behind a text may grow
text_then : (bytes : List ℕ) (f g : ℕ → ℕ) → ((room : ℕ) → f room ≤ g room) → (room : ℕ) → text_rank bytes f room ≤ text_rank bytes g room
unfolding text_rank
text_then [] f g below = digit_then 9 0 f g below
text_then (b ∷ bytes) f g below = digit_then 9 (b + 1) (text_rank bytes f) (text_rank bytes g) (text_then bytes f g below)

above_fits : (z : ℤ) → FitsSigned w64 z → above_least z < 2 ^ 64
unfolding above_least
above_fits z h = omega (arith, ints)

pub above_is : (z : ℤ) (n : ℕ) → n ≡ unsigned_abs (z -ℤ negsuc (2 ^ 63 - 1)) → n ≡ above_least z
unfolding above_least
above_is z n e = e

above_below : (x y : ℤ) → FitsSigned w64 x → FitsSigned w64 y → x <ℤ y → above_least x < above_least y
unfolding above_least
above_below x y h g l = omega (arith, ints)

pub bit_fits : (b : Bool) → from_bool b < 2 ^ 1
bit_fits true = omega arith
bit_fits false = omega arith

pub value_fits : (v : Value) (rest : ℕ → ℕ) → FitsRank v → FitsRoom rest → FitsRoom (value_rank v rest)
unfolding value_rank
value_fits (value.Int z) rest h f = digit_fits 2 1 _ (omega arith) (digit_fits 64 (above_least z) rest (above_fits z h) f)
value_fits (value.Text bytes) rest h f = digit_fits 2 2 _ (omega arith) (text_fits bytes rest h.small f)
value_fits (value.Bool b) rest h f = digit_fits 2 3 _ (omega arith) (digit_fits 1 (from_bool b) rest (bit_fits b) f)

value_below : (v w : Value) (f g : ℕ → ℕ) → FitsRank v → FitsRank w → FitsRoom f → value_cmp v w ≡ Less
    → (room : ℕ) → value_rank v f room ≤ value_rank w g room
unfolding value_rank
value_below (value.Int x) (value.Int y) f g h k fits e =
    let l = subst (λ o. MatchOrdering o (x <ℤ y) (x ≡ y) (y <ℤ x)) e (int_ranks x y) in
    digit_then 2 1 _ _ (digit_below 64 (above_least x) (above_least y) f g (above_below x y h k l) fits)
value_below (value.Int x) (value.Text y) f g h k fits e = digit_below 2 1 2 _ _ (omega arith) (digit_fits 64 (above_least x) f (above_fits x h) fits)
value_below (value.Int x) (value.Bool y) f g h k fits e = digit_below 2 1 3 _ _ (omega arith) (digit_fits 64 (above_least x) f (above_fits x h) fits)
value_below (value.Text x) (value.Int y) f g h k fits e = no_greater e
value_below (value.Text x) (value.Text y) f g h k fits e = digit_then 2 2 _ _ (text_below x y f g h.small fits e)
value_below (value.Text x) (value.Bool y) f g h k fits e = digit_below 2 2 3 _ _ (omega arith) (text_fits x f h.small fits)
value_below (value.Bool x) (value.Int y) f g h k fits e = no_greater e
value_below (value.Bool x) (value.Text y) f g h k fits e = no_greater e
value_below (value.Bool false) (value.Bool false) f g h k fits e = no_equal e
value_below (value.Bool false) (value.Bool true) f g h k fits e = digit_then 2 3 _ _ (digit_below 1 0 1 f g (omega arith) fits)
value_below (value.Bool true) (value.Bool false) f g h k fits e = no_greater e
value_below (value.Bool true) (value.Bool true) f g h k fits e = no_equal e

value_then : (v : Value) (f g : ℕ → ℕ) → ((room : ℕ) → f room ≤ g room) → (room : ℕ) → value_rank v f room ≤ value_rank v g room
unfolding value_rank
value_then (value.Int z) f g below = digit_then 2 1 _ _ (digit_then 64 (above_least z) f g below)
value_then (value.Text bytes) f g below = digit_then 2 2 _ _ (text_then bytes f g below)
value_then (value.Bool b) f g below = digit_then 2 3 _ _ (digit_then 1 (from_bool b) f g below)

values_tied : (v w : Value) → value_cmp v w ≡ Equal → v ≡ w
values_tied v w e = values_same v w (values_tie v w ∙ ap is_eq e)

-- ---- ranks of rows

pub row_fits : (row : List Value) → AllByRecursion FitsRank row → FitsRoom (row_rank row)
unfolding row_rank
row_fits [] h room = pow_pos room
row_fits (v ∷ row) h room = value_fits v (row_rank row) h.0 (row_fits row h.1) room

values_below : (r s : List Value) → AllByRecursion FitsRank r → AllByRecursion FitsRank s → row_cmp r s ≡ Less → (room : ℕ) → row_rank r room ≤ row_rank s room
unfolding row_rank
values_below [] s h k e room = omega arith
values_below (v ∷ r) [] h k e room = no_greater e
values_below (v ∷ r) (w ∷ s) h k e room = go (values_below r s h.1 k.1) (value_cmp v w) refl e
  where
    go : (row_cmp r s ≡ Less → (room : ℕ) → row_rank r room ≤ row_rank s room) → (o : Ordering) → value_cmp v w ≡ o → ordering_then o (row_cmp r s) ≡ Less → value_rank v (row_rank r) room ≤ value_rank w (row_rank s) room
    go ih Less t i = value_below v w (row_rank r) (row_rank s) h.0 k.0 (row_fits r h.1) t room
    go ih Equal t i = rw (values_tied v w t) (value_then w (row_rank r) (row_rank s) (ih i) room)
    go ih Greater t i = no_greater i

-- where two ranks differ, the rows stand as they do
pub ranks_decide : (r s : List Value) → AllByRecursion FitsRank r → AllByRecursion FitsRank s → row_rank r 128 < row_rank s 128 → row_cmp r s ≡ Less
ranks_decide r s h k l = go (row_cmp r s) refl
  where
    go : (o : Ordering) → row_cmp r s ≡ o → row_cmp r s ≡ Less
    go Less e = e
    go Equal e =
        let same : r ≡ s = (rows_decided r s).0 (rows_tie r s ∙ ap is_eq e) in
        let tied : row_rank r 128 ≡ row_rank s 128 = ap (λ row. row_rank row 128) same in
        absurd (clash l (omega (arith, tied)))
    go Greater e =
        let below = values_below s r k h (rows_total.antisymm s r ∙ ap ordering_reverse e) 128 in
        absurd (clash l (omega (arith, below)))

-- where ranks come first, rows stand as they do without them
pub ranks_first : (r s : List Value) → AllByRecursion FitsRank r → AllByRecursion FitsRank s → ordering_then (nat_cmp (row_rank r 128) (row_rank s 128)) (row_cmp r s) ≡ row_cmp r s
ranks_first r s h k = go (nat_cmp (row_rank r 128) (row_rank s 128)) (ranks (row_rank r 128) (row_rank s 128))
  where
    go : (o : Ordering) → MatchOrdering o (row_rank r 128 < row_rank s 128) (row_rank r 128 ≡ row_rank s 128) (row_rank s 128 < row_rank r 128) → ordering_then o (row_cmp r s) ≡ row_cmp r s
    go Less l = sym (ranks_decide r s h k l)
    go Equal l = refl
    go Greater l = sym (rows_total.antisymm r s ∙ ap ordering_reverse (ranks_decide s r k h l))

-- ---- rows that are cut

pub drop_below : (bytes : List ℕ) (i : ℕ) → ((k : ℕ) → get_or bytes k 0 < 256) → (k : ℕ) → get_or (drop i bytes) k 0 < 256
drop_below bytes zero h k = h k
drop_below [] (suc i) h k = h k
drop_below (b ∷ bytes) (suc i) h k = drop_below bytes i (λ j. h (suc j)) k

value_ranks : (v : Value) → FitsValue v → FitsRank v
value_ranks (value.Int z) h = h
value_ranks (value.Text bytes) h = record { small = bytes_below bytes h.0 }
value_ranks (value.Bool b) h = tt

pub values_rank : (row : List Value) → AllByRecursion FitsValue row → AllByRecursion FitsRank row
values_rank [] h = tt
values_rank (v ∷ row) h = (value_ranks v h.0, values_rank row h.1)

pub cut_ranks : (skip : ℕ) (v : Value) → FitsValue v → FitsRank (cut_value skip v)
cut_ranks skip (value.Int z) h = h
cut_ranks skip (value.Text bytes) h = record { small = drop_below bytes skip (bytes_below bytes h.0) }
cut_ranks skip (value.Bool b) h = tt

pub cut_row_ranks : (skip : ℕ) (row : List Value) → AllByRecursion FitsValue row → AllByRecursion FitsRank (cut_row skip row)
cut_row_ranks skip [] h = tt
cut_row_ranks skip (v ∷ row) h = (cut_ranks skip v h.0, values_rank row h.1)

front_cancels : (front x y : List ℕ) → slice_cmp nat_cmp (front ++ x) (front ++ y) ≡ slice_cmp nat_cmp x y
front_cancels [] x y = refl
front_cancels (b ∷ front) x y = ap (λ o. ordering_then o (slice_cmp nat_cmp (front ++ x) (front ++ y))) (tied_itself nat_cmp_total b) ∙ front_cancels front x y

cut_values : (front : List ℕ) (v w : Value) → FirstTextBegins front (v ∷ []) → FirstTextBegins front (w ∷ []) → value_cmp (cut_value (length front) v) (cut_value (length front) w) ≡ value_cmp v w
cut_values front (value.Int x) (value.Int y) h k = refl
cut_values front (value.Int x) (value.Text y) h k = refl
cut_values front (value.Int x) (value.Bool y) h k = refl
cut_values front (value.Text x) (value.Int y) h k = refl
cut_values front (value.Text x) (value.Text y) h k =
    ap₂ (λ xs ys. slice_cmp nat_cmp (drop (length front) xs) (drop (length front) ys)) h.1 k.1
    ∙ ap₂ (λ xs ys. slice_cmp nat_cmp xs ys) (drop_at front h.0 (length front) refl) (drop_at front k.0 (length front) refl)
    ∙ sym (front_cancels front h.0 k.0)
    ∙ ap₂ (λ xs ys. slice_cmp nat_cmp xs ys) (sym h.1) (sym k.1)
cut_values front (value.Text x) (value.Bool y) h k = refl
cut_values front (value.Bool x) (value.Int y) h k = refl
cut_values front (value.Bool x) (value.Text y) h k = refl
cut_values front (value.Bool x) (value.Bool y) h k = refl

-- rows whose first texts share some bytes stand as they do without them
pub cut_alike : (front : List ℕ) (r s : List Value) → FirstTextBegins front r → FirstTextBegins front s → row_cmp (cut_row (length front) r) (cut_row (length front) s) ≡ row_cmp r s
cut_alike front [] [] h k = refl
cut_alike front [] (w ∷ s) h k = refl
cut_alike front (v ∷ r) [] h k = refl
cut_alike front (v ∷ r) (w ∷ s) h k = ap (λ o. ordering_then o (row_cmp r s)) (cut_values front v w h k)

-- and so the ranks of the rows without these bytes may come first
pub cut_ranks_first : (skip : ℕ) (r s : List Value) → FitsRow r → FitsRow s → row_cmp (cut_row skip r) (cut_row skip s) ≡ row_cmp r s
    → ordering_then (nat_cmp (row_rank (cut_row skip r) 128) (row_rank (cut_row skip s) 128)) (row_cmp r s) ≡ row_cmp r s
cut_ranks_first skip r s h k alike =
    ap (λ o. ordering_then (nat_cmp (row_rank (cut_row skip r) 128) (row_rank (cut_row skip s) 128)) o) (sym alike)
    ∙ ranks_first (cut_row skip r) (cut_row skip s) (cut_row_ranks skip r h.each) (cut_row_ranks skip s k.each)
    ∙ alike

-- ---- what is left while a rank is written

pub text_turn : (bytes : List ℕ) (i : ℕ) (rest : ℕ → ℕ) (room : ℕ) → i < length bytes
    → text_rank (drop i bytes) rest room ≡ put_digit 9 (get_or bytes i 0 + 1) (text_rank (drop (i + 1) bytes) rest) room
unfolding text_rank
text_turn bytes i rest room l = rw (drop-cons bytes i 0 l) (ap (λ j. put_digit 9 (get_or bytes i 0 + 1) (text_rank (drop j bytes) rest) room) (sym (add-one i)))

pub text_end : (bytes : List ℕ) (i : ℕ) (rest : ℕ → ℕ) (room : ℕ) → length bytes ≤ i → text_rank (drop i bytes) rest room ≡ put_digit 9 0 rest room
unfolding text_rank
text_end bytes i rest room h = rw (drop_all i bytes h) refl

-- one more value is put before the others
pub row_puts : (v : Value) (row : List Value) (n f m g : ℕ) → AllByRecursion FitsRank row → Puts (value_rank v) n f m g → n + row_rank (v ∷ row) f ≡ m + row_rank row g
unfolding row_rank
row_puts v row n f m g fits puts = puts (row_rank row) (row_fits row fits)

-- none is left to put
pub row_ended : (n f : ℕ) → n + row_rank [] f ≡ n
unfolding row_rank
row_ended n f = omega arith

-- and where no bit is free, nothing is added
pub row_full : (row : List Value) (n f : ℕ) → AllByRecursion FitsRank row → f ≡ 0 → n + row_rank row f ≡ n
row_full row n f fits e = let none = no_room (row_rank row) f (row_fits row fits) e in omega (arith, none)

-- the first value is put, cut, before the others
pub rank_whole : (skip : ℕ) (row rest : List Value) (v w : Value) (n f : ℕ) → row ≡ v ∷ rest → w ≡ cut_value skip v → n ≡ 0 → f ≡ 128 → n + row_rank (w ∷ rest) f ≡ row_rank (cut_row skip row) 128
rank_whole skip row rest v w n f e h z t =
    ap₂ (λ k j. k + row_rank (w ∷ rest) j) z t
    ∙ zero-add (row_rank (w ∷ rest) 128)
    ∙ ap (λ u. row_rank (u ∷ rest) 128) h
    ∙ ap (λ r. row_rank (cut_row skip r) 128) (sym e)

-- a row of no values has none to put
pub rank_none : (skip : ℕ) (row : List Value) → row ≡ [] → 0 ≡ row_rank (cut_row skip row) 128
unfolding row_rank
rank_none skip row e = sym (ap (λ r. row_rank (cut_row skip r) 128) e)
