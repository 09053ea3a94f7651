-- A digit before what follows, in a room of so many bits.
use Rattle.std.proofs.Common.{◌≡◌, ℕ, ◌+◌, ◌-◌, ◌*◌, ◌/◌, ◌%◌, ◌^◌, ◌<◌, ◌≤◌, nat_le, Bool, true, false, if◌then◌else◌, refl, sym, ap, subst, ◌∙◌, arith}
use Rattle.std.proofs.Math.Pow.{shr_mono}
use Rattle.std.proofs.lemmas.Bool.{leb-true, leb-false, le-leb, lt-leb}
use Rattle.std.proofs.lemmas.Nat.{pow-add, shl_whole, shr_below, mul-le}
use Rattle.tuple_core.specs.Ranks.{put_digit, FitsRoom, Puts}

-- in a room that has space for it, a digit of some bits stays below the next one
next_digit : (bits d e room : ℕ) → d < e → bits ≤ room → d * 2 ^ (room - bits) + 2 ^ (room - bits) ≤ e * 2 ^ (room - bits)
next_digit bits d e room l h = let m = mul-le (d + 1) (2 ^ (room - bits)) e (2 ^ (room - bits)) (omega arith) (omega arith) in omega (arith, m)

whole_room : (bits room : ℕ) → bits ≤ room → 2 ^ bits * 2 ^ (room - bits) ≡ 2 ^ room
whole_room bits room h = let e : bits + (room - bits) ≡ room = omega arith in sym (pow-add 2 bits (room - bits)) ∙ ap (λ n. 2 ^ n) e

pub digit_fits : (bits d : ℕ) (rest : ℕ → ℕ) → d < 2 ^ bits → FitsRoom rest → FitsRoom (put_digit bits d rest)
unfolding put_digit
digit_fits bits d rest l f room = go (nat_le bits room) refl
  where
    go : (t : Bool) → nat_le bits room ≡ t → (if t then d * 2 ^ (room - bits) + rest (room - bits) else d / 2 ^ (bits - room)) < 2 ^ room
    go true e =
        let h = leb-true bits room e in
        let n = next_digit bits d (2 ^ bits) room l h in
        let w = whole_room bits room h in
        let r = f (room - bits) in
        omega (arith, n, w, r)
    go false e =
        let h = leb-false bits room e in
        let s : room + (bits - room) ≡ bits = omega arith in
        shr_below d room (bits - room) (rw s l)

pub digit_below : (bits d e : ℕ) (f g : ℕ → ℕ) → d < e → FitsRoom f → (room : ℕ) → put_digit bits d f room ≤ put_digit bits e g room
unfolding put_digit
digit_below bits d e f g l fits room = go (nat_le bits room) refl
  where
    go : (t : Bool) → nat_le bits room ≡ t
        → (if t then d * 2 ^ (room - bits) + f (room - bits) else d / 2 ^ (bits - room)) ≤ (if t then e * 2 ^ (room - bits) + g (room - bits) else e / 2 ^ (bits - room))
    go true t =
        let n = next_digit bits d e room l (leb-true bits room t) in
        let r = fits (room - bits) in
        omega (arith, n, r)
    go false t = shr_mono {a = d} {b = e} (bits - room) (omega (arith, l))

pub digit_then : (bits d : ℕ) (f g : ℕ → ℕ) → ((room : ℕ) → f room ≤ g room) → (room : ℕ) → put_digit bits d f room ≤ put_digit bits d g room
unfolding put_digit
digit_then bits d f g below room = go (nat_le bits room)
  where
    go : (t : Bool) → (if t then d * 2 ^ (room - bits) + f (room - bits) else d / 2 ^ (bits - room)) ≤ (if t then d * 2 ^ (room - bits) + g (room - bits) else d / 2 ^ (bits - room))
    go true = let b = below (room - bits) in omega (arith, b)
    go false = omega arith

-- a digit that there is room for leaves the number within its bits
pub room_left : (number free bits d : ℕ) → free ≤ 128 → number + 2 ^ free ≤ 2 ^ 128 → bits ≤ free → d < 2 ^ bits
    → number + d * 2 ^ (free - bits) % 2 ^ 128 + 2 ^ (free - bits) ≤ 2 ^ 128
room_left number free bits d small within h l =
    let n = next_digit bits d (2 ^ bits) free l h in
    let w = whole_room bits free h in
    let e = shl_whole d bits (free - bits) 128 l (omega arith) in
    omega (arith, n, w, e)

-- and so do the high bits of another
pub room_cut : (number free bits d : ℕ) → number + 2 ^ free ≤ 2 ^ 128 → free < bits → d < 2 ^ bits → number + d / 2 ^ (bits - free) + 1 ≤ 2 ^ 128
room_cut number free bits d within h l =
    let s : free + (bits - free) ≡ bits = omega arith in
    let q = shr_below d free (bits - free) (rw s l) in
    omega (arith, q)

-- what a digit adds, where there is room for it
pub put_left : (number free bits d : ℕ) (rest : ℕ → ℕ) → free ≤ 128 → bits ≤ free → d < 2 ^ bits
    → number + put_digit bits d rest free ≡ number + d * 2 ^ (free - bits) % 2 ^ 128 + rest (free - bits)
unfolding put_digit
put_left number free bits d rest small h l =
    let e = shl_whole d bits (free - bits) 128 l (omega arith) in
    rw (le-leb bits free h, e) (omega arith)

-- and where only its high bits find room
pub put_cut : (number free bits d : ℕ) (rest : ℕ → ℕ) → FitsRoom rest → free < bits → number + put_digit bits d rest free ≡ number + d / 2 ^ (bits - free) + rest 0
unfolding put_digit
put_cut number free bits d rest fits h = let f = fits 0 in rw (lt-leb bits free h) (omega (arith, f))

-- nothing finds room where no bit is free
pub no_room : (rest : ℕ → ℕ) (room : ℕ) → FitsRoom rest → room ≡ 0 → rest room ≡ 0
no_room rest room fits e = let f = subst (λ n. rest room < 2 ^ n) e (fits room) in omega (arith, f)

-- one thing is put and then another
pub puts_both : (a b : (ℕ → ℕ) → ℕ → ℕ) (n f m g k h : ℕ) → ((rest : ℕ → ℕ) → FitsRoom rest → FitsRoom (b rest)) → Puts a n f m g → Puts b m g k h → Puts (λ rest. a (b rest)) n f k h
puts_both a b n f m g k h fits p q = λ rest r. p (b rest) (fits rest r) ∙ q rest r
