-- Each kind of step keeps the rule, and tells its seat what it should.
use Rattle.std.proofs.Common.{◌≡◌, ◌≢◌, ℕ, suc, ◌+◌, ◌-◌, ◌*◌, ◌%◌, ◌^◌, ◌<◌, ◌≤◌, max, List, [], ◌∷◌, ◌++◌, length, set, refl, sym, ◌∙◌, subst, ⊎_elim, lit≤, arith}
use Rattle.std.specs.Prelude.{slice_index, slice_set, sum_by}
use Rattle.std.proofs.lemmas.List.Sums.{sum_by-cons, sum_by_push}
use mathlib.Core.Option.{some, none}
use native.Mathlib.Decide.{dec_le, ℕ_discrete}
use lib.ListN.{get_elem?}
use Rattle.atomic_table.specs.Seated.{TableId}
use Rattle.atomic_table.specs.Table.{Act, State, Me, Allows, Splits, Joins, Valid, carried_after, step, stepped}
use Rattle.atomic_table.specs.Table.Act.{keeps}
use Rattle.atomic_table.proofs.Lists.{at_set, at_snoc, set_else}
use Rattle.mem_pool.specs.declared.rule.SeatView.{SeatView}
use Rattle.mem_pool.specs.Rule.{IsFairSeat, PoolRule, added_by, greatest_take, most_seats, seats_of}
use Rattle.mem_pool.specs.Seats.{IsResting, Sees, seated_of}
use Rattle.mem_pool.specs.Steps.{Looks, Releases, Takes, Undoes, granted, refused, released, undone, left_view, new_view, joined_view, spent_view}
use Rattle.mem_pool.proofs.Sums.{at_most_sum, at_set_here, sum_by-at_set, sum_by-mono, sum_of_one}

abbrev pub holding : SeatView → ℕ
holding v = v.held

abbrev pub mosts : SeatView → ℕ
mosts v = v.most

abbrev WordOfOne : List ℕ → ℕ → Type 0
WordOfOne words n = (length (slice_set words 0 n) ≡ 1) × (slice_index (slice_set words 0 n) 0 ≡ n)

one_word : (words : List ℕ) (n : ℕ) → length words ≡ 1 → WordOfOne words n
one_word [] n e = absurd (omega arith)
one_word (x ∷ []) n e = (refl, refl)
one_word (x ∷ y ∷ ys) n e = absurd (omega arith)

-- the rule stays where one seat's view and the word change alike
moved : (cap : ℕ) (s : State (Unit {0}) SeatView) (id n : ℕ) (v w : SeatView) → PoolRule cap s → get_elem? s.views id ≡ some v
    → n + added_by v ≡ slice_index s.words 0 + added_by w
    → sum_by holding s.views + w.held ≤ cap + v.held
    → seats_of w ≤ seats_of v
    → v.most ≤ w.most
    → IsFairSeat cap (sum_by mosts (set s.views id w)) w
    → PoolRule cap (stepped s 0 n id [] w keeps)
moved cap s id n v w h at word held seats most fair = record {
  one_word = (one_word s.words n h.one_word).0;
  capacity = h.capacity;
  word = (one_word s.words n h.one_word).1 ∙ (let e = sum_by-at_set added_by s.views id v w at in let k = h.word in omega arith);
  held = let e = sum_by-at_set holding s.views id v w at in omega arith;
  seats = let e = sum_by-at_set seats_of s.views id v w at in let k = h.seats in omega arith;
  each = λ j u e. ⊎_elim
      (λ (x : (j ≡ id) × (w ≡ u)). subst (λ (y : SeatView). IsFairSeat cap (sum_by mosts (set s.views id w)) y) x.1 fair)
      (λ (x : (j ≢ id) × (get_elem? s.views j ≡ some u)). other u (h.each j u x.1))
      (at_set s.views id j w u e);
}
  where
    other : (u : SeatView) → IsFairSeat cap (sum_by mosts s.views) u → IsFairSeat cap (sum_by mosts (set s.views id w)) u
    other u f = let e = sum_by-at_set mosts s.views id v w at in record { once = f.once; of_pool = f.of_pool; held = f.held; pending = f.pending; topped = f.topped; peaked = (let p = f.peaked in omega arith); spent = f.spent }

-- a seat has something pending only while it counts
pending_of_live : (cap most : ℕ) (v : SeatView) → IsFairSeat cap most v → v.pending ≤ greatest_take * seats_of v
pending_of_live cap most v fair = by_live (ℕ_discrete v.live 0)
  where
    by_live : Dec (v.live ≡ 0) → v.pending ≤ greatest_take * seats_of v
    by_live (yes e) = let nothing : v.held + v.pending + v.may_split + v.most + v.peak ≡ 0 = fair.spent e in omega arith
    by_live (no e) = let some_live : 1 ≤ v.live = omega (arith, e) in let small = fair.pending in omega arith

-- what may be pending beside what is held
bounded : (cap most : ℕ) (views : List SeatView) → ((id : ℕ) (v : SeatView) → get_elem? views id ≡ some v → IsFairSeat cap most v) → sum_by added_by views ≤ sum_by holding views + greatest_take * sum_by seats_of views
bounded cap most [] each = omega arith
bounded cap most (v ∷ vs) each =
    let one = pending_of_live cap most v (each 0 v (λ _. some v)) in
    omega (arith, sum_by-cons added_by v vs, sum_by-cons holding v vs, sum_by-cons seats_of v vs, bounded cap most vs (λ id. each (suc id)))

spent_adds : (cap most : ℕ) (v : SeatView) → IsFairSeat cap most v → seats_of v ≡ 0 → (added_by v ≡ 0) × (v.most ≡ 0)
spent_adds cap most v fair nobody = let spent : v.held + v.pending + v.may_split + v.most + v.peak ≡ 0 = fair.spent (omega arith) in (omega arith, omega arith)

-- a seat from which all others could be split has the sums of all seats
alone : (cap : ℕ) (s : State (Unit {0}) SeatView) (id : ℕ) (v : SeatView) → PoolRule cap s → get_elem? s.views id ≡ some v → v.live ≡ 1 → v.may_split ≡ most_seats - 1 → (sum_by added_by s.views ≡ added_by v) × (sum_by mosts s.views ≡ v.most)
alone cap s id v h at live whole =
    let seats = h.seats in (
      sum_of_one added_by seats_of s.views id v at (λ j u e nobody. (spent_adds cap _ u (h.each j u e) nobody).0) (omega arith),
      sum_of_one mosts seats_of s.views id v at (λ j u e nobody. (spent_adds cap _ u (h.each j u e) nobody).1) (omega arith),
    )

-- what is in use
in_use : (cap : ℕ) (s : State (Unit {0}) SeatView) → PoolRule cap s → slice_index s.words 0 ≤ cap + most_seats * greatest_take
in_use cap s h =
    let word = h.word in
    let added = bounded cap (sum_by mosts s.views) s.views h.each in
    let held = h.held in
    let seats = h.seats in
    omega arith

-- what the word shows a seat
pub sees : (cap : ℕ) (s : State (Unit {0}) SeatView) (id : ℕ) (v : SeatView) → PoolRule cap s → get_elem? s.views id ≡ some v → v.live ≡ 1 → v.pending ≡ 0 → (table : TableId) → Sees (slice_index s.words 0) (seated_of table v)
sees cap s id v h at live idle table =
    let fair = h.each id v at in
    let same : v.cap ≡ cap = fair.of_pool live in
    let word = h.word in
    record {
      held = (let k = fair.held in omega arith);
      counted = (let k = at_most_sum added_by s.views id v at in omega arith);
      bound = (let k = in_use cap s h in omega arith);
      all = λ whole. (let k = alone cap s id v h at live whole in omega arith);
      peak = λ whole. (let k = alone cap s id v h at live whole in let peaked = fair.peaked in omega arith);
    }

-- what a fetch adds or takes off without passing an end of the word
added_word : (n k : ℕ) → n + k < 2 ^ 64 → (n + k) % 2 ^ 64 ≡ n + k
added_word n k h = omega arith

less_word : (n k : ℕ) → n < 2 ^ 64 → k ≤ n → (n + (2 ^ 64 - k)) % 2 ^ 64 ≡ n - k
less_word n k lt h = omega arith

most_is : (a b : ℕ) → (a ≤ max a b) × (b ≤ max a b)
most_is a b = (omega arith, omega arith)

max_within : (a b c : ℕ) → a ≤ c → b ≤ c → max a b ≤ c
max_within a b c p q = omega arith

module _ (cap : ℕ) (s : State (Unit {0}) SeatView) (id : ℕ) (v : SeatView) (h : PoolRule cap s) (at : get_elem? s.views id ≡ some v) (live : v.live ≡ 1) where
  abbrev seen : ℕ
  seen = slice_index s.words 0

  fair_now : IsFairSeat cap (sum_by mosts s.views) v
  fair_now = h.each id v at

  holds_less : sum_by holding s.views ≤ seen
  holds_less = let e = h.word in omega (arith, sum_by-mono holding added_by s.views (λ i u e. omega arith))

  -- how the sum of all `most` grows with this seat's
  mosts_grow : (w : SeatView) → v.most ≤ w.most → sum_by mosts s.views ≤ sum_by mosts (set s.views id w)
  mosts_grow w h = omega (arith, sum_by-at_set mosts s.views id v w at)

  fits : (k : ℕ) → v.pending ≡ 0 → seen + k ≤ cap → PoolRule cap (stepped s 0 ((seen + k) % 2 ^ 64) id [] (granted k v) keeps)
  fits k idle room =
      let capacity = h.capacity in
      let w = granted k v in
      let fair = fair_now in
      let mine = at_most_sum added_by s.views id v at in
      let word = h.word in
      let most = most_is v.most (v.held + k) in
      moved cap s id _ v w h at
      (let e = added_word seen k (omega arith) in omega arith)
      (let e = holds_less in omega arith)
      (omega arith)
      most.0
      record {
        once = fair.once;
        of_pool = fair.of_pool;
        held = omega arith;
        pending = fair.pending;
        topped = omega arith;
        peaked = (let p = fair.peaked in let g = mosts_grow w most.0 in omega arith);
        spent = λ dead. absurd (omega arith);
      }

  -- as much as is in use after the seat's `most` grew by what it added, all seats have asked for
  passes : (k : ℕ) → v.pending ≡ 0 → k ≤ greatest_take → seen < 2 ^ 61 → PoolRule cap (stepped s 0 ((seen + k) % 2 ^ 64) id [] (refused k seen v) keeps)
  passes k idle small bound =
      let w = refused k seen v in
      let fair = fair_now in
      let word = h.word in
      let most = most_is v.most (v.held + k) in
      let before : (i : ℕ) (u : SeatView) → get_elem? s.views i ≡ some u → added_by u ≤ mosts u = λ i u e. (h.each i u e).topped in
      let least : seen + k ≤ sum_by mosts (set s.views id w) =
      (let e = sum_by-at_set added_by s.views id v w at in
      let fits = sum_by-mono added_by mosts (set s.views id w) (λ i u e'. ⊎_elim
      (λ (x : (i ≡ id) × (w ≡ u)). subst (λ (y : SeatView). added_by y ≤ mosts y) x.1 (omega arith))
      (λ (x : (i ≢ id) × (get_elem? s.views i ≡ some u)). before i u x.1)
      (at_set s.views id i w u e')) in
      omega arith) in
      moved cap s id _ v w h at
      (let e = added_word seen k (omega arith) in omega arith)
      (let e = h.held in omega arith)
      (omega arith)
      most.0
      record {
        once = fair.once;
        of_pool = fair.of_pool;
        held = fair.held;
        pending = small;
        topped = omega arith;
        peaked = max_within v.peak (seen + k) _ (let p = fair.peaked in let g = mosts_grow w most.0 in omega arith) least;
        spent = λ dead. absurd (omega arith);
      }

  undoes : (k : ℕ) → k ≤ v.pending → seen < 2 ^ 64 → PoolRule cap (stepped s 0 ((seen + (2 ^ 64 - k)) % 2 ^ 64) id [] (undone k v) keeps)
  undoes k enough range =
      let w = undone k v in
      let fair = fair_now in
      let word = h.word in
      let mine = at_most_sum added_by s.views id v at in
      moved cap s id _ v w h at
      (let e = less_word seen k range (omega arith) in omega arith)
      (let e = h.held in omega arith)
      (omega arith)
      (omega arith)
      record {
        once = fair.once;
        of_pool = fair.of_pool;
        held = fair.held;
        pending = (let p = fair.pending in omega arith);
        topped = (let p = fair.topped in omega arith);
        peaked = (let p = fair.peaked in let g = mosts_grow w (omega arith) in omega arith);
        spent = λ dead. absurd (omega arith);
      }

  releases : (k : ℕ) → k ≤ v.held → seen < 2 ^ 64 → PoolRule cap (stepped s 0 ((seen + (2 ^ 64 - k)) % 2 ^ 64) id [] (released k v) keeps)
  releases k enough range =
      let w = released k v in
      let fair = fair_now in
      let word = h.word in
      let mine = at_most_sum added_by s.views id v at in
      moved cap s id _ v w h at
      (let e = less_word seen k range (omega arith) in omega arith)
      (let e = h.held in omega arith)
      (omega arith)
      (omega arith)
      record {
        once = fair.once;
        of_pool = fair.of_pool;
        held = (let p = fair.held in omega arith);
        pending = fair.pending;
        topped = (let p = fair.topped in omega arith);
        peaked = (let p = fair.peaked in let g = mosts_grow w (omega arith) in omega arith);
        spent = λ dead. absurd (omega arith);
      }

  looks : PoolRule cap (stepped s 0 seen id [] v keeps)
  looks =
      let fair = fair_now in
      moved cap s id _ v v h at
      refl
      (let e = h.held in omega arith)
      (omega arith)
      (omega arith)
      record {
        once = fair.once;
        of_pool = fair.of_pool;
        held = fair.held;
        pending = fair.pending;
        topped = fair.topped;
        peaked = (let p = fair.peaked in let g = mosts_grow v (omega arith) in omega arith);
        spent = fair.spent;
      }

module _ (cap slots id : ℕ) (me : Me (Unit {0}) SeatView) where
  -- what a step owes that makes the word n and gives the seat the view w, told as `then` says
  abbrev Owes : State (Unit {0}) SeatView → ℕ → (ℕ → Me (Unit {0}) SeatView → Type 0) → Type 0
  Owes s n told = (w : SeatView) × (a : Act (Unit {0})) × Valid s.homes me.1 a × PoolRule cap (stepped s 0 n id me.1 w a) × told (slice_index s.words 0) (w, carried_after me.1 a)

  pub allows_takes : (k : ℕ) → IsResting me → k ≤ greatest_take → Allows (PoolRule cap) slots id me 0 (λ n. (n + k) % 2 ^ 64) (Takes (step slots 0 k 0 none) me)
  allows_takes k rest small s h slots_are at range = by_room (dec_le (found + k) cap)
    where
      v : SeatView
      v = me.0

      found : ℕ
      found = slice_index s.words 0

      same : v.cap ≡ cap
      same = (h.each id v at).of_pool rest.live

      bound : found < 2 ^ 61
      bound = let b = in_use cap s h in let c = h.capacity in omega arith

      shown : (table : TableId) → Sees found (seated_of table v)
      shown = sees cap s id v h at rest.live rest.idle

      by_room : Dec (found + k ≤ cap) → Owes s ((found + k) % 2 ^ 64) (Takes (step slots 0 k 0 none) me)
      by_room (yes p) = (
        granted k v,
        keeps,
        tt,
        fits cap s id v h at rest.live k rest.idle p,
        (record { small = bound; sees = shown; fits = λ _. refl; passes = λ q. absurd (omega (arith, same)) }, refl),
      )
      by_room (no p) = (
        refused k found v,
        keeps,
        tt,
        passes cap s id v h at rest.live k rest.idle small bound,
        (record { small = bound; sees = shown; fits = λ q. absurd (p (omega (arith, same))); passes = λ _. refl }, refl),
      )

  pub allows_undoes : (k : ℕ) → me.0.live ≡ 1 → k ≤ me.0.pending → Allows (PoolRule cap) slots id me 0 (λ n. (n + (2 ^ 64 - k)) % 2 ^ 64) (Undoes (step slots 0 k 0 none) me)
  allows_undoes k live enough s h slots_are at range = (undone k me.0, keeps, tt, undoes cap s id me.0 h at live k enough range, refl)

  pub allows_releases : (k : ℕ) → me.0.live ≡ 1 → k ≤ me.0.held → Allows (PoolRule cap) slots id me 0 (λ n. (n + (2 ^ 64 - k)) % 2 ^ 64) (Releases (step slots 0 k 0 none) me)
  allows_releases k live enough s h slots_are at range = (released k me.0, keeps, tt, releases cap s id me.0 h at live k enough range, refl)

  pub allows_looks : IsResting me → Allows (PoolRule cap) slots id me 0 (λ n. n) (Looks (step slots 0 0 0 none) me)
  allows_looks rest s h slots_are at range = (me.0, keeps, tt, looks cap s id me.0 h at rest.live, (sees cap s id me.0 h at rest.live rest.idle, refl))

-- a new seat has one of the places of the seat that it is split from
pub splits : (cap id : ℕ) (v : SeatView) → v.live ≡ 1 → 1 ≤ v.may_split → Splits (PoolRule cap) id v (left_view v) (new_view v)
splits cap id v live some_left s h at = record {
  one_word = h.one_word;
  capacity = h.capacity;
  word = (let e = h.word in omega (arith, sum_is added_by));
  held = (let e = h.held in omega (arith, sum_is holding));
  seats = (let e = h.seats in omega (arith, sum_is seats_of));
  each = λ j u e. ⊎_elim
      (λ there. ⊎_elim
      (λ (x : (j ≡ id) × (left_view v ≡ u)). subst (IsFairSeat cap most) x.1 left_fair)
      (λ (x : (j ≢ id) × (get_elem? s.views j ≡ some u)). other u (h.each j u x.1))
      (at_set s.views id j (left_view v) u there))
      (λ (same : new_view v ≡ u). subst (IsFairSeat cap most) same new_fair)
      (at_snoc (set s.views id (left_view v)) (new_view v) u j e);
}
  where
    fair : IsFairSeat cap (sum_by mosts s.views) v
    fair = h.each id v at

    most : ℕ
    most = sum_by mosts (set s.views id (left_view v) ++ new_view v ∷ [])

    sum_is : (f : SeatView → ℕ) → sum_by f (set s.views id (left_view v) ++ new_view v ∷ []) + f v ≡ sum_by f s.views + f (left_view v) + f (new_view v)
    sum_is f = omega (arith, sum_by_push f (set s.views id (left_view v)) (new_view v), sum_by-at_set f s.views id v (left_view v) at)

    same_most : most ≡ sum_by mosts s.views
    same_most = omega (arith, sum_is mosts)

    other : (u : SeatView) → IsFairSeat cap (sum_by mosts s.views) u → IsFairSeat cap most u
    other u f = subst (λ m. IsFairSeat cap m u) (sym same_most) f

    left_fair : IsFairSeat cap most (left_view v)
    left_fair = record { once = fair.once; of_pool = fair.of_pool; held = fair.held; pending = fair.pending; topped = fair.topped; peaked = (let p = fair.peaked in omega (arith, same_most)); spent = λ dead. absurd (omega arith) }

    new_fair : IsFairSeat cap most (new_view v)
    new_fair = record { once = lit≤ tt; of_pool = λ _. fair.of_pool live; held = omega arith; pending = lit≤ tt; topped = lit≤ tt; peaked = omega arith; spent = λ dead. absurd (omega arith) }

-- a seat that is joined to another hands on its numbers and its place
pub joins : (cap id : ℕ) (v : SeatView) (other : ℕ) (w : SeatView) → v.live ≡ 1 → v.pending ≡ 0 → w.live ≡ 1 → w.pending ≡ 0 → Joins (PoolRule cap) id v other w (joined_view v w) spent_view
joins cap id v other w live idle live' idle' s h at apart there = record {
  one_word = h.one_word;
  capacity = h.capacity;
  word = (let e = h.word in omega (arith, sum_is added_by));
  held = (let e = h.held in omega (arith, sum_is holding));
  seats = (let e = h.seats in omega (arith, sum_is seats_of));
  each = λ j u e. ⊎_elim
      (λ (x : (j ≡ other) × (spent_view ≡ u)). subst (IsFairSeat cap most) x.1 spent_fair)
      (λ (x : (j ≢ other) × (get_elem? (set s.views id both) j ≡ some u)). ⊎_elim
      (λ (y : (j ≡ id) × (both ≡ u)). subst (IsFairSeat cap most) y.1 both_fair)
      (λ (y : (j ≢ id) × (get_elem? s.views j ≡ some u)). old u (h.each j u y.1))
      (at_set s.views id j both u x.1))
      (at_set (set s.views id both) other j spent_view u e);
}
  where
    both : SeatView
    both = joined_view v w

    after : List SeatView
    after = set (set s.views id both) other spent_view

    most : ℕ
    most = sum_by mosts after

    sum_is : (f : SeatView → ℕ) → sum_by f after + f v + f w ≡ sum_by f s.views + f both + f spent_view
    sum_is f = omega (arith, sum_by-at_set f (set s.views id both) other w spent_view there, sum_by-at_set f s.views id v both at)

    same_most : most ≡ sum_by mosts s.views
    same_most = omega (arith, sum_is mosts)

    first : IsFairSeat cap (sum_by mosts s.views) v
    first = h.each id v at

    second : IsFairSeat cap (sum_by mosts s.views) w
    second = h.each other w (⊎_elim
        (λ (x : (other ≡ id) × (both ≡ w)). absurd (apart x.0))
        (λ (x : (other ≢ id) × (get_elem? s.views other ≡ some w)). x.1)
        (at_set s.views id other both w there))

    old : (u : SeatView) → IsFairSeat cap (sum_by mosts s.views) u → IsFairSeat cap most u
    old u f = subst (λ m. IsFairSeat cap m u) (sym same_most) f

    here : get_elem? after id ≡ some both
    here = set_else (set s.views id both) other id spent_view (λ e. apart (sym e)) ∙ at_set_here s.views id v both at

    both_fair : IsFairSeat cap most both
    both_fair = record {
      once = first.once;
      of_pool = first.of_pool;
      held = (let e = h.held in let part = at_most_sum holding after id both here in omega (arith, sum_is holding));
      pending = first.pending;
      topped = (let p = first.topped in let q = second.topped in omega arith);
      peaked = max_within v.peak w.peak most (let p = first.peaked in omega (arith, same_most)) (let p = second.peaked in omega (arith, same_most));
      spent = λ dead. absurd (omega arith);
    }

    spent_fair : IsFairSeat cap most spent_view
    spent_fair = record { once = lit≤ tt; of_pool = λ l. absurd (omega arith); held = omega arith; pending = lit≤ tt; topped = lit≤ tt; peaked = omega arith; spent = λ _. refl }
