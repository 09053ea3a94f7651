-- What a join keeps of its rows is kept.
use Rattle.std.proofs.Common.{◌≡◌, ◌<◌, ◌+◌, ◌++◌, ℕ, List, [], ◌∷◌, length, get_or, set, All, Option, Some, None, option_map, inl, inr, refl, sym, ap, subst, ◌∙◌, arith}
use Rattle.std.proofs.lemmas.Nat.{mod_below}
use Rattle.std.proofs.lemmas.Bool.{cases_eq, cases_order}
use Rattle.std.proofs.lemmas.List.{get_or_default, get_or-set_other, get_or-set_same, length-set}
use Rattle.std.proofs.lemmas.List.Elements.{All-push}
use Rattle.std.proofs.lemmas.List.Quantifiers.{all_pairs_push}
use Rattle.med_prelude.specs.Texts.{Bytes}
use Rattle.tuple_core.specs.Hashing.{bucket_of, byte_hash}
use Rattle.tuple_core.specs.Encoding.{row_encoding}
use Rattle.tuple_core.specs.Values.{FitsRow, RowValues}
use Rattle.row_match.specs.Shapes.{Shape, key_row, vars_of}
use Rattle.row_match.specs.declared.shape.Side.{Side}
use Rattle.row_match.specs.declared.shape.Side.TheVariants as side
use Rattle.bucket_store.specs.Held.{ArePlaced, Held, HeldList, rows_in, with_row}
use Rattle.bucket_store.specs.Addresses.{KeyAddress, address_of}
use Rattle.bucket_store.proofs.Keeping.{belong_more, placed_set}
use Rattle.join_core.specs.Kept.{AreRising, IsHeld, IsJoin, IsProbing, IsSide, facing_rows}
use Rattle.join_core.specs.Sides.{TwoSides, buckets_on, opposite, probing_of, with_buckets}
use Rattle.join_core.specs.declared.probe.Probe.{Probe}
use Rattle.join_core.proofs.Pointwise.{Faces}

-- ---- a row comes

pub held_older : (sd : Side) (shape : Shape) (next : ℕ) (held : Held) → IsHeld sd shape next held → IsHeld sd shape (next + 1) held
held_older sd shape next held h = record { key_is = h.key_is; wide = h.wide; fits = h.fits; earlier = let l = h.earlier in omega arith }

side_older : (sd : Side) (shape : Shape) (next : ℕ) (buckets : List HeldList) → IsSide sd shape next buckets → IsSide sd shape (next + 1) buckets
side_older sd shape next buckets h = record { placed = h.placed; each = λ b l k d i. held_older sd shape next _ (h.each b l k d i); rising = h.rising }

pub bucket_inside : (buckets : List HeldList) (key : Bytes) → ArePlaced buckets → bucket_of (length buckets) key < length buckets
bucket_inside buckets key h = mod_below (byte_hash key) (length buckets) h.some

side_more : (sd : Side) (shape : Shape) (next : ℕ) (buckets : List HeldList) (held : Held) → IsSide sd shape next buckets → IsHeld sd shape (next + 1) held → held.number ≡ next → IsSide sd shape (next + 1) (with_row buckets held)
side_more sd shape next buckets held h new number = record {
  placed = placed_set buckets bucket more h.placed (belong_more (length buckets) bucket (rows_in buckets bucket) held (h.placed.each bucket inside) refl);
  each = λ b l. at_bucket (λ rows. All (IsHeld sd shape (next + 1)) rows) b
      (All-push (IsHeld sd shape (next + 1)) (rows_in buckets bucket) held (λ k d i. held_older sd shape next _ (h.each bucket inside k d i)) new)
      (λ k d i. held_older sd shape next _ (h.each b (there b l) k d i));
  rising = λ b l. at_bucket AreRising b
      (all_pairs_push (λ x y. x.number < y.number) (rows_in buckets bucket) held (h.rising bucket inside) (λ k d i. let e = (h.each bucket inside k d i).earlier in omega (arith, e, number)))
      (h.rising b (there b l));
}
  where
    bucket : ℕ
    bucket = bucket_of (length buckets) held.key

    more : HeldList
    more = rows_in buckets bucket ++ held ∷ []

    inside : bucket < length buckets
    inside = bucket_inside buckets held.key h.placed

    there : (b : ℕ) → b < length (set buckets bucket more) → b < length buckets
    there b l = omega (arith, l, length-set buckets bucket more)

    at_bucket : (P : HeldList → Type 0) (b : ℕ) → P more → P (rows_in buckets b) → P (rows_in (set buckets bucket more) b)
    at_bucket P b p q = elim (cases_eq b bucket) [
      | inl same ↦ subst (λ x. P (rows_in (set buckets bucket more) x)) (sym same) (subst P (sym (get_or-set_same buckets bucket more [] inside)) p)
      | inr other ↦ subst P (sym (get_or-set_other buckets bucket b more [] other)) q
    ]

-- ---- the probe and what faces it

abbrev pub own_of : Bytes → Probe → Held
own_of key p = record { key = key; row = p.row; number = p.number }

pub side_on : (sd : Side) (shape : Shape) (sides : TwoSides) (next : ℕ) → IsSide side.Left shape next sides.left → IsSide side.Right shape next sides.right → IsSide sd shape next (buckets_on sd sides)
side_on side.Left shape sides next l r = l
side_on side.Right shape sides next l r = r

many_on : (sd : Side) (sides : TwoSides) → length sides.left ≡ length sides.right → length (buckets_on (opposite sd) sides) ≡ length (buckets_on sd sides)
many_on side.Left sides e = sym e
many_on side.Right sides e = e

bucket_is : {shape : Shape} {sides : TwoSides} {next : ℕ} {key : Bytes} {p : Probe} → IsProbing shape sides next key p → p.address.bucket ≡ bucket_of (length (buckets_on p.side sides)) key
bucket_is h = ap (λ (a : KeyAddress). a.bucket) h.address_is

pub faces : (shape : Shape) (sides : TwoSides) (next : ℕ) (key : Bytes) (p : Probe) → IsSide side.Left shape next sides.left → IsSide side.Right shape next sides.right → length sides.left ≡ length sides.right
    → IsProbing shape sides next key p → Faces (buckets_on p.side sides) (buckets_on (opposite p.side) sides) (probing_of p) (own_of key p) p.place
faces shape sides next key p l r many h = record {
  mine_placed = mine.placed;
  theirs_placed = theirs.placed;
  many = many_on p.side sides many;
  inside = inside;
  mine_rising = mine.rising p.address.bucket inside;
  theirs_rising = theirs.rising p.address.bucket (omega (arith, inside, many_on p.side sides many));
  others = h.others;
  last = h.own;
  number_is = refl;
  bucket_is = sym (bucket_is h);
  behind = h.behind;
  ahead = h.ahead;
}
  where
    mine : IsSide p.side shape next (buckets_on p.side sides)
    mine = side_on p.side shape sides next l r

    theirs : IsSide (opposite p.side) shape next (buckets_on (opposite p.side) sides)
    theirs = side_on (opposite p.side) shape sides next l r

    inside : p.address.bucket < length (buckets_on p.side sides)
    inside = subst (λ b. b < length (buckets_on p.side sides)) (sym (bucket_is h)) (bucket_inside (buckets_on p.side sides) key mine.placed)

-- the facing rows, in the words of the call that finds them
pub facing_is : (shape : Shape) (sides : TwoSides) (next : ℕ) (key : Bytes) (p : Probe) → length sides.left ≡ length sides.right → IsProbing shape sides next key p
    → bucket_of (length (buckets_on (opposite p.side) sides)) key ≡ p.address.bucket
facing_is shape sides next key p many h = ap (λ n. bucket_of n key) (many_on p.side sides many) ∙ sym (bucket_is h)

-- the probe goes on behind the place where a match was found
pub probing_on : (shape : Shape) (sides : TwoSides) (next : ℕ) (key : Bytes) (p after : Probe) (at : ℕ) (partner : Held) → IsProbing shape sides next key p
    → AreRising (facing_rows sides p) → at < length (facing_rows sides p) → get_or (facing_rows sides p) at partner ≡ partner
    → after ≡ record p { place = at + 1; from = partner.number + 1 } → IsProbing shape sides next key after
probing_on shape sides next key p after at partner h rising inside is moved = subst (IsProbing shape sides next key) (sym moved) (record {
  last = h.last;
  key_is = h.key_is;
  address_is = h.address_is;
  others = h.others;
  own = h.own;
  behind = λ k d l i. elim (cases_order k at) [
    | inl same ↦ omega (arith, ap (λ (x : Held). x.number) (ap (λ n. get_or (facing_rows sides p) n d) same ∙ here d))
    | inr (inl below) ↦ (let r = rising k at d below inside in omega (arith, r, ap (λ (x : Held). x.number) (here d)))
    | inr (inr above) ↦ absurd (omega (arith, l, above))
  ];
  ahead = λ k d l i. let r = rising at k d (omega (arith, l)) i in omega (arith, r, ap (λ (x : Held). x.number) (here d));
})
  where
    here : (d : Held) → get_or (facing_rows sides p) at d ≡ partner
    here d = get_or_default (facing_rows sides p) at d partner inside ∙ is

-- ---- the row that came is the probe

pub count_kept : (sd : Side) (sides : TwoSides) (held : Held) → length (buckets_on sd (with_buckets sd sides (with_row (buckets_on sd sides) held))) ≡ length (buckets_on sd sides)
count_kept side.Left sides held = length-set sides.left (bucket_of (length sides.left) held.key) (rows_in sides.left (bucket_of (length sides.left) held.key) ++ held ∷ [])
count_kept side.Right sides held = length-set sides.right (bucket_of (length sides.right) held.key) (rows_in sides.right (bucket_of (length sides.right) held.key) ++ held ∷ [])

row_there : (buckets : List HeldList) (held : Held) → ArePlaced buckets → rows_in (with_row buckets held) (bucket_of (length buckets) held.key) ≡ rows_in buckets (bucket_of (length buckets) held.key) ++ held ∷ []
row_there buckets held placed = get_or-set_same buckets (bucket_of (length buckets) held.key) (rows_in buckets (bucket_of (length buckets) held.key) ++ held ∷ []) [] (bucket_inside buckets held.key placed)

module _ (shape : Shape) (sides : TwoSides) (next : ℕ) (key other : Bytes) (row : RowValues) (probe : Option Probe) (h : IsJoin shape sides next other probe) (fits : FitsRow row) where
  new_held : (sd : Side) → key ≡ row_encoding (key_row sd shape row) → length row ≡ length (vars_of sd shape) → IsHeld sd shape (next + 1) (record { key = key; row = row; number = next })
  new_held sd key_is wide = record { key_is = key_is; wide = wide; fits = fits; earlier = omega arith }

  pub keeps_arrival : (sd : Side) → key ≡ row_encoding (key_row sd shape row) → length row ≡ length (vars_of sd shape)
      → IsJoin shape (with_buckets sd sides (with_row (buckets_on sd sides) (record { key = key; row = row; number = next }))) (next + 1) key
      (Some (record { side = sd; row = row; number = next; address = address_of (length (buckets_on sd sides)) key; place = 0; from = 0 }))
  keeps_arrival side.Left key_is wide = record {
    left = side_more side.Left shape next sides.left (record { key = key; row = row; number = next }) h.left (new_held side.Left key_is wide) refl;
    right = side_older side.Right shape next sides.right h.right;
    many = count_kept side.Left sides (record { key = key; row = row; number = next }) ∙ h.many;
    probing = record {
      last = refl;
      key_is = key_is;
      address_is = ap (λ n. address_of n key) (sym (count_kept side.Left sides (record { key = key; row = row; number = next })));
      others = rows_in sides.left (bucket_of (length sides.left) key);
      own = row_there sides.left (record { key = key; row = row; number = next }) h.left.placed;
      behind = λ k d l i. absurd (omega arith);
      ahead = λ k d l i. omega arith;
    };
  }
  keeps_arrival side.Right key_is wide = record {
    left = side_older side.Left shape next sides.left h.left;
    right = side_more side.Right shape next sides.right (record { key = key; row = row; number = next }) h.right (new_held side.Right key_is wide) refl;
    many = h.many ∙ sym (count_kept side.Right sides (record { key = key; row = row; number = next }));
    probing = record {
      last = refl;
      key_is = key_is;
      address_is = ap (λ n. address_of n key) (sym (count_kept side.Right sides (record { key = key; row = row; number = next })));
      others = rows_in sides.right (bucket_of (length sides.right) key);
      own = row_there sides.right (record { key = key; row = row; number = next }) h.right.placed;
      behind = λ k d l i. absurd (omega arith);
      ahead = λ k d l i. omega arith;
    };
  }

pub no_probe : (o : Option Probe) → option_map probing_of o ≡ None → o ≡ None
no_probe None e = refl
no_probe (Some p) e = absurd (let no : Some (probing_of p) ≡ None = e in cc)

-- the probe's address is that of its key among the facing buckets too
pub address_on : (shape : Shape) (sides : TwoSides) (next : ℕ) (key : Bytes) (p : Probe) → length sides.left ≡ length sides.right → IsProbing shape sides next key p
    → p.address ≡ address_of (length (buckets_on (opposite p.side) sides)) key
address_on shape sides next key p many h = h.address_is ∙ ap (λ n. address_of n key) (sym (many_on p.side sides many))
