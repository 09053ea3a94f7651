-- All rows of a side, bucket after bucket.
use Rattle.std.proofs.Common.{◌≡◌, ◌<◌, ◌==◌, ◌++◌, ℕ, zero, suc, Bool, true, false, List, [], ◌∷◌, length, get_or, set, map, flat_map, filter, All, inl, inr, refl, sym, ap, ap₂, ◌∙◌, arith, append-nil, append_assoc}
use Rattle.std.specs.List.{AllByRecursion}
use Rattle.std.specs.Cmp.Lexicographic.{bytes_decides}
use Rattle.std.proofs.lemmas.Bool.{and_parts, cases_order, eq-eqb, eqb-true}
use Rattle.std.proofs.lemmas.List.{get_or_default}
use Rattle.std.proofs.lemmas.List.Elements.{All-from_recursion, recursion_from_All}
use Rattle.answer_theory.specs.Bags.{SameBag}
use Rattle.answer_theory.specs.Pairs.{AlikeOn}
use Rattle.answer_theory.proofs.Bags.{bag_append, bag_from_same, bag_middle, bag_refl, bag_sym, bag_trans, bag_push}
use Rattle.answer_theory.proofs.Lists.{each_append, filter_append, flat_map_map}
use Rattle.med_prelude.specs.Texts.{Bytes}
use Rattle.tuple_core.specs.Hashing.{bucket_of}
use Rattle.bucket_store.specs.Held.{ArePlaced, Held, HeldList, rows_in, same_key}
use Rattle.join_core.specs.Kept.{AreRising}
use Rattle.join_core.specs.State.{open_pile, rows_of}
use Rattle.join_core.specs.Steps.{is_row}

abbrev pub all_in : List HeldList → HeldList
all_in buckets = flat_map (λ rows. rows) buckets

pub rows_open : (buckets : List HeldList) → rows_of (map open_pile buckets) ≡ all_in buckets
rows_open buckets = flat_map_map (λ p. p.rows) open_pile buckets

-- ---- what holds of each row

pub each_in : (P : Held → Type 0) (buckets : List HeldList) → ((b : ℕ) → b < length buckets → All P (rows_in buckets b)) → AllByRecursion P (all_in buckets)
each_in P [] h = tt
each_in P (rows ∷ buckets) h = each_append P rows (all_in buckets) (recursion_from_All P rows (h 0 (omega arith))) (each_in P buckets (λ b l. h (suc b) (omega arith)))

pub alike_in : (lefts rights : List HeldList) (p q : Held → Held → Bool)
    → ((b c : ℕ) → b < length lefts → c < length rights → (k j : ℕ) (d e : Held) → k < length (rows_in lefts b) → j < length (rows_in rights c)
    → p (get_or (rows_in lefts b) k d) (get_or (rows_in rights c) j e) ≡ q (get_or (rows_in lefts b) k d) (get_or (rows_in rights c) j e))
    → AlikeOn (all_in lefts) (all_in rights) p q
alike_in lefts rights p q h =
    All-from_recursion (λ l. All (λ r. p l r ≡ q l r) (all_in rights)) (all_in lefts)
    (each_in (λ l. All (λ r. p l r ≡ q l r) (all_in rights)) lefts (λ b inside k d within.
    All-from_recursion (λ r. p (get_or (rows_in lefts b) k d) r ≡ q (get_or (rows_in lefts b) k d) r) (all_in rights)
    (each_in (λ r. p (get_or (rows_in lefts b) k d) r ≡ q (get_or (rows_in lefts b) k d) r) rights (λ c there j e on. h b c inside there k j d e within on))))

-- tests that answer alike on all rows, and where others do
pub alike_all : (ls rs : HeldList) (p q : Held → Held → Bool) → ((l r : Held) → p l r ≡ q l r) → AlikeOn ls rs p q
alike_all ls rs p q h = λ k d i j e o. h (get_or ls k d) (get_or rs j e)

pub alike_from : (ls rs : HeldList) (p q s t : Held → Held → Bool) → AlikeOn ls rs p q → ((l r : Held) → p l r ≡ q l r → s l r ≡ t l r) → AlikeOn ls rs s t
alike_from ls rs p q s t h f = λ k d i j e o. f (get_or ls k d) (get_or rs j e) (h k d i j e o)

-- ---- a row more

pub more_in : (buckets : List HeldList) (b : ℕ) (held : Held) → b < length buckets → SameBag (all_in (set buckets b (rows_in buckets b ++ held ∷ []))) (all_in buckets ++ held ∷ [])
more_in [] b held inside = absurd (omega arith)
more_in (rows ∷ buckets) zero held inside =
    bag_trans (bag_from_same (append_assoc rows (held ∷ []) (all_in buckets)))
    (bag_trans (bag_middle rows held (all_in buckets)) (bag_sym (bag_push (rows ++ all_in buckets) held)))
more_in (rows ∷ buckets) (suc b) held inside =
    bag_trans (bag_append (bag_refl rows) (more_in buckets b held (omega arith)))
    (bag_from_same (sym (append_assoc rows (all_in buckets) (held ∷ []))))

-- ---- keys

pub same_keys : (x y : Bytes) → same_key x y ≡ true → x ≡ y
same_keys x y e = (bytes_decides x y).0 e

pub keys_same : (x y : Bytes) → x ≡ y → same_key x y ≡ true
keys_same x y e = (bytes_decides x y).1 e

pub bool_from : (b : Bool) → (b ≡ true → ⊥) → b ≡ false
bool_from true h = absurd (h refl)
bool_from false h = refl

pub keys_differ : (x y : Bytes) → (x ≡ y → ⊥) → same_key x y ≡ false
keys_differ x y h = bool_from (same_key x y) (λ e. h (same_keys x y e))

pub keys_turned : (x y : Bytes) → same_key x y ≡ same_key y x
keys_turned x y = go (same_key x y) (same_key y x) (λ e. keys_same y x (sym (same_keys x y e))) (λ e. keys_same x y (sym (same_keys y x e)))
  where
    go : (a b : Bool) → (a ≡ true → b ≡ true) → (b ≡ true → a ≡ true) → a ≡ b
    go true b h k = sym (h refl)
    go false true h k = k refl
    go false false h k = refl

-- ---- the one row

pub is_row_itself : (h : Held) → is_row h h ≡ true
is_row_itself h = rw (keys_same h.key h.key refl) (eq-eqb h.number h.number refl)

pub is_row_parts : (h x : Held) → is_row h x ≡ true → (x.key ≡ h.key) × (x.number ≡ h.number)
is_row_parts h x e = let both = and_parts (same_key x.key h.key) (x.number == h.number) e in (same_keys x.key h.key both.0, eqb-true x.number h.number both.1)

pub is_no_row : (h x : Held) → (x.key ≡ h.key → x.number ≡ h.number → ⊥) → is_row h x ≡ false
is_no_row h x other = bool_from (is_row h x) (λ e. let both = is_row_parts h x e in other both.0 both.1)

-- rows of one bucket that lie at one place have one number, and only they
pub one_place : (rows : HeldList) (k j : ℕ) (d e : Held) → AreRising rows → k < length rows → j < length rows → (get_or rows k d).number ≡ (get_or rows j e).number → k ≡ j
one_place rows k j d e rising inside there same = elim (cases_order k j) [
  | inl at ↦ at
  | inr (inl below) ↦ absurd (let l = rising k j d below there in omega (arith, default_at j there, same))
  | inr (inr above) ↦ absurd (let l = rising j k d above inside in omega (arith, default_at j there, same))
]
  where
    default_at : (i : ℕ) → i < length rows → (get_or rows i d).number ≡ (get_or rows i e).number
    default_at i l = ap (λ (x : Held). x.number) (get_or_default rows i d e l)

filter_none : (test : Held → Bool) (rows : HeldList) → All (λ x. test x ≡ false) rows → filter test rows ≡ []
filter_none test [] h = refl
filter_none test (x ∷ rows) h = rw (h 0 x (omega arith)) (filter_none test rows (λ k d l. h (suc k) d (omega arith)))

filter_one : (test : Held → Bool) (rows : HeldList) (k : ℕ) (d : Held) → k < length rows → test (get_or rows k d) ≡ true → ((j : ℕ) (e : Held) → j < length rows → (j ≡ k → ⊥) → test (get_or rows j e) ≡ false)
    → filter test rows ≡ get_or rows k d ∷ []
filter_one test [] k d inside passes h = absurd (omega arith)
filter_one test (x ∷ rows) zero d inside passes h = rw passes (ap (λ xs. x ∷ xs) (filter_none test rows (λ j e l. h (suc j) e (omega arith) (λ same. omega arith))))
filter_one test (x ∷ rows) (suc k) d inside passes h = rw (h 0 x (omega arith) (λ same. omega arith)) (filter_one test rows k d (omega arith) passes (λ j e l other. h (suc j) e (omega arith) (λ same. other (omega arith))))

filter_in : (test : Held → Bool) (buckets : List HeldList) (b : ℕ) (found : HeldList) → b < length buckets → filter test (rows_in buckets b) ≡ found
    → ((c : ℕ) → c < length buckets → (c ≡ b → ⊥) → filter test (rows_in buckets c) ≡ []) → filter test (all_in buckets) ≡ found
filter_in test [] b found inside here others = absurd (omega arith)
filter_in test (rows ∷ buckets) zero found inside here others =
    filter_append test rows (all_in buckets)
    ∙ ap₂ (λ xs ys. xs ++ ys) here (none_in buckets (λ c l. others (suc c) (omega arith) (λ same. omega arith)))
    ∙ append-nil found
  where
    none_in : (more : List HeldList) → ((c : ℕ) → c < length more → filter test (rows_in more c) ≡ []) → filter test (all_in more) ≡ []
    none_in [] h = refl
    none_in (rows ∷ more) h = filter_append test rows (all_in more) ∙ ap₂ (λ xs ys. xs ++ ys) (h 0 (omega arith)) (none_in more (λ c l. h (suc c) (omega arith)))
filter_in test (rows ∷ buckets) (suc b) found inside here others =
    filter_append test rows (all_in buckets)
    ∙ ap₂ (λ xs ys. xs ++ ys) (others 0 (omega arith) (λ same. omega arith)) (filter_in test buckets b found (omega arith) here (λ c l other. others (suc c) (omega arith) (λ same. other (omega arith))))

-- a row of a side is there once
pub row_once : (buckets : List HeldList) (b k : ℕ) (d : Held) → ArePlaced buckets → b < length buckets → AreRising (rows_in buckets b) → k < length (rows_in buckets b)
    → filter (is_row (get_or (rows_in buckets b) k d)) (all_in buckets) ≡ get_or (rows_in buckets b) k d ∷ []
row_once buckets b k d placed inside rising there =
    filter_in (is_row row) buckets b (row ∷ []) inside
    (filter_one (is_row row) (rows_in buckets b) k d there (is_row_itself row) (λ j e on other. is_no_row row (get_or (rows_in buckets b) j e) (λ key number. other (one_place (rows_in buckets b) j k e d rising on there number))))
    (λ c on other. filter_none (is_row row) (rows_in buckets c) (λ j e l. is_no_row row (get_or (rows_in buckets c) j e) (λ key number.
    other (sym (placed.each c on j e l) ∙ (ap (bucket_of (length buckets)) key ∙ placed.each b inside k d there)))))
  where
    row : Held
    row = get_or (rows_in buckets b) k d
