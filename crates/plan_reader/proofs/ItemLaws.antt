-- Names that stand twice, item by item.
use Rattle.std.proofs.Common.{◌≡◌, ℕ, ◌+◌, ◌<◌, ◌≤◌, Bool, true, false, not, ◌||◌, List, [], ◌∷◌, ◌++◌, Bor, map, take, drop, length, get_or, Option, Some, None, if◌then◌else◌, append_assoc, append-nil, arith, refl, sym, ap, ◌∙◌}
use Rattle.std.specs.Prelude.{nat_le}
use Rattle.std.specs.List.{AllByRecursion, cons_option, filter_map, list_any}
use Rattle.std.proofs.lemmas.List.Elements.{filter_map-append}
use Rattle.std.proofs.lemmas.List.{drop_more, take_more, map-append}
use Rattle.text_reading.specs.Faults.{broken_if}
use Rattle.text_reading.specs.Order.{least}
use Rattle.text_reading.proofs.FaultLaws.{from_below, lesser_front}
use Rattle.plan_reader.specs.Items.{doubled, doubled_after, has_doubled}
use Rattle.plan_reader.specs.Words.{same_text}

not_true : (b : Bool) → true ≡ not b → b ≡ false
not_true true e = e
not_true false e = refl

not_false : (b : Bool) → false ≡ not b → b ≡ true
not_false true e = refl
not_false false e = e

abbrev pub all_of : {K : Type 0} → List (List K) → List K
all_of [] = []
all_of (names ∷ lists) = names ++ all_of lists

all_of-append : {K : Type 0} (xs : List (List K)) (names : List K) → all_of (xs ++ names ∷ []) ≡ all_of xs ++ names
all_of-append [] names = append-nil names
all_of-append (x ∷ xs) names = ap (λ more. x ++ more) (all_of-append xs names) ∙ sym (append_assoc x (all_of xs) names)

module _ {K : Type 0} (same : K → K → Bool) where
  abbrev is_among : K → List K → Bool
  is_among name names = list_any (same name) names

  -- one name more

  module _ (before names keys : List K) (k : ℕ) (d : K) (inside : k < length names) (seen : keys ≡ before ++ take k names) where
    opened : has_doubled same (before ++ take k names) (drop k names)
        ≡ (is_among (get_or names k d) (before ++ take k names) || has_doubled same ((before ++ take k names) ++ get_or names k d ∷ []) (drop (k + 1) names))
    opened = rw (drop_more names k d inside) refl

    grown : (before ++ take k names) ++ get_or names k d ∷ [] ≡ before ++ take (k + 1) names
    grown = append_assoc before (take k names) (get_or names k d ∷ []) ∙ ap (λ xs. before ++ xs) (sym (take_more names k d inside))

    pub put_seen : (is_new : Bool) (after : List K) → is_new ≡ not (is_among (get_or names k d) keys) → is_new ≡ true
        → after ≡ (if is_among (get_or names k d) keys then keys else keys ++ get_or names k d ∷ []) → after ≡ before ++ take (k + 1) names
    put_seen is_new after added new kept =
        kept ∙ rw (not_true _ (sym new ∙ added)) (ap (λ xs. xs ++ get_or names k d ∷ []) seen ∙ grown)

    pub put_none : (is_new : Bool) → is_new ≡ not (is_among (get_or names k d) keys) → is_new ≡ true
        → has_doubled same (before ++ take k names) (drop k names) ≡ has_doubled same before names
        → has_doubled same (before ++ take (k + 1) names) (drop (k + 1) names) ≡ has_doubled same before names
    put_none is_new added new none =
        let fresh : is_among (get_or names k d) (before ++ take k names) ≡ false = ap (is_among (get_or names k d)) (sym seen) ∙ not_true _ (sym new ∙ added) in
        ap (λ xs. has_doubled same xs (drop (k + 1) names)) (sym grown)
        ∙ ap (λ b. b || has_doubled same ((before ++ take k names) ++ get_or names k d ∷ []) (drop (k + 1) names)) (sym fresh) ∙ sym opened ∙ none

    pub put_old : (is_new : Bool) → is_new ≡ not (is_among (get_or names k d) keys) → is_new ≡ false
        → has_doubled same (before ++ take k names) (drop k names) ≡ has_doubled same before names
        → false ≡ not (has_doubled same before names)
    put_old is_new added old none =
        let stands : is_among (get_or names k d) (before ++ take k names) ≡ true = ap (is_among (get_or names k d)) (sym seen) ∙ not_false _ (sym old ∙ added) in
        let found : has_doubled same before names ≡ true = sym none ∙ opened ∙ rw stands refl in
        ap not (sym found)

  pub put_end : (before names : List K) → has_doubled same (before ++ take (length names) names) (drop (length names) names) ≡ has_doubled same before names
      → drop (length names) names ≡ [] → true ≡ not (has_doubled same before names)
  put_end before names none left =
      let found : has_doubled same before names ≡ false = sym none ∙ ap (has_doubled same (before ++ take (length names) names)) left in
      ap not (sym found)

  -- one item more

  doubled_from : (before : List K) (n : ℕ) (lists : List (List K)) → AllByRecursion (λ k. n ≤ k) (doubled_after same before n lists)
  doubled_from before n [] = tt
  doubled_from before n (names ∷ lists) =
      by (has_doubled same before names) (from_below n (n + 1) _ (omega arith) (doubled_from (before ++ names) (n + 1) lists))
    where
      by : (b : Bool) → AllByRecursion (λ k. n ≤ k) (doubled_after same (before ++ names) (n + 1) lists)
          → AllByRecursion (λ k. n ≤ k) (broken_if b n ++ doubled_after same (before ++ names) (n + 1) lists)
      by true later = (omega arith, later)
      by false later = later

  module _ (lists : List (List K)) (keys : List K) (k : ℕ) (d : List K) (inside : k < length lists) (seen : keys ≡ all_of (take k lists)) where
    next : doubled_after same (all_of (take k lists)) k (drop k lists)
        ≡ broken_if (has_doubled same (all_of (take k lists)) (get_or lists k d)) k ++ doubled_after same (all_of (take k lists) ++ get_or lists k d) (k + 1) (drop (k + 1) lists)
    next = rw (drop_more lists k d inside) refl

    larger : all_of (take k lists) ++ get_or lists k d ≡ all_of (take (k + 1) lists)
    larger = sym (ap all_of (take_more lists k d inside) ∙ all_of-append (take k lists) (get_or lists k d))

    pub items_seen : (after : List K) → after ≡ keys ++ get_or lists k d → after ≡ all_of (take (k + 1) lists)
    items_seen after kept = kept ∙ ap (λ xs. xs ++ get_or lists k d) seen ∙ larger

    pub items_none : (fresh : Bool) → fresh ≡ not (has_doubled same keys (get_or lists k d)) → fresh ≡ true
        → doubled_after same (all_of (take k lists)) k (drop k lists) ≡ doubled same lists
        → doubled_after same (all_of (take (k + 1) lists)) (k + 1) (drop (k + 1) lists) ≡ doubled same lists
    items_none fresh added new none =
        let no : has_doubled same (all_of (take k lists)) (get_or lists k d) ≡ false = ap (λ xs. has_doubled same xs (get_or lists k d)) (sym seen) ∙ not_true _ (sym new ∙ added) in
        ap (λ xs. doubled_after same xs (k + 1) (drop (k + 1) lists)) (sym larger)
        ∙ ap (λ b. broken_if b k ++ doubled_after same (all_of (take k lists) ++ get_or lists k d) (k + 1) (drop (k + 1) lists)) (sym no) ∙ sym next ∙ none

    pub items_found : (fresh : Bool) → fresh ≡ not (has_doubled same keys (get_or lists k d)) → fresh ≡ false
        → doubled_after same (all_of (take k lists)) k (drop k lists) ≡ doubled same lists
        → Some k ≡ least nat_le (doubled same lists)
    items_found fresh added old none =
        let stands : has_doubled same (all_of (take k lists)) (get_or lists k d) ≡ true = ap (λ xs. has_doubled same xs (get_or lists k d)) (sym seen) ∙ not_false _ (sym old ∙ added) in
        let rest : List ℕ = doubled_after same (all_of (take k lists) ++ get_or lists k d) (k + 1) (drop (k + 1) lists) in
        sym (ap (least nat_le) (sym none ∙ next ∙ ap (λ b. broken_if b k ++ rest) stands)
        ∙ lesser_front k rest (from_below k (k + 1) rest (omega arith) (doubled_from (all_of (take k lists) ++ get_or lists k d) (k + 1) (drop (k + 1) lists))))

-- texts that references point to

abbrev pub same_seen : Bor (List ℕ) → Bor (List ℕ) → Bool
same_seen a b = same_text a.now b.now

abbrev pub texts : List (Bor (List ℕ)) → List (List ℕ)
texts names = map (λ (n : Bor (List ℕ)). n.now) names

among_texts : (name : Bor (List ℕ)) (names : List (Bor (List ℕ))) → list_any (same_text name.now) (texts names) ≡ list_any (same_seen name) names
among_texts name [] = refl
among_texts name (n ∷ names) = ap (λ b. same_text name.now n.now || b) (among_texts name names)

texts_doubled : (before names : List (Bor (List ℕ))) → has_doubled same_text (texts before) (texts names) ≡ has_doubled same_seen before names
texts_doubled before [] = refl
texts_doubled before (n ∷ names) =
    ap (λ b. b || has_doubled same_text (texts before ++ n.now ∷ []) (texts names)) (among_texts n before)
    ∙ ap (λ b. list_any (same_seen n) before || b) (ap (λ xs. has_doubled same_text xs (texts names)) (sym (map-append (λ (m : Bor (List ℕ)). m.now) before (n ∷ []))) ∙ texts_doubled (before ++ n ∷ []) names)

texts_doubled_after : (before : List (Bor (List ℕ))) (k : ℕ) (lists : List (List (Bor (List ℕ)))) → doubled_after same_text (texts before) k (map texts lists) ≡ doubled_after same_seen before k lists
texts_doubled_after before k [] = refl
texts_doubled_after before k (names ∷ lists) =
    ap (λ b. broken_if b k ++ doubled_after same_text (texts before ++ texts names) (k + 1) (map texts lists)) (texts_doubled before names)
    ∙ ap (λ xs. broken_if (has_doubled same_seen before names) k ++ xs) (ap (λ xs. doubled_after same_text xs (k + 1) (map texts lists)) (sym (map-append (λ (m : Bor (List ℕ)). m.now) before names)) ∙ texts_doubled_after (before ++ names) (k + 1) lists)

pub doubled_texts : (lists : List (List (Bor (List ℕ)))) → doubled same_text (map texts lists) ≡ doubled same_seen lists
doubled_texts lists = texts_doubled_after [] 0 lists

-- one more of a list that is taken from

pub step_found : {A B : Type 0} (h : A → Option B) (ys : List A) (y : A) (x : B) (so_far after : List B) → h y ≡ Some x → so_far ≡ filter_map h ys → after ≡ so_far ++ x ∷ [] → after ≡ filter_map h (ys ++ y ∷ [])
step_found h ys y x so_far after is kept more =
    more ∙ ap (λ xs. xs ++ x ∷ []) kept ∙ ap (λ m. filter_map h ys ++ cons_option m []) (sym is) ∙ sym (filter_map-append h ys (y ∷ []))

pub step_none : {A B : Type 0} (h : A → Option B) (ys : List A) (y : A) (so_far : List B) → h y ≡ None → so_far ≡ filter_map h ys → so_far ≡ filter_map h (ys ++ y ∷ [])
step_none h ys y so_far is kept =
    kept ∙ sym (append-nil (filter_map h ys)) ∙ ap (λ m. filter_map h ys ++ cons_option m []) (sym is) ∙ sym (filter_map-append h ys (y ∷ []))
