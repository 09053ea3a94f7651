-- Pages that gain bytes keep what lies in them.
use Rattle.std.proofs.Common.{◌≡◌, ◌≢◌, ◌<◌, ◌≤◌, ◌+◌, ◌-◌, ◌++◌, ℕ, suc, List, [], ◌∷◌, length, get_or, set, take, drop, map, refl, sym, ap, ap₂, subst, inl, inr, Result, Ok, Err, OnOk, OnErr, ◌∙◌, arith, append-nil, append_assoc, length-append}
use Rattle.std.specs.List.{All}
use Rattle.std.proofs.lemmas.Bool.{cases_lt, cases_order}
use Rattle.std.proofs.lemmas.List.{get_or-map, get_or-set_same, take_more, get_or-set_other, get_or_append_left, get_or_default, get_or_past, length-set, length-drop, drop-append-le, take-append-le, map-append}
use Rattle.std.proofs.lemmas.List.Elements.{All-push}
use Rattle.med_prelude.specs.Texts.{Bytes}
use Rattle.row_pages.specs.Lying.{Gains, Grows, Lies, page_at, piece_at}
use Rattle.row_pages.specs.declared.pages.Spot.{Spot}

gains_same : (bytes : Bytes) → Gains bytes bytes
gains_same bytes = ([], sym (append-nil bytes))

gains_then : (a b c : Bytes) → Gains a b → Gains b c → Gains a c
gains_then a b c g h = (g.0 ++ h.0, h.1 ∙ ap (λ x. x ++ h.0) g.1 ∙ append_assoc a g.0 h.0)

-- a page that isn't there yet has no bytes that could go
gains_past : (pages : List Bytes) (number : ℕ) (bytes : Bytes) → length pages ≤ number → Gains (page_at pages number) bytes
gains_past pages number bytes past = (bytes, ap (λ x. x ++ bytes) (sym (get_or_past pages number [] past)))

pub grows_same : (pages : List Bytes) → Grows pages pages
grows_same pages = record {
  none_goes = omega arith;
  each = λ number. gains_same (page_at pages number);
}

pub grows_then : (a b c : List Bytes) → Grows a b → Grows b c → Grows a c
grows_then a b c g h = record {
  none_goes = let x = g.none_goes in let y = h.none_goes in omega arith;
  each = λ number. gains_then _ _ _ (g.each number) (h.each number);
}

-- a new page
pub grows_page : (pages : List Bytes) → Grows pages (pages ++ [] ∷ [])
grows_page pages = record {
  none_goes = omega (arith, length-append pages ([] ∷ []));
  each = λ number. elim (cases_lt number (length pages)) [
    | inl inside ↦ subst (Gains (page_at pages number)) (sym (get_or_append_left pages ([] ∷ []) [] number inside)) (gains_same (page_at pages number))
    | inr past ↦ gains_past pages number _ past
  ];
}

-- a page that gains bytes
pub grows_put : (pages : List Bytes) (number : ℕ) (page : Bytes) → number < length pages → Gains (page_at pages number) page → Grows pages (set pages number page)
grows_put pages number page inside gains = record {
  none_goes = omega (arith, length-set pages number page);
  each = λ other. elim (cases_order other number) [
    | inl same ↦ subst (λ n. Gains (page_at pages n) (page_at (set pages number page) n)) (sym same) (subst (Gains (page_at pages number)) (sym (get_or-set_same pages number page [] inside)) gains)
    | inr (inl below) ↦ kept other (λ e. omega (arith, e))
    | inr (inr above) ↦ kept other (λ e. omega (arith, e))
  ];
}
  where
    kept : (other : ℕ) → (other ≢ number) → Gains (page_at pages other) (page_at (set pages number page) other)
    kept other differs = subst (Gains (page_at pages other)) (sym (get_or-set_other pages number other page [] differs)) (gains_same (page_at pages other))

lies_kept : (old new : List Bytes) (spot : Spot) → Grows old new → Lies old spot → Lies new spot
lies_kept old new spot g h =
    let gained = g.each spot.page in
    let size : length (page_at new spot.page) ≡ length (page_at old spot.page) + length gained.0 = ap length gained.1 ∙ length-append (page_at old spot.page) gained.0 in
    record {
      inside = let x = g.none_goes in let y = h.inside in omega arith;
      ordered = h.ordered;
      within = let x = h.within in omega arith;
    }

range_kept : (front rest : Bytes) (start end : ℕ) → start ≤ end → end ≤ length front → take (end - start) (drop start (front ++ rest)) ≡ take (end - start) (drop start front)
range_kept front rest start end ordered within =
    ap (take (end - start)) (drop-append-le start front rest (omega arith))
    ∙ take-append-le (end - start) (drop start front) rest (omega (arith, length-drop start front))

piece_kept : (old new : List Bytes) (spot : Spot) → Grows old new → Lies old spot → piece_at new spot ≡ piece_at old spot
piece_kept old new spot g h =
    let gained = g.each spot.page in
    ap (λ page. take (spot.end - spot.start) (drop spot.start page)) gained.1
    ∙ range_kept (page_at old spot.page) gained.0 spot.start spot.end h.ordered h.within

pub all_kept : (old new : List Bytes) (spots : List Spot) → Grows old new → All (Lies old) spots → All (Lies new) spots
all_kept old new spots g h = λ k d inside. lies_kept old new _ g (h k d inside)

pub pieces_kept : (old new : List Bytes) (spots : List Spot) → Grows old new → All (Lies old) spots → map (piece_at new) spots ≡ map (piece_at old) spots
pieces_kept old new [] g h = refl
pieces_kept old new (spot ∷ spots) g h =
    ap₂ (λ piece pieces. piece ∷ pieces) (piece_kept old new spot g (h 0 spot (omega arith))) (pieces_kept old new spots g (λ k d inside. h (suc k) d (omega arith)))

-- one spot more
pub all_more : (old new : List Bytes) (spots after : List Spot) (spot : Spot) → Grows old new → All (Lies old) spots → Lies new spot → after ≡ spots ++ spot ∷ [] → All (Lies new) after
all_more old new spots after spot g h lies more = subst (All (Lies new)) (sym more) (All-push (Lies new) spots spot (all_kept old new spots g h) lies)

pub pieces_more : (old new : List Bytes) (spots after : List Spot) (spot : Spot) (piece : Bytes) → Grows old new → All (Lies old) spots → piece_at new spot ≡ piece → after ≡ spots ++ spot ∷ []
    → map (piece_at new) after ≡ map (piece_at old) spots ++ piece ∷ []
pieces_more old new spots after spot piece g h is more =
    ap (map (piece_at new)) more
    ∙ map-append (piece_at new) spots (spot ∷ [])
    ∙ ap₂ (λ pieces last. pieces ++ last ∷ []) (pieces_kept old new spots g h) is

-- a page is found or made, and one page then gains bytes
pub put_grows : (before pages inside : List Bytes) (number : ℕ) (page after : Bytes) → Grows before pages → inside ≡ pages → number < length pages → page ≡ get_or inside number page → Gains page after → Grows before (set inside number after)
put_grows before pages inside number page after g same within is gains =
    subst (λ ps. Grows before (set ps number after)) (sym same)
    (grows_then before pages (set pages number after) g
    (grows_put pages number after within (subst (λ p. Gains p after) (is ∙ ap (λ ps. get_or ps number page) same ∙ get_or_default pages number page [] within) gains)))

-- a page more, or none
pub added_grows : {A E : Type 0} (old new : List Bytes) (result : Result A E) → OnOk result (new ≡ old ++ [] ∷ []) → OnErr result (new ≡ old) → Grows old new
added_grows old new (Ok number) ok err = subst (Grows old) (sym ok) (grows_page old)
added_grows old new (Err why) ok err = subst (Grows old) (sym err) (grows_same old)

pub on_any_error : {A E P : Type 0} (result : Result A E) → P → OnErr result P
on_any_error (Ok x) p = tt
on_any_error (Err why) p = p

-- one chosen spot more
pub chosen_more : (pages old : List Bytes) (spots after kept : List Spot) (indices : List ℕ) (i : ℕ) (spot : Spot) → map (piece_at pages) kept ≡ old
    → map (piece_at pages) spots ≡ map (λ index. get_or old index []) (take i indices)
    → i < length indices → get_or indices i 0 < length kept → spot ≡ get_or kept (get_or indices i 0) spot → after ≡ spots ++ spot ∷ []
    → map (piece_at pages) after ≡ map (λ index. get_or old index []) (take (i + 1) indices)
chosen_more pages old spots after kept indices i spot view chosen within inside is more =
    ap (map (piece_at pages)) more
    ∙ map-append (piece_at pages) spots (spot ∷ [])
    ∙ ap₂ (λ xs x. xs ++ x ∷ []) chosen
    (sym (ap (λ xs. get_or xs (get_or indices i 0) []) (sym view) ∙ get_or-map (piece_at pages) kept (get_or indices i 0) spot [] inside ∙ ap (piece_at pages) (sym is)))
    ∙ sym (map-append (λ index. get_or old index []) (take i indices) (get_or indices i 0 ∷ []))
    ∙ sym (ap (map (λ index. get_or old index [])) (take_more indices i 0 within))
