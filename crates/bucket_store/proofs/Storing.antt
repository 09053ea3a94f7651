-- A bucket's pages gain a row.
use Rattle.std.proofs.Common.{◌≡◌, ◌<◌, ◌≤◌, ◌+◌, ◌++◌, ℕ, zero, suc, List, [], ◌∷◌, length, get_or, map, take, drop, refl, sym, ap, ap₂, subst, ◌∙◌, arith, append-nil, length-append}
use Rattle.std.specs.List.{All}
use Rattle.std.proofs.lemmas.List.{drop_at, map-append, take_at}
use Rattle.std.proofs.lemmas.List.Elements.{All-push}
use Rattle.std.proofs.lemmas.List.Sums.{sum_by_push}
use Rattle.med_prelude.specs.Texts.{Bytes}
use Rattle.row_pages.specs.Lying.{Grows, Lies, piece_at}
use Rattle.row_pages.specs.declared.pages.Spot.{Spot}
use Rattle.row_pages.proofs.Growing.{all_kept, pieces_kept}
use Rattle.tuple_core.proofs.Back.{row_back}
use Rattle.tuple_core.specs.Decoding.{row_and_rest}
use Rattle.tuple_core.specs.Encoded.{IsEncoding, row_of, values_read}
use Rattle.tuple_core.specs.Encoding.{row_encoding, row_weight}
use Rattle.tuple_core.specs.Values.{FitsRow, RowValues}
use Rattle.bucket_store.specs.Held.{Held, HeldList, rows_weight}
use Rattle.bucket_store.specs.Keys.{key_hash}
use Rattle.bucket_store.specs.Stored.{AreStored, IsStored, held_at}
use Rattle.bucket_store.specs.declared.bucket.Stored.{Stored}

-- ---- what lies stays

one : {X : Type 0} (P : X → Type 0) (x : X) → P x → All P (x ∷ [])
one {X} P x h = go
  where
    go : (k : ℕ) (d : X) → k < 1 → P (get_or (x ∷ []) k d)
    go zero d l = h
    go (suc k) d l = absurd (omega arith)

piece_same : (old new : List Bytes) (spot : Spot) → Grows old new → Lies old spot → piece_at new spot ≡ piece_at old spot
piece_same old new spot g lies = ap (λ xs. get_or xs 0 (piece_at old spot)) (pieces_kept old new (spot ∷ []) g (one (Lies old) spot lies))

held_same : (old new : List Bytes) (stored : Stored) → Grows old new → IsStored old stored → held_at new stored ≡ held_at old stored
held_same old new stored g h = ap (λ piece. record { key = take stored.key_length piece; row = row_of (drop stored.key_length piece); number = stored.number }) (piece_same old new stored.spot g h.lies)

stored_same : (old new : List Bytes) (stored : Stored) → Grows old new → IsStored old stored → IsStored new stored
stored_same old new stored g h =
    let same = sym (piece_same old new stored.spot g h.lies) in
    record {
      lies = all_kept old new (stored.spot ∷ []) g (one (Lies old) stored.spot h.lies) 0 stored.spot (omega arith);
      within = subst (λ piece. stored.key_length ≤ length piece) same h.within;
      encoding = subst (λ piece. IsEncoding (drop stored.key_length piece)) same h.encoding;
    }

pub rows_same : (old new : List Bytes) (entries : List Stored) → Grows old new → All (IsStored old) entries → map (held_at new) entries ≡ map (held_at old) entries
rows_same old new [] g h = refl
rows_same old new (stored ∷ entries) g h =
    ap₂ (λ held more. held ∷ more) (held_same old new stored g (h 0 stored (omega arith))) (rows_same old new entries g (λ k d inside. h (suc k) d (omega arith)))

-- the same entries and hashes
pub stored_alike : (pages : List Bytes) (entries entries_after : List Stored) (hashes hashes_after : List ℕ) (weight : ℕ) → entries_after ≡ entries → hashes_after ≡ hashes → AreStored pages entries hashes weight → AreStored pages entries_after hashes_after weight
stored_alike pages entries entries_after hashes hashes_after weight e h stored =
    subst (λ es. AreStored pages es hashes_after weight) (sym e) (subst (λ hs. AreStored pages entries hs weight) (sym h) stored)

pub stored_grown : (old new : List Bytes) (entries : List Stored) (hashes : List ℕ) (weight : ℕ) → Grows old new → AreStored old entries hashes weight → AreStored new entries hashes weight
stored_grown old new entries hashes weight g h =
    let same = sym (rows_same old new entries g h.each) in
    record {
      each = λ k d inside. stored_same old new _ g (h.each k d inside);
      chained = subst (λ (rows : HeldList). hashes ≡ map (λ held. key_hash held.key) rows) same h.chained;
      weighs = subst (λ (rows : HeldList). weight ≡ rows_weight rows) same h.weighs;
    }

-- ---- a row more

encoded : (row : RowValues) → FitsRow row → row_of (row_encoding row) ≡ row
encoded row fits = ap (λ bytes. values_read (row_and_rest bytes)) (sym (append-nil (row_encoding row))) ∙ ap values_read (row_back row [] fits)

encoding_is : (row : RowValues) → FitsRow row → IsEncoding (row_encoding row)
encoding_is row fits = record {
  fits = subst FitsRow (sym (encoded row fits)) fits;
  is = ap row_encoding (encoded row fits);
}

-- what was put is what lies there
record Put (pages : List Bytes) (stored : Stored) (key : Bytes) (row : RowValues) : Type 0 where
  key_is : take stored.key_length (piece_at pages stored.spot) ≡ key
  row_is : drop stored.key_length (piece_at pages stored.spot) ≡ row_encoding row

put : (pages : List Bytes) (stored : Stored) (key : Bytes) (row : RowValues) → piece_at pages stored.spot ≡ key ++ row_encoding row → stored.key_length ≡ length key → Put pages stored key row
put pages stored key row piece many = record {
  key_is = ap (take stored.key_length) piece ∙ take_at key (row_encoding row) stored.key_length (sym many);
  row_is = ap (drop stored.key_length) piece ∙ drop_at key (row_encoding row) stored.key_length (sym many);
}

held_put : (pages : List Bytes) (stored : Stored) (key : Bytes) (row : RowValues) → Put pages stored key row → FitsRow row → held_at pages stored ≡ record { key = key; row = row; number = stored.number }
held_put pages stored key row h fits = ap₂ (λ k r. record { key = k; row = r; number = stored.number }) h.key_is (ap row_of h.row_is ∙ encoded row fits)

pub rows_more : (old new : List Bytes) (entries : List Stored) (stored : Stored) (key : Bytes) (row : RowValues) → Grows old new → All (IsStored old) entries
    → piece_at new stored.spot ≡ key ++ row_encoding row → stored.key_length ≡ length key → FitsRow row
    → map (held_at new) (entries ++ stored ∷ []) ≡ map (held_at old) entries ++ record { key = key; row = row; number = stored.number } ∷ []
rows_more old new entries stored key row g h piece many fits =
    map-append (held_at new) entries (stored ∷ [])
    ∙ ap₂ (λ rows held. rows ++ held ∷ []) (rows_same old new entries g h) (held_put new stored key row (put new stored key row piece many) fits)

pub stored_more : (old new : List Bytes) (entries : List Stored) (hashes more : List ℕ) (weight heavier : ℕ) (stored : Stored) (key : Bytes) (row : RowValues) → Grows old new → AreStored old entries hashes weight
    → Lies new stored.spot → piece_at new stored.spot ≡ key ++ row_encoding row → stored.key_length ≡ length key → FitsRow row
    → more ≡ hashes ++ key_hash key ∷ [] → heavier ≡ weight + row_weight row
    → AreStored new (entries ++ stored ∷ []) more heavier
stored_more old new entries hashes more weight heavier stored key row g h lies piece many fits chained weighs =
    let p = put new stored key row piece many in
    let rows = sym (rows_more old new entries stored key row g h.each piece many fits) in
    record {
      each = All-push (IsStored new) entries stored (stored_grown old new entries hashes weight g h).each (record {
        lies = lies;
        within = subst (λ bytes. stored.key_length ≤ length bytes) (sym piece) (omega (arith, length-append key (row_encoding row)));
        encoding = subst IsEncoding (sym p.row_is) (encoding_is row fits);
      });
      chained = subst (λ (held : HeldList). more ≡ map (λ x. key_hash x.key) held) rows
          (chained ∙ ap (λ hs. hs ++ key_hash key ∷ []) h.chained ∙ sym (map-append (λ (x : Held). key_hash x.key) (map (held_at old) entries) (record { key = key; row = row; number = stored.number } ∷ [])));
      weighs = subst (λ (held : HeldList). heavier ≡ rows_weight held) rows
          (weighs ∙ ap (λ w. w + row_weight row) h.weighs ∙ sym (sum_by_push (λ (x : Held). row_weight x.row) (map (held_at old) entries) (record { key = key; row = row; number = stored.number })));
    }
