-- The entries that bytes begin with.
use Rattle.std.specs.Prelude.{◌≡◌, ℕ, zero, suc, ◌+◌, ◌<◌, ◌^◌, ◌≤◌, ◌==◌, List, [], ◌∷◌, ◌++◌, length, drop, Option, Some, None, option_map, if◌then◌else◌}
use Rattle.std.specs.Int.{w64, from_be_bytes}
use Rattle.std.specs.List.{AllByRecursion}
use Rattle.std.specs.Option.{option_map_or}
use Rattle.med_prelude.specs.Texts.{Bytes}
use Rattle.tuple_core.specs.Decoding.{front_and_rest, row_and_rest, ◌>>=◌}
use Rattle.tuple_core.specs.Values.{FitsRow, RowValues}
use Rattle.spill_blocks.specs.Blocks.{FitsForm, entries_encoding, entry_encoding}
use Rattle.spill_blocks.specs.Entries.{kept_as, spooled}
use Rattle.spill_blocks.specs.declared.entries.Kept.{Kept}
use Rattle.spill_blocks.specs.declared.form.EntryForm.{EntryForm}
use Rattle.spill_blocks.specs.declared.form.EntryForm.TheVariants.{Join, Spool}

-- a row of so many values, and the bytes after it
unfoldable pub wide_row_and_rest : ℕ → Bytes → Option (RowValues × Bytes)
wide_row_and_rest width bytes = do
  x ← row_and_rest bytes
  if length x.0 == width then Some x else None

-- a number, and the bytes after it
unfoldable pub number_and_rest : Bytes → Option (ℕ × Bytes)
number_and_rest bytes = option_map (λ x. (from_be_bytes w64 x.0, x.1)) (front_and_rest 8 bytes)

-- an entry whose row has so many values, and the bytes after it
unfoldable pub entry_and_rest : EntryForm → ℕ → Bytes → Option (Kept × Bytes)
entry_and_rest Join width bytes = do
  a ← number_and_rest bytes
  d ← number_and_rest a.1
  row ← wide_row_and_rest width d.1
  Some (kept_as a.0 d.0 row.0, row.1)
entry_and_rest Spool width bytes = option_map (λ row. (spooled row.0, row.1)) (wide_row_and_rest width bytes)

-- The entries that the bytes begin with, up to the first that isn't whole, and no more than so many.
unfoldable pub entries_in : EntryForm → ℕ → ℕ → Bytes → List Kept
entries_in form width zero bytes = []
entries_in form width (suc count) bytes = option_map_or (λ first. first.0 ∷ entries_in form width count first.1) (entry_and_rest form width bytes) []

-- numbers of 64 bits, and a row within its limits
pub record FitsKept (kept : Kept) : Type 0 where
  pub a : kept.a < 2 ^ 64
  pub d : kept.d < 2 ^ 64
  pub row : FitsRow kept.row

-- an entry that a file of that form can keep, and whose row has so many values
pub record IsEntry (form : EntryForm) (width : ℕ) (kept : Kept) : Type 0 where
  pub fits : FitsKept kept
  pub wide : length kept.row ≡ width
  pub formed : FitsForm form kept

-- At the offset these entries begin, and they end at another offset at most.
pub record LieAt (form : EntryForm) (width end : ℕ) (content : Bytes) (at : ℕ) (entries : List Kept) : Type 0 where
  pub inside : at + length (entries_encoding form entries) ≤ end
  pub are : drop at content ≡ entries_encoding form entries ++ drop (at + length (entries_encoding form entries)) content
  pub each : AllByRecursion (IsEntry form width) entries

-- the bytes begin with an entry, and these come after it
pub record BeginsWith (form : EntryForm) (width : ℕ) (bytes : Bytes) (kept : Kept) (rest : Bytes) : Type 0 where
  pub whole : bytes ≡ entry_encoding form kept ++ rest
  pub entry : IsEntry form width kept
