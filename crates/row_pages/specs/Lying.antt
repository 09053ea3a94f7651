-- How byte strings lie in pages.
use Rattle.std.specs.Prelude.{◌≡◌, ◌<◌, ◌≤◌, ◌++◌, ◌-◌, ◌^◌, ℕ, List, [], length, slice_index_or, slice_range}
use Rattle.med_prelude.specs.Texts.{Bytes}
use Rattle.row_pages.specs.declared.pages.Spot.{Spot}

-- the greatest offset in a page
abbrev pub greatest_offset : ℕ
greatest_offset = 2 ^ 32 - 1

-- the bytes of a page; one that isn't there has none
abbrev pub page_at : List Bytes → ℕ → Bytes
page_at pages number = slice_index_or pages number []

-- the bytes that lie at a spot
abbrev pub piece_at : List Bytes → Spot → Bytes
piece_at pages spot = slice_range (page_at pages spot.page) spot.start spot.end

-- the spot is within its page
pub record Lies (pages : List Bytes) (spot : Spot) : Type 0 where
  pub inside : spot.page < length pages
  pub ordered : spot.start ≤ spot.end
  pub within : spot.end ≤ length (page_at pages spot.page)

-- bytes may have come behind those that were there
abbrev pub Gains : Bytes → Bytes → Type 0
Gains old new = (rest : Bytes) × (new ≡ old ++ rest)

-- pages may have come behind those that were there, and bytes behind those of each
pub record Grows (old new : List Bytes) : Type 0 where
  pub none_goes : length old ≤ length new
  pub each : (number : ℕ) → Gains (page_at old number) (page_at new number)
