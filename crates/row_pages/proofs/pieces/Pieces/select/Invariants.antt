use Rattle.std.proofs.Common.{◌≡◌, [], map, slice_index_or, take}
use Rattle.std.specs.List.{All}
use Rattle.row_pages.specs.Lying.{Lies, piece_at}
use Rattle.row_pages.proofs.pieces.Pieces.select.Given as goal

abbrev pub invariant-loop-chosen : goal.invariant-loop-chosen
invariant-loop-chosen l = record {
  lies : All (Lies l.self-inside.pages) l.spots.items;
  selected : map (piece_at l.self-inside.pages) l.spots.items ≡ map (λ index. slice_index_or l.fn.self index []) (take l.chosen-index l.indices);
}
