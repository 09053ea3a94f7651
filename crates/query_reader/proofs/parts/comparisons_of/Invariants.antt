use Rattle.std.proofs.Common.{◌≡◌, ◌++◌, drop, map}
use Rattle.std.specs.List.{filter_map}
use Rattle.query_reader.specs.Parts.{comparison_in}
use Rattle.query_reader.proofs.parts.comparisons_of.Given as goal

-- the comparisons so far stand before those of the parts that are left
abbrev pub invariant-loop-part : goal.invariant-loop-part
invariant-loop-part l = map (λ c. c.now) l.comparisons.items ++ filter_map comparison_in (drop l.part-index l.parts) ≡ filter_map comparison_in l.parts
