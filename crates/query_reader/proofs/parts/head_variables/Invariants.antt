use Rattle.std.proofs.Common.{◌≡◌, ◌++◌, drop, map}
use Rattle.query_reader.specs.Parts.{word_occurrence}
use Rattle.query_reader.proofs.parts.head_variables.Given as goal

-- the variables so far stand before those that are left
abbrev pub invariant-loop-word : goal.invariant-loop-word
invariant-loop-word l = l.variables.items ++ map word_occurrence (drop l.word-index l.head) ≡ map word_occurrence l.head
