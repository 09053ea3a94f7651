use Rattle.std.proofs.Common.{◌≡◌, ◌++◌, drop, map}
use Rattle.query_reader.specs.Reading.{term_of}
use Rattle.query_reader.proofs.lowering.terms_of.Given as goal

-- those made so far stand before those that are left
abbrev pub invariant-loop-term : goal.invariant-loop-term
invariant-loop-term l = l.made ++ map (λ term. term_of l.variables term.written) (drop l.term-index l.terms) ≡ map (λ term. term_of l.variables term.written) l.terms
