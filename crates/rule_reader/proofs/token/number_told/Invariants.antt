use Rattle.std.proofs.Common.{◌≡◌, ◌+◌, ◌≤◌, min, drop}
use Rattle.rule_reader.specs.Naming.{number_after}
use Rattle.rule_reader.specs.Tokens.{most_number, number_told}
use Rattle.rule_reader.proofs.token.number_told.Given as goal

-- with the digits that are left, the number is cut off as that of all is
abbrev pub invariant-loop-digit : goal.invariant-loop-digit
invariant-loop-digit l = record {
  small : l.number ≤ most_number + 1;
  same : min (number_after l.number (drop l.digit-index l.digits)) (most_number + 1) ≡ number_told l.digits;
}
