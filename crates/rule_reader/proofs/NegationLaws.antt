-- One `not` more.
use Rattle.std.proofs.Common.{◌≡◌, ℕ, suc, ◌+◌, arith, refl}
use Rattle.rule_reader.specs.Machine.{negated}
use Rattle.rule_reader.specs.declared.rule.Condition.{Condition}
use Rattle.rule_reader.specs.declared.rule.Condition.TheVariants as condition

pub negated_next : (n : ℕ) (c : Condition) → negated (n + 1) c ≡ condition.Not (negated n c)
negated_next n c = let e : n + 1 ≡ suc n = omega arith in rw e refl
