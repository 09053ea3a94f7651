-- What is told of a broken check.
use Rattle.std.specs.Prelude.{ℕ, min}
use Rattle.text_reading.specs.declared.checks.Broken.{Broken}
use Rattle.plan_reader.specs.declared.location.Location.{Location}
use Rattle.plan_reader.specs.declared.plan.PlanFault.{PlanFault}
use Rattle.plan_reader.specs.declared.plan.PlanFault.TheVariants.{Refused}

-- the greatest number that is told of an item; it stands for all greater ones
abbrev pub greatest_told : ℕ
greatest_told = 4294967295

abbrev pub fault_of : Broken Location → PlanFault
fault_of broken = Refused broken.why broken.at.part (min broken.at.item greatest_told)
