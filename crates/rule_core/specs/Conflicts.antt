-- Which rules conflict.
use Rattle.std.specs.Prelude.{◌≡◌, ◌≢◌, List, Contains}
use Rattle.rule_reader.specs.declared.rule.Action.{Action}
use Rattle.rule_reader.specs.declared.rule.Action.TheVariants.{Activate, Deactivate, Method, Quota}
use Rattle.rule_reader.specs.declared.rule.Rule.{Rule}

-- one deactivates what the other activates, or they give one join another method, or another quota
abbrev pub Opposes : Action → Action → Type 0
Opposes (Activate m) (Deactivate n) = m ≡ n
Opposes (Deactivate m) (Activate n) = m ≡ n
Opposes (Method j m) (Method k n) = (j ≡ k) × (m ≢ n)
Opposes (Quota j m) (Quota k n) = (j ≡ k) × (m ≢ n)
Opposes _ _ = ⊥

abbrev pub OpposesOne : Action → List Action → Type 0
OpposesOne a others = (b : Action) × Contains others b × Opposes a b

-- an action of one list opposes one of the other
abbrev pub OpposesSome : List Action → List Action → Type 0
OpposesSome actions others = (a : Action) × Contains actions a × OpposesOne a others

-- they wait for equal events, and an action of one opposes an action of the other
abbrev pub Conflicts : Rule → Rule → Type 0
Conflicts x y = (x.event ≡ y.event) × OpposesSome x.actions y.actions
