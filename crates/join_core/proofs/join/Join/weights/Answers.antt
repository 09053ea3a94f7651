use Rattle.std.proofs.Common.{ap, ◌∙◌}
use Rattle.bucket_store.specs.Held.{weights_of}
use Rattle.join_core.specs.State.{pile_weights, piles_of}
use Rattle.join_core.proofs.Finishing.{weights_are}
use Rattle.join_core.proofs.join.Join.weights.Goals as goal

pub returns-clause-weights : goal.returns-clause-weights
returns-clause-weights c =
    c.weights.ensures.weights ∙ ap weights_of c.on.ensures
    ∙ weights_are c.args.side c.self.inside.shape c.self.inside.sides c.self.inside.left_ended c.self.inside.right_ended c.self.inside.next c.self.inside.probe
    ∙ ap (λ s. pile_weights (piles_of c.args.side s)) c.self.view_is
