use Rattle.std.proofs.Common.{ℕ, IsTrue, subst, rules}
use Rattle.least_order.specs.Orders.{NoneCostsLess}
use Rattle.least_order.specs.Certificates.{IsCertificate}
use Rattle.least_order.proofs.Costs.{certified}
use Rattle.least_order.proofs.certificate.check_order.Goals as goal

pub returns-then-rest-least-clause-least : goal.returns-then-rest-least-clause-least
returns-then-rest-least-clause-least c =
    let holds : IsTrue c.is_below_steps.result → IsCertificate c.args.items.now c.args.least.now = search rules in
    λ yes. subst (λ (cost : ℕ). NoneCostsLess c.args.items.now cost) (holds yes).none_placed
    (certified c.args.items.now c.args.least.now.rest (holds yes).steps (holds yes).all_placed)
