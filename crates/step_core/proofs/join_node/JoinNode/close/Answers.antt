use Rattle.std.proofs.Common.{◌≡◌, true, false, refl, sym, subst, ◌∙◌}
use Rattle.row_match.specs.declared.shape.Side.TheVariants as side
use Rattle.step_core.specs.Joins.{ClosesAll}
use Rattle.step_core.proofs.join_node.JoinNode.close.Goals as goal

pub returns : goal.returns
returns c =
    let whole : c.finished.result ≡ true = c.if-not-finished.false in
    let goes_on : c.args.out.now.put ≡ false = sym c.closed.ensures ∙ c.if-closed.false in
    subst (λ s. ClosesAll s s c.args.out.now c.close.new.self) c.self.view_is (record {
      whole = record {
        finished = sym c.finished.ensures.finished ∙ whole;
        all = c.finished.ensures.all whole;
        left = c.stands.ensures.rows side.Left;
        right = c.stands.ensures.rows side.Right;
      };
      same = refl;
      put = record { goes_on = goes_on; put = c.close.ensures };
    })
