use Rattle.std.proofs.Common.{false, None, ap, ◌∙◌}
use Rattle.join_core.specs.Sides.{joining_of}
use Rattle.join_core.proofs.Finishing.{fresh_is}
use Rattle.join_core.proofs.join.Join.new.Goals as goal

pub returns : goal.returns
returns c = ap (λ ss. joining_of c.args.shape ss false false 0 None) c.in_ok-new.ensures ∙ fresh_is c.args.shape c.args.buckets
