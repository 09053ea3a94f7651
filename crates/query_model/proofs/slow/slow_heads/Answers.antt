use Rattle.std.proofs.Common.{◌≡◌, ◌∙◌, []}
use Rattle.query_core.specs.Answers.{items}
use Rattle.query_model.specs.Walks.{heads_from}
use Rattle.query_model.proofs.Walking.{heads_of_choices}
use Rattle.query_model.proofs.slow.slow_heads.Goals as goal

pub returns : goal.returns
returns c =
    let q = c.args.query.now in
    let arrivals = c.args.arrivals.now in
    let found : c.walk.new.found ≡ heads_from q [] (items q.atoms arrivals) =
    rw (c.new-found.ensures, c.new-entries.ensures.items, c.as_slice.ensures, c.as_slice-2.ensures) at c.in_ok-walk.ensures.found in
    found ∙ heads_of_choices q arrivals
