use Rattle.query_model.proofs.Walking.{heads_answer}
use Rattle.query_model.proofs.slow.slow_answer.Goals as goal

pub returns : goal.returns
returns c = heads_answer c.args.query.now c.args.arrivals.now c.in_ok-found.found c.sorted_distinct.result c.in_ok-found.ensures c.sorted_distinct.ensures
