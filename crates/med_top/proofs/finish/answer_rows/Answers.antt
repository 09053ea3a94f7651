use Rattle.query_model.proofs.Walking.{heads_answer}
use Rattle.med_top.proofs.finish.answer_rows.Goals as goal

pub returns : goal.returns
returns c = heads_answer c.args.query.now c.args.arrivals c.in_ok-heads.heads c.sorted_distinct.result c.in_ok-heads.ensures c.sorted_distinct.ensures
