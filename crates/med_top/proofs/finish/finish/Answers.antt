use Rattle.med_top.proofs.finish.finish.Goals as goal

pub returns-in-Settled : goal.returns-in-Settled
returns-in-Settled g c = rw (c.in-Settled.is) (rw (c.from_vec.ensures) at c.write_answer.ensures)
