use Rattle.std.proofs.Common.{Result, Ok, Err}
use Rattle.std.specs.Prelude.{OnOk}
use Rattle.step_core.proofs.node.Node.+into_ends.Goals as goal

on_ok : {X E P : Type 0} (r : Result X E) → P → OnOk r P
on_ok (Ok x) h = h
on_ok (Err x) h = tt

pub returns-in-Leaf-clause-sound : goal.returns-in-Leaf-clause-sound
returns-in-Leaf-clause-sound g t c = rw c.in-Leaf.is (on_ok c.into_ends.result c.into_ends.ensures.sound)
