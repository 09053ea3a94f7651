use Rattle.std.proofs.Common.{ap, ◌∙◌}
use Rattle.tuple_core.specs.Encoding.{row_encoding}
use Rattle.row_match.proofs.Keys.{key_short, key_inside, key_is}
use Rattle.row_match.proofs.shape.JoinShape.key_of.Goals as goal

pub write-requires-clause-short : goal.write-requires-clause-short
write-requires-clause-short c = key_short c.args.side c.args.self.now c.key_positions.result.now c.key_positions.ensures.short c.key_positions.ensures.positions

pub write-requires-clause-inside : goal.write-requires-clause-inside
write-requires-clause-inside c = key_inside c.args.side c.args.self.now c.key_positions.result.now c.args.row.now c.requires.width c.key_positions.ensures.positions

pub returns : goal.returns
returns c = record { key = c.write.ensures.key ∙ ap row_encoding (key_is c.args.side c.args.self.now c.key_positions.result.now c.args.row.now c.requires.width c.key_positions.ensures.positions) }
