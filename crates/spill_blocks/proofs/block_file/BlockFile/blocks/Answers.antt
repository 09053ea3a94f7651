use Rattle.med_base.specs.Spills.{file_content}
use Rattle.spill_blocks.proofs.TableLaws.{tells_shapes}
use Rattle.spill_blocks.proofs.block_file.BlockFile.blocks.Goals as goal

pub returns-clause-told : goal.returns-clause-told
returns-clause-told g c = rw (← c.self.view_is) (tells_shapes c.self.inside.form (file_content c.self.inside.file.file) c.self.inside.file.end c.self.inside.blocks.items c.self.invariant.table)
