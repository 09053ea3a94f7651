use Rattle.spill_blocks.specs.Blocks.{entry_encoding}
use Rattle.std.proofs.Common.{append_assoc}
use Rattle.spill_blocks.proofs.encoding.put_entry.Goals as goal

pub returns-in_ok-extend_from_slice-in-Join-3 : goal.returns-in_ok-extend_from_slice-in-Join-3
unfolding entry_encoding
returns-in_ok-extend_from_slice-in-Join-3 c =
    rw (c.in-Join.is, c.in_ok-extend_from_slice-in-Join-3.ensures.items, c.in_ok-extend_from_slice-in-Join-2.ensures.items, c.in_ok-extend_from_slice-in-Join.ensures.items, c.to_be_bytes.ensures, c.to_be_bytes-in-Join.ensures, c.bytes.ensures.encoding)
    (simp append_assoc)
