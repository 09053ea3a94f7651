use Rattle.std.proofs.Common.{◌≡◌, drop}
use Rattle.query_reader.specs.Mentions.{first_mentions}
use Rattle.query_reader.proofs.MentionLaws.{kept_after}
use Rattle.query_reader.proofs.mentions.first_mentions.Given as goal

-- the names so far stand before the new ones of those that are left
abbrev pub invariant-loop-mention : goal.invariant-loop-mention
invariant-loop-mention g l = kept_after l.names (drop l.mention-index l.all) ≡ first_mentions l.all
