use Rattle.std.proofs.Common.{◌<◌, length, arith}
use Rattle.query_reader.proofs.MentionLaws.{first_kept, next_kept}
use Rattle.query_reader.proofs.mentions.first_mentions.Goals as goal

pub loop-mention-init : goal.loop-mention-init
loop-mention-init g c = first_kept c.new-names.result c.args.all.now c.new-names.ensures

pub loop-mention-preserved : goal.loop-mention-preserved
loop-mention-preserved g c =
    let inside : c.loop-mention.mention-index < length c.args.all.now = omega arith in
    next_kept c.loop-mention.names c.add.new.self c.args.all.now c.loop-mention.mention-index c.mention-item.result c.name.result.now c.value.result
    inside c.mention-item.is c.name.ensures c.value.ensures c.in_ok-add.ensures c.loop-mention.invariant
