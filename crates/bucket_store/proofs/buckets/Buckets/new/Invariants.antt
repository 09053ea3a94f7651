use Rattle.std.proofs.Common.{◌≡◌, [], replicate}
use Rattle.bucket_store.proofs.buckets.Buckets.new.Given as goal

abbrev pub invariant-loop : goal.invariant-loop
invariant-loop l = l.buckets.items ≡ replicate l.counter []
