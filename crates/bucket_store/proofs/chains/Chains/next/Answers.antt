use Rattle.std.proofs.Common.{◌==◌, length, ap, arith}
use Rattle.std.proofs.lemmas.List.{length-map}
use Rattle.bucket_store.specs.Chained.{hashes_of}
use Rattle.bucket_store.specs.declared.chains.Link.{Link}
use Rattle.bucket_store.proofs.Walking.{found_few}
use Rattle.bucket_store.proofs.chains.Chains.next.Goals as goal

pub returns-clause-few : goal.returns-clause-few
returns-clause-few c = found_few c.next_of.result (λ h. h == c.args.hash) (hashes_of c.as_slice-2.result.now) c.args.from c.next_of.ensures
    (omega (arith, c.self.invariant.1, ap length c.as_slice-2.ensures.value, length-map c.as_slice-2.result.now (λ (l : Link). l.hash)))
