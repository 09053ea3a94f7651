use Rattle.std.proofs.Common.{◌<◌, ap, sym, ◌∙◌, length, arith}
use Rattle.tuple_core.specs.Encoded.{value_seen}
use Rattle.tuple_core.proofs.Seen.{sees_first, sees_some}
use Rattle.tuple_core.proofs.encoded.EncodedValuesIterator.next.Goals as goal

pub invariant_of-self : goal.invariant_of-self
invariant_of-self c =
    let some : 0 < c.self.inside.count = omega (arith, c.if-self-eq0.false) in
    (sees_first c.self.inside.count c.self.inside.bytes.now (value_seen c.in-Some.value, c.in-Some.rest.now) c.self.invariant some c.in-Some.ensures).others

pub unreachable-requires : goal.unreachable-requires
unreachable-requires c =
    let some : 0 < c.self.inside.count = omega (arith, c.if-self-eq0.false) in
    sees_some c.self.inside.count c.self.inside.bytes.now c.self.invariant some c.in-None.ensures

pub returns-clause-steps : goal.returns-clause-steps
returns-clause-steps c =
    let some : 0 < c.self.inside.count = omega (arith, c.if-self-eq0.false) in
    sym c.self.view_is ∙ (sees_first c.self.inside.count c.self.inside.bytes.now (value_seen c.in-Some.value, c.in-Some.rest.now) c.self.invariant some c.in-Some.ensures).first

pub returns-clause-goes : goal.returns-clause-goes
returns-clause-goes c =
    let some : 0 < c.self.inside.count = omega (arith, c.if-self-eq0.false) in
    let first = sym c.self.view_is ∙ (sees_first c.self.inside.count c.self.inside.bytes.now (value_seen c.in-Some.value, c.in-Some.rest.now) c.self.invariant some c.in-Some.ensures).first in
    let longer = ap (λ values. length values) first in
    record {
      on = λ _. (tt, tt, omega (arith, longer));
      keeps = tt;
      rests = λ _. tt;
    }
