use Rattle.std.proofs.Common.{◌<◌, ◌-◌, ◌^◌, arith, sym}
use Rattle.std.proofs.lemmas.Nat.{pow_pos}
use Rattle.tuple_core.proofs.Digits.{room_left, room_cut, put_left, put_cut}
use Rattle.tuple_core.proofs.ranking.Room.put.Goals as goal

pub overflow_add-result : goal.overflow_add-result
overflow_add-result c =
    let digit : c.from-digit.result < 2 ^ c.args.bits = rw c.from-digit.ensures c.requires.digit in
    let cut = room_cut c.args.self.number c.args.self.free c.args.bits c.from-digit.result c.args.self.within c.if-self-bits.true digit in
    omega (arith, cut)

pub invariant_of-result : goal.invariant_of-result
invariant_of-result c =
    let digit : c.from-digit.result < 2 ^ c.args.bits = rw c.from-digit.ensures c.requires.digit in
    record {
      bits = omega arith;
      within = room_cut c.args.self.number c.args.self.free c.args.bits c.from-digit.result c.args.self.within c.if-self-bits.true digit;
    }

pub returns-then-self-bits : goal.returns-then-self-bits
returns-then-self-bits c = λ rest fits.
    rw (sym c.from-digit.ensures) (put_cut c.args.self.number c.args.self.free c.args.bits c.from-digit.result rest fits c.if-self-bits.true)

pub overflow_add-result-2 : goal.overflow_add-result-2
overflow_add-result-2 c =
    let digit : c.from-digit.result < 2 ^ c.args.bits = rw c.from-digit.ensures c.requires.digit in
    let left = room_left c.args.self.number c.args.self.free c.args.bits c.from-digit.result c.args.self.bits c.args.self.within c.if-self-bits.false digit in
    omega (arith, left, pow_pos (c.args.self.free - c.args.bits))

pub invariant_of-result-2 : goal.invariant_of-result-2
invariant_of-result-2 c =
    let digit : c.from-digit.result < 2 ^ c.args.bits = rw c.from-digit.ensures c.requires.digit in
    record {
      bits = omega (arith, c.args.self.bits);
      within = room_left c.args.self.number c.args.self.free c.args.bits c.from-digit.result c.args.self.bits c.args.self.within c.if-self-bits.false digit;
    }

pub returns : goal.returns
returns c = λ rest fits.
    let digit : c.from-digit.result < 2 ^ c.args.bits = rw c.from-digit.ensures c.requires.digit in
    rw (sym c.from-digit.ensures) (put_left c.args.self.number c.args.self.free c.args.bits c.from-digit.result rest c.args.self.bits c.if-self-bits.false digit)
