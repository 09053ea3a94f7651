use Rattle.std.proofs.Common.{◌++◌, ◌+◌, ◌∙◌, ℕ, List, Option, true, length, arith, sym, ap}
use Rattle.med_base.specs.declared.member.MemberFault.{MemberFault}
use Rattle.csv.specs.Records.{fields_of}
use Rattle.std.proofs.lemmas.Grind.{common_steps}
use Rattle.csv_wrap.specs.Readings.{rows_then, read_frames}
use Rattle.csv_wrap.specs.Ahead.{unless_bad}
use Rattle.csv_wrap.proofs.RowLaws.{front_on, record_put}
use Rattle.csv_wrap.proofs.FrameCount.{frames_short}
use Rattle.csv_wrap.proofs.run_rows.read_run.Goals as goal

pub records-init : goal.records-init
records-init c = record {
  same = λ later ended. ap (λ (fs : List (Option (List ℕ))). rows_then c.args.rows.now.items (read_frames c.args.number.now c.args.columns.now (fs ++ later) ended)) (sym c.new-reader.ensures);
  front = grind (arith, common_steps);
  counted = omega arith;
  number = rw c.new-reader.ensures (omega (arith, frames_short c.args.run.now true));
}

pub returns-in-Some-clause-read : goal.returns-in-Some-clause-read
returns-in-Some-clause-read c = λ later ended.
    let next = rw c.if-not-branch.false at c.in_ok-next.ensures.next in
    let more = read_frames (c.records.number + 1) c.args.columns.now (c.next.new.self ++ later) ended in
    c.records.invariant.same later ended
    ∙ record_put c.args.columns.now (fields_of c.next.new.fields) c.records.reader c.next.new.self c.records.rows.items c.put.new.rows.items c.records.number c.in_ok-read.read c.in_ok-fault.field-0 next c.in_ok-read.ensures c.in_ok-fault.ensures.put later ended
    ∙ ap (λ (b : Option MemberFault). rows_then c.put.new.rows.items (unless_bad b more)) c.in-Some.is

pub records-preserved : goal.records-preserved
records-preserved c =
    let next = rw c.if-not-branch.false at c.in_ok-next.ensures.next in
    let invariant = c.records.invariant in
    record {
      same = λ later ended.
          let more = read_frames (c.records.number + 1) c.args.columns.now (c.next.new.self ++ later) ended in
          invariant.same later ended
          ∙ record_put c.args.columns.now (fields_of c.next.new.fields) c.records.reader c.next.new.self c.records.rows.items c.put.new.rows.items c.records.number c.in_ok-read.read c.in_ok-fault.field-0 next c.in_ok-read.ensures c.in_ok-fault.ensures.put later ended
          ∙ ap (λ (b : Option MemberFault). rows_then c.put.new.rows.items (unless_bad b more)) c.in_default.is;
      front = front_on c.args.rows.now.items c.records.rows.items c.put.new.rows.items invariant.front c.put.ensures.front;
      counted = omega (arith, invariant.counted, c.put.ensures.most);
      number = omega (arith, invariant.number, ap length next.1);
    }
