use Rattle.std.proofs.Common.{◌≡◌, ◌-◌, [], ◌∷◌, ◌++◌, sym, ap, ◌∙◌, arith, rules}
use Rattle.std.proofs.lemmas.Result.{err_from_is_err_and}
use Rattle.tuple_core.specs.Decoding.{values_and_rest}
use Rattle.tuple_core.proofs.ValueByValue.{after_front, passes_on, reads_all, reads_none, reads_one}
use Rattle.tuple_core.proofs.decoding.read_values.Goals as goal

pub returns-in_err-value : goal.returns-in_err-value
returns-in_err-value c =
    let p = err_from_is_err_and c.from_residual-in_err-value.result c.from_residual-in_err-value.ensures.1 in
    rw (p.1, p.2) (passes_on c.in_err-value.field-0.0 _ _ c.in_err-value.ensures (λ none. sym (c.values.invariant ∙ reads_none c.args.count c.values.counter c.values.values.items c.values.rest.now c.values-test.true none)))

pub values-preserved : goal.values-preserved
values-preserved c =
    let e : c.push.new.self.items ≡ c.values.values.items ++ c.in_ok-value.value ∷ [] = search rules in
    rw e (c.values.invariant ∙ reads_one c.args.count c.values.counter c.values.values.items c.values.rest.now _ c.in_ok-value.value c.values-test.true c.in_ok-value.ensures)

pub returns : goal.returns
returns c =
    let all : c.args.count - c.values.counter ≡ 0 = omega arith in
    sym (c.values.invariant ∙ ap (λ n. after_front c.values.values.items (values_and_rest n c.values.rest.now)) all ∙ reads_all _ _)
