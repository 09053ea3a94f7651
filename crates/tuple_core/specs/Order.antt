-- The laws of the order of values and of rows.
use Rattle.std.specs.Prelude.{◌≡◌, Bool, true, refl, Some}
use Rattle.std.specs.Cmp.{IsTotalOrder, IsEquivalence, IsPartialOrder, partial_order_from_agreeing_total, booleans_Decides}
use Rattle.std.specs.Cmp.Lexicographic.{pointwise, pointwise_decides, bytes_decides, lists_total, lists_equiv, lists_ties}
use Rattle.std.specs.Ordering.{eq_by_cmp, is_eq}
use Rattle.std.proofs.Common.{subst, ap, ◌∙◌}
use Rattle.std.proofs.lemmas.Bool.{false≢true}
use Rattle.std.proofs.lemmas.Bool.Decides.{Decides-int_eq}
use Rattle.tuple_core.specs.Values.{RowValues, value_cmp, row_cmp}
use Rattle.tuple_core.specs.declared.value.Value.{Value}
use Rattle.tuple_core.specs.declared.value.Value.TheVariants as value
use Rattle.tuple_core.specs.contracts.value.ValueOrd.TheImpl as ordered
use Rattle.tuple_core.specs.contracts.value.ValueOrd.TheImpl.Laws as order_laws
use Rattle.tuple_core.specs.contracts.value.ValuePartialEq.TheImpl as equal
use Rattle.tuple_core.specs.contracts.value.ValueEq.TheImpl.Laws as equal_laws

-- whether two values are the same
abbrev pub value_eq : Value → Value → Bool
value_eq = equal.eq-value.it

abbrev pub row_eq : RowValues → RowValues → Bool
row_eq = pointwise value_eq

-- the derived order is the one of the table
cmp_is_table : (x y : Value) → ordered.cmp-value.it x y ≡ value_cmp x y
cmp_is_table (value.Int x) (value.Int y) = refl
cmp_is_table (value.Int x) (value.Text y) = refl
cmp_is_table (value.Int x) (value.Bool y) = refl
cmp_is_table (value.Text x) (value.Int y) = refl
cmp_is_table (value.Text x) (value.Text y) = refl
cmp_is_table (value.Text x) (value.Bool y) = refl
cmp_is_table (value.Bool x) (value.Int y) = refl
cmp_is_table (value.Bool x) (value.Text y) = refl
cmp_is_table (value.Bool x) (value.Bool y) = refl

pub values_total : IsTotalOrder value_cmp
values_total = subst IsTotalOrder (λ i x y. cmp_is_table x y i) order_laws.total-law

pub rows_total : IsTotalOrder row_cmp
rows_total = lists_total values_total

pub rows_equiv : IsEquivalence row_eq
rows_equiv = lists_equiv equal_laws.laws-law

pub values_tie : (x y : Value) → value_eq x y ≡ eq_by_cmp value_cmp x y
values_tie x y = order_laws.matches_eq-law x y ∙ ap is_eq (cmp_is_table x y)

pub rows_tie : (xs ys : RowValues) → row_eq xs ys ≡ eq_by_cmp row_cmp xs ys
rows_tie = lists_ties value_cmp values_tie

pub rows_po : IsPartialOrder row_eq (λ xs ys. Some (row_cmp xs ys))
rows_po = partial_order_from_agreeing_total row_cmp rows_total (λ x y. refl) rows_tie

-- the test of values tells them apart
pub values_same : (x y : Value) → value_eq x y ≡ true → x ≡ y
values_same (value.Int x) (value.Int y) e = ap value.Int ((Decides-int_eq x y).0 e)
values_same (value.Int x) (value.Text y) e = absurd (false≢true e)
values_same (value.Int x) (value.Bool y) e = absurd (false≢true e)
values_same (value.Text x) (value.Int y) e = absurd (false≢true e)
values_same (value.Text x) (value.Text y) e = ap value.Text ((bytes_decides x y).0 e)
values_same (value.Text x) (value.Bool y) e = absurd (false≢true e)
values_same (value.Bool x) (value.Int y) e = absurd (false≢true e)
values_same (value.Bool x) (value.Text y) e = absurd (false≢true e)
values_same (value.Bool x) (value.Bool y) e = ap value.Bool ((booleans_Decides x y).0 e)

pub value_itself : (x : Value) → value_eq x x ≡ true
value_itself x = equal_laws.laws-law.refl x

-- the test of rows tells them apart
pub rows_decided : (xs ys : RowValues) → (row_eq xs ys ≡ true → xs ≡ ys) × (xs ≡ ys → row_eq xs ys ≡ true)
rows_decided = pointwise_decides (λ x y. (values_same x y, λ e. subst (λ z. value_eq x z ≡ true) e (value_itself x)))
