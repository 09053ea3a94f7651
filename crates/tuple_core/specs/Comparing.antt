-- Whether an operator holds between two values.
use Rattle.std.specs.Prelude.{Bool, Option, Some, None}
use Rattle.std.specs.Cmp.Lexicographic.{slice_cmp}
use Rattle.std.specs.Ordering.{nat_cmp, int_cmp, bool_cmp, is_eq, is_ne, is_lt, is_le, is_gt, is_ge, is_some_and}
use Rattle.std.specs.declared.cmp.Ordering.{Ordering}
use Rattle.tuple_core.specs.declared.comparing.Op.{Op}
use Rattle.tuple_core.specs.declared.comparing.Op.TheVariants as op
use Rattle.tuple_core.specs.declared.value.Value.{Value}
use Rattle.tuple_core.specs.declared.value.Value.TheVariants as value

-- the order of two values of one kind; those of two kinds have none
abbrev pub same_kind_cmp : Value → Value → Option Ordering
same_kind_cmp (value.Int x) (value.Int y) = Some (int_cmp x y)
same_kind_cmp (value.Text x) (value.Text y) = Some (slice_cmp nat_cmp x y)
same_kind_cmp (value.Bool x) (value.Bool y) = Some (bool_cmp x y)
same_kind_cmp _ _ = None

abbrev pub operator_holds : Op → Ordering → Bool
operator_holds op.Eq = is_eq
operator_holds op.Ne = is_ne
operator_holds op.Lt = is_lt
operator_holds op.Le = is_le
operator_holds op.Gt = is_gt
operator_holds op.Ge = is_ge

-- no operator holds between two kinds
abbrev pub compares : Op → Value → Value → Bool
compares op x y = is_some_and (operator_holds op) (same_kind_cmp x y)
