-- What the words and keys of a plan say.
use Rattle.std.specs.Prelude.{ℕ, ℤ, pos, negsuc, ◌==◌, ◌&&◌, not, ◌^◌, ◌-◌, Bool, [], ◌∷◌, length, take, drop, codes, nat_eq, Option, Some, None, option_map, option_and_then, if◌then◌else◌}
use Rattle.std.specs.Char.{is_ascii_digit}
use Rattle.std.specs.Cmp.Lexicographic.{pointwise}
use Rattle.std.specs.List.{list_all}
use Rattle.toml.specs.Data.{Data, as_integer, as_str}
use Rattle.med_prelude.specs.Texts.{Bytes}
use Rattle.med_base.specs.declared.names.GroupName.{GroupName}
use Rattle.med_base.specs.declared.names.Name.{Name}
use Rattle.med_base.specs.declared.names.Name.TheVariants as name
use Rattle.rule_reader.specs.Naming.{dotted, part_in, whole}
use Rattle.rule_reader.specs.Tokens.{number_told}
use Rattle.rule_reader.specs.declared.rule.Method.{Method}
use Rattle.rule_reader.specs.declared.rule.Method.TheVariants as method
use Rattle.plan_reader.specs.declared.plan.Policy.{Policy}
use Rattle.plan_reader.specs.declared.plan.Policy.TheVariants as policy
use Rattle.plan_reader.specs.declared.plan.Replan.{Replan}
use Rattle.plan_reader.specs.declared.plan.Replan.TheVariants as replan

abbrev pub same_text : Bytes → Bytes → Bool
same_text = pointwise nat_eq

-- what stands for a number below zero: it is over every limit
abbrev pub over_all : ℕ
over_all = 2 ^ 64 - 1

abbrev pub told_number : ℤ → ℕ
told_number (pos n) = n
told_number (negsuc n) = over_all

unfoldable pub number_of : Data → Option ℕ
number_of d = option_map told_number (as_integer d)

unfoldable pub method_in : Bytes → Option Method
method_in w =
    if same_text w (codes "left") then Some method.Left
    else if same_text w (codes "symmetric") then Some method.Symmetric
    else None

unfoldable pub method_of : Data → Option Method
method_of d = option_and_then method_in (as_str d)

-- one or more digits
abbrev pub is_amount : Bytes → Bool
is_amount digits = not (length digits == 0) && list_all is_ascii_digit digits

-- The number that digits write. One over the greatest number of a rule stands for all greater ones.
abbrev pub amount_in : Bytes → Option ℕ
amount_in digits = if is_amount digits then Some (number_told digits) else None

-- the number behind the front
abbrev pub amount_behind : Bytes → Bytes → Option ℕ
amount_behind front w = if same_text (take (length front) w) front then amount_in (drop (length front) w) else None

unfoldable pub policy_in : Bytes → Option Policy
policy_in w =
    if same_text w (codes "only") then Some policy.Only
    else if same_text w (codes "first") then Some policy.First
    else if same_text w (codes "all") then Some policy.All
    else option_map policy.Race (amount_behind (codes "race:") w)

unfoldable pub policy_of : Data → Option Policy
policy_of d = option_and_then policy_in (as_str d)

unfoldable pub replan_in : Bytes → Option Replan
replan_in w =
    if same_text w (codes "never") then Some replan.Never
    else if same_text w (codes "always") then Some replan.Always
    else option_map replan.Off (amount_behind (codes "off:") w)

unfoldable pub replan_of : Data → Option Replan
replan_of d = option_and_then replan_in (as_str d)

-- the number of a fragment, and that of a join
abbrev pub fragment_named : Name → Option ℕ
fragment_named (name.Fragment f) = Some f
fragment_named (name.Join j) = None
fragment_named (name.Atom a) = None
fragment_named (name.Member m) = None

abbrev pub join_named : Name → Option ℕ
join_named (name.Join j) = Some j
join_named (name.Fragment f) = None
join_named (name.Atom a) = None
join_named (name.Member m) = None

abbrev pub fragment_number : Bytes → Option ℕ
fragment_number w = option_and_then fragment_named (part_in w)

abbrev pub join_number : Bytes → Option ℕ
join_number w = option_and_then join_named (part_in w)

abbrev pub group_name : ℕ → ℕ → GroupName
group_name atom group = record { atom = atom; group = group }

-- an atom's number, a dot and a group's number
abbrev pub group_behind : Bytes → Option GroupName
group_behind bytes = elim (dotted bytes) [ None ↦ None | Some atom ↦ option_map (group_name atom.0) (whole (drop atom.1 bytes)) ]

-- the group of an atom that a word names, such as `a1.2`
abbrev pub group_in : Bytes → Option GroupName
group_in [] = None
group_in (b ∷ bytes) = if b == 97 then group_behind bytes else None

-- the number of the fragment that a string names
unfoldable pub fragment_of : Data → Option ℕ
fragment_of d = option_and_then fragment_number (as_str d)
