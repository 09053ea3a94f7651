-- The first group whose members all failed.
use Rattle.std.proofs.Common.{◌≡◌, ◌<◌, ◌≤◌, Bool, true, false, List, [], ◌∷◌, ◌++◌, cond, nat_lt, Option, Some, None, refl, sym, ap, subst, ◌∙◌, append_assoc, append-nil, arith}
use Rattle.std.specs.List.{AllByRecursion}
use Rattle.std.specs.Option.{option_to_list}
use Rattle.std.proofs.lemmas.Bool.Decides.{nat_tests}
use Rattle.answer_theory.proofs.Lists.{each_append}
use Rattle.med_base.specs.declared.names.GroupName.{GroupName}
use Rattle.collect_core.specs.Members.{starved_group}
use Rattle.step_core.specs.Members.{IsFirst, IsFirstOf, earlier, starved_groups, starved_in}
use Rattle.step_core.specs.Nets.{NetTree, leaf, fork}

each_then : {X : Type 0} (P Q : X → Type 0) → ((x : X) → P x → Q x) → (xs : List X) → AllByRecursion P xs → AllByRecursion Q xs
each_then P Q to [] h = tt
each_then P Q to (x ∷ xs) h = (to x h.0, each_then P Q to xs h.1)

-- no group has a lesser atom
none_less : (groups : List GroupName) (g : GroupName) → IsFirst groups g → AllByRecursion (λ h. g.atom ≤ h.atom) groups
none_less groups g f = subst (λ l. AllByRecursion (λ h. g.atom ≤ h.atom) l) (sym f.split)
    (each_append (λ h. g.atom ≤ h.atom) f.before (g ∷ f.after) (each_then (λ h. g.atom < h.atom) (λ h. g.atom ≤ h.atom) (λ h lt. Prim.omega arith) f.before f.less) (Prim.omega arith, f.least))

left_first : (xs ys : List GroupName) (g h : GroupName) → IsFirst xs g → IsFirst ys h → g.atom ≤ h.atom → IsFirst (xs ++ ys) g
left_first xs ys g h f e le = record {
  before = f.before;
  after = f.after ++ ys;
  split = ap (λ l. l ++ ys) f.split ∙ append_assoc f.before (g ∷ f.after) ys;
  less = f.less;
  least = each_append (λ x. g.atom ≤ x.atom) f.after ys f.least (each_then (λ x. h.atom ≤ x.atom) (λ x. g.atom ≤ x.atom) (λ x more. Prim.omega arith) ys (none_less ys h e));
}

right_first : (xs ys : List GroupName) (g h : GroupName) → IsFirst xs g → IsFirst ys h → h.atom < g.atom → IsFirst (xs ++ ys) h
right_first xs ys g h f e lt = record {
  before = xs ++ e.before;
  after = e.after;
  split = ap (λ l. xs ++ l) e.split ∙ sym (append_assoc xs e.before (h ∷ e.after));
  less = each_append (λ x. h.atom < x.atom) xs e.before (each_then (λ x. g.atom ≤ x.atom) (λ x. h.atom < x.atom) (λ x more. Prim.omega arith) xs (none_less xs g f)) e.less;
  least = e.least;
}

earlier_first : (xs ys : List GroupName) (o p : Option GroupName) → IsFirstOf xs o → IsFirstOf ys p → IsFirstOf (xs ++ ys) (earlier o p)
earlier_first xs ys None None e f = ap (λ l. l ++ ys) e ∙ f
earlier_first xs ys None (Some h) e f = subst (λ l. IsFirst (l ++ ys) h) (sym e) f
earlier_first xs ys (Some g) None e f = subst (λ l. IsFirst (xs ++ l) g) (sym f) (subst (λ l. IsFirst l g) (sym (append-nil xs)) e)
earlier_first xs ys (Some g) (Some h) e f = go (nat_lt h.atom g.atom) refl
  where
    under : nat_lt h.atom g.atom ≡ true → h.atom < g.atom
    under lt = Prim.grind (arith, nat_tests, lt)

    over : nat_lt h.atom g.atom ≡ false → g.atom ≤ h.atom
    over ge = Prim.grind (arith, nat_tests, ge)

    go : (b : Bool) → nat_lt h.atom g.atom ≡ b → IsFirstOf (xs ++ ys) (cond b (Some h) (Some g))
    go true lt = right_first xs ys g h e f (under lt)
    go false ge = left_first xs ys g h e f (over ge)

alone : (o : Option GroupName) → IsFirstOf (option_to_list o) o
alone None = refl
alone (Some g) = record { before = []; after = []; split = refl; less = tt; least = tt }

pub starved_first : {S : Type 0} (t : NetTree S) → IsFirstOf (starved_groups t) (starved_in t)
starved_first (leaf l) = alone (starved_group l.collecting.members)
starved_first (fork j a b) = earlier_first (starved_groups a) (starved_groups b) (starved_in a) (starved_in b) (starved_first a) (starved_first b)
