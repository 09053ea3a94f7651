-- The members below a join, of those below its two sides.
use Rattle.std.proofs.Common.{◌≡◌, ◌++◌, refl, sym, ap, subst}
use Rattle.std.specs.Prelude.{◌≢◌}
use Rattle.std.specs.List.{AllZip}
use Rattle.med_base.specs.declared.outside.source.Source.{Ghosts as Source}
use Rattle.step_core.specs.Edges.{Waits}
use Rattle.step_core.specs.Going.{then}
use Rattle.step_core.specs.Members.{members_of}
use Rattle.step_core.specs.Nets.{JoinState, NetTree, fork}
use Rattle.step_core.specs.Passes.{MemberGoesOn, TreeIdles, TreeReads}
use Rattle.step_core.specs.declared.actor.StepEnd.{StepEnd}
use Rattle.step_core.specs.declared.actor.StepEnd.TheVariants as step_end
use Rattle.step_core.proofs.Ending.{then_memory, then_still}
use Rattle.step_core.proofs.Reading.{all_both}

pub both_members : {S M : Type 0} (source : Source S M) (t : NetTree S) (j : JoinState) (a b c d e f : NetTree S) → t ≡ fork j a b → c ≡ a → e ≡ b → AllZip (MemberGoesOn source) (members_of c) (members_of d) → AllZip (MemberGoesOn source) (members_of e) (members_of f)
    → AllZip (MemberGoesOn source) (members_of t) (members_of d ++ members_of f)
both_members source t j a b c d e f is a_is b_is left right =
    subst (λ y. AllZip (MemberGoesOn source) (members_of y) (members_of d ++ members_of f)) (sym is)
    (all_both (MemberGoesOn source) (members_of a) (members_of d) (members_of b) (members_of f) (subst (λ y. AllZip (MemberGoesOn source) (members_of y) (members_of d)) a_is left) (subst (λ y. AllZip (MemberGoesOn source) (members_of y) (members_of f)) b_is right))

-- what holds of both sides holds of the join
pub both_idle : {S M : Type 0} (source : Source S M) (t : NetTree S) (j h : JoinState) (a b c d e f : NetTree S) (x y w : Waits) (first next : StepEnd) → t ≡ fork j a b → h ≡ j → c ≡ a → e ≡ b → then first next ≡ step_end.Still
    → (first ≡ step_end.Still → TreeIdles source c d h.left x) → (next ≡ step_end.Still → TreeIdles source e f h.right y) → TreeIdles source t (fork (record h { left = x; right = y }) d f) w w
both_idle source t j h a b c d e f x y w first next is j_is a_is b_is still left right =
    subst (λ n. TreeIdles source n (fork (record h { left = x; right = y }) d f) w w) (sym is) (
      refl,
      (
        ap (λ (i : JoinState). record i { left = x; right = y }) j_is,
        (
          subst (λ n. TreeIdles source n d j.left x) a_is (subst (λ i. TreeIdles source c d i.left x) j_is (left (then_still first next still).0)),
          subst (λ n. TreeIdles source n f j.right y) b_is (subst (λ i. TreeIdles source e f i.right y) j_is (right (then_still first next still).1)),
        ),
      ),
    )

pub both_read : {S M : Type 0} (source : Source S M) (t : NetTree S) (j h : JoinState) (a b c d e f : NetTree S) (x y w : Waits) (first next : StepEnd) → t ≡ fork j a b → h ≡ j → c ≡ a → e ≡ b → then first next ≢ step_end.NoMemory
    → (first ≢ step_end.NoMemory → TreeReads source c d h.left x) → (next ≢ step_end.NoMemory → TreeReads source e f h.right y) → TreeReads source t (fork (record h { left = x; right = y }) d f) w w
both_read source t j h a b c d e f x y w first next is j_is a_is b_is enough left right =
    subst (λ n. TreeReads source n (fork (record h { left = x; right = y }) d f) w w) (sym is) (
      subst (λ n. TreeReads source n d j.left x) a_is (subst (λ i. TreeReads source c d i.left x) j_is (left (then_memory first next enough).0)),
      subst (λ n. TreeReads source n f j.right y) b_is (subst (λ i. TreeReads source e f i.right y) j_is (right (then_memory first next enough).1)),
    )
