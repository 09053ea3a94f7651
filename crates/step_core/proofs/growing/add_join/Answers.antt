use Rattle.std.proofs.Common.{◌≡◌, ◌∷◌, length, sym, ap, subst, ◌∙◌, arith}
use Rattle.step_core.specs.Nets.{variables}
use Rattle.step_core.specs.Planting.{FitsJoin}
use Rattle.step_core.proofs.Piling.{heads_same, tails_same}
use Rattle.step_core.proofs.growing.add_join.Goals as goal

pub first_of-join-requires : goal.first_of-join-requires
first_of-join-requires g c = Prim.omega (arith, ap length c.requires.is)

pub pop-right-requires : goal.pop-right-requires
pop-right-requires g c = Prim.omega (arith, ap length c.requires.top)

pub pop-left-requires : goal.pop-left-requires
pop-left-requires g c = Prim.omega (arith, ap length (tails_same c.pop-right.result c.requires.right c.pop-right.new.self (c.requires.left ∷ c.requires.below) (sym c.pop-right.ensures ∙ c.requires.top)))

pub join-requires : goal.join-requires
join-requires g c =
    let join : c.requires.join ≡ c.first_of-join.result = heads_same c.requires.join c.first_of-join.result c.requires.rest c.first_of-join.new.items.items (sym c.requires.is ∙ c.first_of-join.ensures) in
    let tops = sym c.requires.top ∙ c.pop-right.ensures in
    let right : c.requires.right ≡ c.pop-right.result = heads_same c.requires.right c.pop-right.result (c.requires.left ∷ c.requires.below) c.pop-right.new.self tops in
    let left : c.requires.left ≡ c.pop-left.result
    = heads_same c.requires.left c.pop-left.result c.requires.below c.pop-left.new.self (tails_same c.requires.right c.pop-right.result (c.requires.left ∷ c.requires.below) c.pop-right.new.self tops ∙ c.pop-left.ensures) in
    subst (λ j. FitsJoin (variables c.pop-left.result) (variables c.pop-right.result) j) join
    (subst (λ t. FitsJoin (variables t) (variables c.pop-right.result) c.requires.join) left (subst (λ t. FitsJoin (variables c.requires.left) (variables t) c.requires.join) right c.requires.fits))

pub returns : goal.returns
returns g c = record {
  join = c.first_of-join.result;
  is = c.first_of-join.ensures;
  left = c.pop-left.result;
  right = c.pop-right.result;
  below = c.pop-left.new.self;
  top = c.pop-right.ensures ∙ ap (λ ts. c.pop-right.result ∷ ts) c.pop-left.ensures;
  made = c.in_ok-tree.tree;
  fork = c.in_ok-tree.ensures;
  added = c.in_ok-push.ensures;
}
