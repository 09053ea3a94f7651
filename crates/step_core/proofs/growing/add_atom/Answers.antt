use Rattle.std.proofs.Common.{length, sym, ap, subst, ◌∙◌, ◌∷◌, arith}
use Rattle.step_core.specs.Planting.{FitsAtom}
use Rattle.step_core.proofs.Piling.{heads_same}
use Rattle.step_core.proofs.growing.add_atom.Goals as goal

pub first_of-requires : goal.first_of-requires
first_of-requires g c = Prim.omega (arith, ap length c.requires.is)

pub atom-requires : goal.atom-requires
atom-requires g c = subst FitsAtom (heads_same c.requires.atom c.first_of.result c.requires.rest c.first_of.new.items.items (sym c.requires.is ∙ c.first_of.ensures)) c.requires.fits

pub returns : goal.returns
returns g c = record { atom = c.first_of.result; is = c.first_of.ensures; added = c.in_ok-push.ensures ∙ ap (λ t. t ∷ c.args.pile.now) c.in_ok-tree.ensures }
