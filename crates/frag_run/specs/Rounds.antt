-- A pass, and how many in a row moved nothing.
use Rattle.std.specs.Prelude.{◌≡◌, ◌⊎◌, ℕ, ◌+◌, ◌<◌, ◌≤◌}
use Rattle.med_base.specs.declared.outside.source.Source.{Ghosts as Source}
use Rattle.step_core.specs.Nets.{NetState}
use Rattle.step_core.specs.Passes.{NetIsQuiet}
use Rattle.step_core.specs.Work.{net_left}
use Rattle.frag_run.specs.Ends.{AreDry}

-- it moved something, and less is left to do
pub record MovesOn {S M : Type 0} (source : Source S M) (s t : NetState S) (now : ℕ) : Type 0 where
  pub none : now ≡ 0
  pub falls : net_left source t < net_left source s

-- it moved nothing
pub record IsIdle {S M : Type 0} (source : Source S M) (s t : NetState S) (before now : ℕ) : Type 0 where
  pub more : now ≡ before + 1
  pub stays : net_left source t ≤ net_left source s

-- A pass over a net in which nothing was to do but for members: so many in a row had moved nothing before, and so many have now.
pub record Passes {S M : Type 0} (source : Source S M) (s t : NetState S) (before now : ℕ) : Type 0 where
  pub quiet : NetIsQuiet t
  pub counted : MovesOn source s t now ⊎ IsIdle source s t before now
  pub dry : AreDry before s.tree s.edge → AreDry now t.tree t.edge
