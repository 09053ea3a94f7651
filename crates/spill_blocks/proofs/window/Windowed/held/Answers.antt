use Rattle.std.proofs.Common.{◌-◌, ◌∙◌, ap, ap₂, drop, length, min, sym}
use Rattle.spill_blocks.proofs.WindowLaws.{holds_behind, holds_none}
use Rattle.spill_blocks.proofs.window.Windowed.held.Goals as goal

pub returns-then-at-self : goal.returns-then-at-self
returns-then-at-self g c = rw (← c.self.view_is) (holds_none _ c.args.at c.self.invariant c.if-at-self.true)

pub returns : goal.returns
returns g c =
    rw (← c.self.view_is)
    (holds_behind _ c.args.at _ c.self.invariant c.if-at-self.false
    (c.split_at.ensures.back ∙ ap₂ drop (c.min-skipped.ensures ∙ ap (min (c.args.at - c.self.inside.start)) (c.len.ensures ∙ sym c.as_slice.ensures.len ∙ ap length c.as_slice.ensures.value)) c.as_slice.ensures.value))
