-- `offset_at` meets its contract: both places lie in their area.
use mathlib.Core.Path.{◌∙◌, ap}
use Prim.Native.Nat.{ℕ, ◌-◌}
use Rattle.order_fit.proofs.Looking.{offset_read}
use Rattle.order_fit.proofs.offset_at.Goals as goal

pub returns : goal.returns
returns c =
    c.saturating_sub-2.ensures ∙ ap (λ (k : ℕ). k - c.args.f.inner) c.saturating_sub.ensures ∙ offset_read c.requires.0 _ c.requires.1
