-- The walk stands after each move, and less of it is left.
use native.Mathlib.Omega.{arith}
use Rattle.gsub.specs.declared.Scope.TheVariants.{Whole}
use Rattle.gsub.specs.declared.Kind.TheVariants.{Header}
use Rattle.gsub.specs.declared.Mode.TheVariants.{Plain}
use Rattle.gsub_rows.specs.Fields.{Fits}
use Rattle.gsub_walk.proofs.Moving.{begun-stands}
use Rattle.gsub_show.proofs.Walks.{walked}
use Rattle.gsub_show.proofs.visits.visits.Goals as goal

pub loop-next-init : goal.loop-next-init
unfolding Fits
loop-next-init c = rw c.begun-walk.ensures (begun-stands Plain (Header Whole) 0 tt (omega arith))

pub loop-next-smaller : goal.loop-next-smaller
loop-next-smaller c = (walked _ _ _ _ _ c.step.ensures c.with_move.ensures c.in-Some.is).less

pub loop-next-preserved : goal.loop-next-preserved
loop-next-preserved c = (walked _ _ _ _ _ c.step.ensures c.with_move.ensures c.in-Some.is).stands
