-- One chain: the ids passed, and those of other chains, are not the answer.
use mathlib.Core.Path.{sym, ◌∙◌}
use native.Mathlib.Omega.{arith}
use Rattle.session_find.proofs.Looks.{ground}
use Rattle.session_index.proofs.Walks.{walk_first, walk_none, walk_inside, walk_here, walk-next, walk-less, walk-hash, walk-room}
use Rattle.session_index.proofs.look.find_indexed.Goals as goal

pub overflow_mul-x : goal.overflow_mul-x
overflow_mul-x c = omega (arith, c.requires.indexed.fits, c.bucket_of.ensures.1)

pub offset_bounds-index-bucket_of : goal.offset_bounds-index-bucket_of
offset_bounds-index-bucket_of c = omega (arith, c.requires.indexed.fits, c.bucket_of.ensures.1)

pub bounds-index-bucket_of : goal.bounds-index-bucket_of
bounds-index-bucket_of c = omega (arith, c.requires.indexed.fits, c.bucket_of.ensures.1)

pub loop-x-init : goal.loop-x-init
loop-x-init c = rw (c.bucket_of.ensures.0, c.requires.hash_is) (walk_first _ _ _ c.requires.indexed)

pub overflow_mul-at-in-loop-x : goal.overflow_mul-at-in-loop-x
overflow_mul-at-in-loop-x c = omega (arith, walk-room _ _ _ c.loop-x.invariant (omega arith) c.requires.indexed)

pub overflow_add-at : goal.overflow_add-at
overflow_add-at c = omega (arith, walk-room _ _ _ c.loop-x.invariant (omega arith) c.requires.indexed)

pub overflow_add-at-in-loop-x : goal.overflow_add-at-in-loop-x
overflow_add-at-in-loop-x c = omega (arith, walk-room _ _ _ c.loop-x.invariant (omega arith) c.requires.indexed)

pub offset_bounds-index-at : goal.offset_bounds-index-at
offset_bounds-index-at c = omega (arith, walk-room _ _ _ c.loop-x.invariant (omega arith) c.requires.indexed)

pub bounds-index-at : goal.bounds-index-at
bounds-index-at c = omega (arith, walk-room _ _ _ c.loop-x.invariant (omega arith) c.requires.indexed)

pub equals-requires : goal.equals-requires
equals-requires c =
    let p = c.requires in
    let i = c.loop-x.invariant in
    record {
      ground = ground p.read p.lies c.runs_of-runs.ensures;
      inside = walk_inside _ _ _ i (omega arith);
      closed_hash = walk-hash _ _ _ i (omega arith) p.indexed;
      hash_is = p.hash_is;
    }

pub overflow_cast-result : goal.overflow_cast-result
overflow_cast-result c =
    let r = c.requires.read in
    omega (arith, walk_inside _ _ _ c.loop-x.invariant (omega arith), r.closed_is, r.bounds)

pub returns-then-equals : goal.returns-then-equals
returns-then-equals c = walk_here _ _ _ c.loop-x.invariant (omega arith) (sym c.equals.ensures ∙ c.if-equals.true)

pub offset_bounds-index-at-in-loop-x : goal.offset_bounds-index-at-in-loop-x
offset_bounds-index-at-in-loop-x c = omega (arith, walk-room _ _ _ c.loop-x.invariant (omega arith) c.requires.indexed)

pub bounds-index-at-in-loop-x : goal.bounds-index-at-in-loop-x
bounds-index-at-in-loop-x c = omega (arith, walk-room _ _ _ c.loop-x.invariant (omega arith) c.requires.indexed)

pub loop-x-smaller : goal.loop-x-smaller
loop-x-smaller c = walk-less _ _ _ c.loop-x.invariant (omega arith) c.requires.indexed

pub loop-x-preserved : goal.loop-x-preserved
loop-x-preserved c = walk-next _ _ _ c.loop-x.invariant (omega arith) c.requires.indexed (sym c.equals.ensures ∙ c.if-equals.false)

pub overflow_cast-result-2 : goal.overflow_cast-result-2
overflow_cast-result-2 c = omega (arith, c.requires.read.bounds)

pub returns : goal.returns
returns c = c.requires.read.closed_is ∙ walk_none _ _ _ c.loop-x.invariant (omega arith)
