-- Objects where they lie: their runs and their hashes.
use mathlib.Core.Path.{◌≡◌, refl, sym, ap, ◌∙◌}
use Prim.Native.Nat.{ℕ, ◌<◌}
use mathlib.Core.List.{List}
use native.Mathlib.Omega.{arith}
use Rattle.layout.specs.Words.{open_depth}
use Rattle.layout.specs.Decode.{object_in}
use Rattle.layout.specs.Known.{Read, Innermost}
use Rattle.layout.specs.Spans.{Within, Lies}
use Rattle.layout.specs.declared.state.State.{State}
use Rattle.layout.specs.declared.span.Span.{Span}
use Rattle.layout.proofs.Facts.{words-read, size-known}
use Rattle.session_find.specs.declared.Runs.{Runs}
use Rattle.session_find.specs.Runs.{runs_of, HasRuns}
use Rattle.session_find.proofs.Looks.{has-runs}
use Rattle.steps.specs.Steps.{innermost_in}
use Rattle.steps.proofs.Innermost.{inner-is}
use Rattle.session_hash.specs.Hash.{hash_of}
use Rattle.session_index.specs.Walk.{Laid}

pub laid_runs : {b w : List ℕ} {objects : ℕ} {s : Span} {r : Runs} → Laid b w objects s → r ≡ runs_of objects s → HasRuns b w (object_in b w s) r
laid_runs {objects = objects} k e = has-runs objects k.objects_is k.tested k.size e (record { is = refl; within = k.within })

module _ {b w : List ℕ} {s : State} (r : Read b w s) where
  pub laid : {own : Span} → Within w own → Laid b w s.objects own
  laid k = record { tested = (words-read r).tested; size = size-known r; objects_is = r.objects_is; within = k }

-- by the span that a table gives
pub hash-lies : (b : List ℕ) {w : List ℕ} {lies s : Span} {h : ℕ} → h ≡ hash_of (object_in b w s) → Lies w lies s → h ≡ hash_of (object_in b w lies)
hash-lies b {w} e k = e ∙ ap (λ (s : Span). hash_of (object_in b w s)) k.is

-- of the innermost open one
pub hash-inner : {b w : List ℕ} {s : State} {own : Span} {h : ℕ} → Read b w s → Innermost w s own → h ≡ hash_of (object_in b w own) → h ≡ hash_of (innermost_in b w)
hash-inner {b} {w} r k e =
    let some : 0 < open_depth w = omega (arith, r.depth_is, k.some) in
    e ∙ ap (λ (s : Span). hash_of (object_in b w s)) k.is ∙ ap hash_of (sym (inner-is b w some))
