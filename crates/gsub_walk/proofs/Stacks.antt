-- The open tables of a walk: the innermost and those under it, and what each change leaves of them.
use mathlib.Core.Path.{◌≡◌, refl, ap, ◌∙◌}
use Prim.Native.Nat.{ℕ, zero, suc, ◌+◌, ◌-◌, ◌≤◌, ◌<◌}
use mathlib.Core.List.{List, ◌∷◌}
use mathlib.Core.Bool.{false}
use native.Mathlib.Omega.{arith}
use lib.ListN.{length, get_or, set, length-set}
use lib.Seq.{get_or-set_same, get_or-set_other}
use Rattle.gsub.specs.declared.Kind.{Kind}
use Rattle.gsub.specs.declared.Mode.{Mode}
use Rattle.gsub.specs.declared.Mode.TheVariants.{Plain, Last, Promoted, New}
use Rattle.gsub.specs.Meaning.{deepest}
use Rattle.gsub.specs.Promote.{place_in}
use Rattle.gsub_rows.specs.Fields.{farthest, Fits}
use Rattle.gsub_walk.specs.declared.walk.Frame.{Frame}
use Rattle.gsub_walk.specs.declared.walk.Walk.{Walk}
use Rattle.gsub_walk.specs.Rest.{no_frame, stack, standing, next_of, frame_of, FrameOk, FramesOk, Standing, advanced, linked, left}

stack_set : (l : List Frame) (d e : ℕ) (x : Frame) → e ≤ d → stack (set l d x) e ≡ stack l e
unfolding stack
stack_set l d zero x h = refl
stack_set l d (suc e) x h = rw (get_or-set_other l d e x no_frame (λ q. omega arith), stack_set l d e x (omega arith))

stack_push : (l : List Frame) (d : ℕ) (x : Frame) → d < length l → stack (set l d x) (suc d) ≡ x ∷ stack l d
unfolding stack
stack_push l d x h = rw (get_or-set_same l d x no_frame h, stack_set l d d x (omega arith))

module _ (w : Walk) (s : Standing w) (o : 0 < w.depth) where
  abbrev pub top : Frame
  top = get_or w.frames (w.depth - 1) no_frame

  abbrev pub under : List Frame
  under = stack w.frames (w.depth - 1)

  depth_is : w.depth ≡ suc (w.depth - 1)
  depth_is = omega arith

  pub standing-is : standing w ≡ top ∷ under
  unfolding stack
  standing-is = ap (λ d. stack w.frames d) depth_is

  oks : FrameOk top × FramesOk under
  unfolding FramesOk
  oks = rw standing-is at s.frames-ok

  pub top-ok : FrameOk top
  top-ok = oks.0

  -- ---- behind a field

  module _ (f : Frame) (width : ℕ) where
    pub advanced-is : standing (advanced w f width) ≡ next_of f width ∷ under
    advanced-is =
        ap (λ d. stack (set w.frames (w.depth - 1) (next_of f width)) d) depth_is
        ∙ stack_push w.frames (w.depth - 1) (next_of f width) (omega (arith, s.sized, s.deep))

    pub advanced-stands : FrameOk (next_of f width) → Standing (advanced w f width)
    unfolding FramesOk
    advanced-stands h = record { deep = s.deep; sized = length-set w.frames (w.depth - 1) (next_of f width) ∙ s.sized; frames-ok = rw advanced-is (h, oks.1) }

  -- ---- closed

  pub left-stands : Standing (left w)
  left-stands = record { deep = omega (arith, s.deep); sized = s.sized; frames-ok = oks.1 }

  pub linked-stands : Standing (linked w)
  linked-stands = record { deep = s.deep; sized = s.sized; frames-ok = s.frames-ok }

-- ---- a child begun

module _ (w : Walk) (s : Standing w) (l : w.depth < deepest) (f : Frame) where
  abbrev pushed : Walk
  pushed = record { depth = w.depth + 1; back = false; frames = set w.frames w.depth f }

  pub entered-is : standing pushed ≡ f ∷ standing w
  entered-is =
      let e : w.depth + 1 ≡ suc w.depth = omega arith in
      ap (λ d. stack (set w.frames w.depth f) d) e ∙ stack_push w.frames w.depth f (omega (arith, s.sized))

  pub entered-stands : FrameOk f → Standing pushed
  unfolding FramesOk
  entered-stands h = record { deep = omega arith; sized = length-set w.frames w.depth f ∙ s.sized; frames-ok = rw entered-is (h, s.frames-ok) }

pub frame-ok : (m : Mode) (k : Kind) (p : ℕ) → Fits m k → p ≤ farthest → FrameOk (frame_of m k p)
unfolding Fits
frame-ok m k p t h = record { fits = t; begins = h; near = go m t; few = omega arith; first = λ e. refl; narrow = omega arith }
  where
    go : (m : Mode) → Fits m k → place_in m p + 0 ≤ farthest
    go Plain t = omega arith
    go (Last n) t = omega arith
    go Promoted t = omega arith
    go (New type) t = omega arith
