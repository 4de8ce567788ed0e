-- Each move of a walk: the op that it makes is the first of those left, and the walk after it has the others left.
use mathlib.Core.Path.{◌≡◌, refl, sym, ap, ◌∙◌}
use Prim.Native.Nat.{ℕ, suc, ◌+◌, ◌-◌, ◌≤◌, ◌<◌}
use mathlib.Core.List.{List, [], ◌∷◌, ◌++◌, append_assoc}
use mathlib.Core.Bool.{Bool, true, false}
use native.Mathlib.Numerals.{add-one}
use native.Mathlib.Omega.{arith}
use lib.ListN.{get_or, drop_of_length-le}
use lib.Seq.{drop-cons}
use Rattle.lists.specs.Lists.{part}
use Rattle.gsub.specs.declared.Kind.{Kind}
use Rattle.gsub.specs.declared.Mode.{Mode}
use Rattle.gsub.specs.declared.Field.{Field}
use Rattle.gsub.specs.declared.Act.TheVariants.{Keep as keep, Follow as follow, Refuse as refuse}
use Rattle.gsub.specs.Tables.{uint16}
use Rattle.gsub.specs.Ops.{value_at, act, begin, put, link, end, stop, act_ops, fields_ops}
use Rattle.gsub.specs.Meaning.{deepest}
use Rattle.gsub.specs.Promote.{child_place, mode_ops}
use Rattle.std.specs.Prelude.{Option, Some, None}
use Rattle.gsub_rows.specs.Fields.{farthest, Found, Narrow, Fits}
use Rattle.gsub_walk.specs.declared.walk.Frame.{Frame}
use Rattle.gsub_walk.specs.declared.walk.Walk.{Walk}
use Rattle.gsub_walk.specs.declared.walk.Move.TheVariants as Move
use Rattle.gsub_walk.specs.Rest.{stack, next_of, frame_of, bytes_of, place_of, fields_of, fields_left, mode_of, child_ops, rest, rest_of, FrameOk, Standing, advanced, linked, entered, left, Goes, Stops, MovesBy, NextIs, no_frame, begun_at, FramesOk}
use Rattle.gsub_walk.proofs.Stacks.{under, standing-is, top-ok, advanced-is, advanced-stands, left-stands, linked-stands, entered-is, entered-stands, frame-ok}

-- ---- on the list of open tables

module _ (b : List ℕ) (n : ℕ) (f : Frame) (fs : List Frame) where
  abbrev at : ℕ
  at = place_of f + f.at

  abbrev l : List ℕ
  l = bytes_of b f

  rest_end : fields_left b f ≡ [] → rest b n false (f ∷ fs) ≡ end ∷ rest b (suc n) true fs
  unfolding rest fields_ops
  rest_end e = rw e

  rest-link : rest b n true (f ∷ fs) ≡ link f.width ∷ rest b n false (f ∷ fs)
  unfolding rest
  rest-link = refl

  module _ (g : Field) (e : fields_left b f ≡ g ∷ fields_left b (next_of f g.width)) where
    rest_put : act l at g ≡ keep → rest b n false (f ∷ fs) ≡ put (part at (at + g.width) l) ∷ rest b n false (next_of f g.width ∷ fs)
    unfolding rest fields_ops act_ops
    rest_put h = rw (e, h)

    rest-stop : act l at g ≡ refuse
        → rest b n false (f ∷ fs) ≡ stop at ∷ (fields_ops (child_ops n b f) l (place_of f) (f.at + g.width) (fields_left b (next_of f g.width)) ++ (end ∷ rest b (suc n) true fs))
    unfolding rest fields_ops act_ops
    rest-stop h = rw (e, h)

    rest-follow : (k : Kind) → act l at g ≡ follow k
        → rest b n false (f ∷ fs) ≡ child_ops n b f f.at k (place_of f + value_at l at g.width) ++ rest b n true (next_of f g.width ∷ fs)
    unfolding rest fields_ops act_ops
    rest-follow k h = rw (e, h) (simp append_assoc)

-- a table is open with all of its fields left
begin-rest : (b : List ℕ) (n : ℕ) (m : Mode) (k : Kind) (p : ℕ) (fs : List Frame) → mode_ops (suc n) b m k p ++ rest b (suc n) true fs ≡ begin ∷ rest b n false (frame_of m k p ∷ fs)
unfolding rest mode_ops
begin-rest b n m k p fs = simp append_assoc

-- ---- on a walk whose innermost table is f

module _ (b : List ℕ) {w : Walk} (s : Standing w) (o : 0 < w.depth) {f : Frame} (e : f ≡ get_or w.frames (w.depth - 1) no_frame) where
  abbrev n : ℕ
  n = deepest - w.depth

  abbrev fs : List Frame
  fs = under w s o

  pub innermost-ok : FrameOk f
  innermost-ok = rw e (top-ok w s o)

  rest-is : (back : Bool) → w.back ≡ back → rest_of b w ≡ rest b n back (f ∷ fs)
  unfolding rest_of
  rest-is back h = rw (h, standing-is w s o, e)

  pub link-made : {r : Walk} → w.back ≡ true → r ≡ linked w → MovesBy b w (Move.Link f.width) r
  unfolding MovesBy rest_of
  link-made h q = rw q (
    record { made = rest-is true h ∙ rest-link b n f fs ∙ ap (λ z. link f.width ∷ rest b n false (z ∷ fs)) e ∙ ap (λ z. link f.width ∷ rest b n false z) (sym (standing-is w s o)); stands = linked-stands w s o },
    innermost-ok.narrow,
  )

  pub end-made : {r : Walk} {x : Option Field} → w.back ≡ false → Found (fields_of b f) f.index x → x ≡ None → r ≡ left w → MovesBy b w Move.End r
  unfolding MovesBy rest_of Found
  end-made h z m q =
      let none : fields_left b f ≡ [] = drop_of_length-le (fields_of b f) (rw m at z) in
      let d : suc n ≡ deepest - (w.depth - 1) = omega (arith, s.deep) in
      rw q record { made = rest-is false h ∙ rest_end b n f fs none ∙ ap (λ z. end ∷ rest b z true fs) d; stands = left-stands w s o }

  pub next-is : {x : Option Field} {g : Field} → w.back ≡ false → Found (fields_of b f) f.index x → x ≡ Some g → NextIs b w f g
  next-is h z m = record { stands = s; inside = o; forth = h; innermost = e; found = rw m at z }

-- behind a field that ends near enough
pub behind-stands : {w : Walk} {f : Frame} {g : Field} → Standing w → 0 < w.depth → FrameOk f → Narrow g → place_of f + f.at + g.width ≤ farthest → Standing (advanced w f g.width)
behind-stands {w} {f} {g} s o t n room = advanced-stands w s o f g.width (record {
  fits = t.fits;
  begins = t.begins;
  near = omega arith;
  few = omega (arith, t.few, n.some);
  first = λ e. absurd (omega arith);
  narrow = n.most;
})

-- ---- where g is its next field

module _ {b : List ℕ} {w : Walk} {f : Frame} {g : Field} (x : NextIs b w f g) where
  abbrev deep : ℕ
  deep = deepest - w.depth

  abbrev others : List Frame
  others = under w x.stands x.inside

  abbrev here : ℕ
  here = place_of f + f.at

  pub next-ok : FrameOk f
  next-ok = innermost-ok b x.stands x.inside x.innermost

  pub field-narrow : Narrow g
  unfolding Found
  field-narrow = x.found.2

  now-left : rest_of b w ≡ rest b deep false (f ∷ others)
  now-left = rest-is b x.stands x.inside x.innermost false x.forth

  some_left : fields_left b f ≡ g ∷ fields_left b (next_of f g.width)
  unfolding Found
  some_left = drop-cons (fields_of b f) f.index uint16 x.found.0 ∙ rw (x.found.1, ← add-one f.index)

  pub stop-stops : act (bytes_of b f) here g ≡ refuse → Stops b w here
  stop-stops a = record { later = _; made = now-left ∙ rest-stop b deep f others g some_left a }

  -- a field that ends near enough
  module _ (room : here + g.width ≤ farthest) where
    behind-next : Standing (advanced w f g.width)
    behind-next = behind-stands x.stands x.inside next-ok field-narrow room

    pub put-goes : act (bytes_of b f) here g ≡ keep → Goes b w (put (part here (here + g.width) (bytes_of b f))) (advanced w f g.width)
    unfolding rest_of
    put-goes a = record {
      made = now-left
          ∙ rest_put b deep f others g some_left a
          ∙ ap (λ z. put (part here (here + g.width) (bytes_of b f)) ∷ rest b deep false z) (sym (advanced-is w x.stands x.inside f g.width));
      stands = behind-next;
    }

  -- followed to a table of kind k
  module _ (k : Kind) (a : act (bytes_of b f) here g ≡ follow k) where
    abbrev to : ℕ
    to = place_of f + value_at (bytes_of b f) here g.width

    abbrev to_place : ℕ
    to_place = child_place f.mode f.place to

    pub deep-stops : deepest ≤ w.depth → Stops b w to_place
    unfolding mode_ops
    deep-stops l =
        let m : deep ≡ 0 = omega arith in
        record {
          later = _;
          made = now-left
              ∙ rest-follow b deep f others g some_left k a
              ∙ ap (λ z. mode_ops z b (mode_of b f f.at k to) k to_place ++ rest b deep true (next_of f g.width ∷ others)) m;
        }

    pub begin-goes : here + g.width ≤ farthest → w.depth < deepest → {m : Mode} {p : ℕ} → m ≡ mode_of b f f.at k to → p ≡ to_place → Fits m k → p ≤ farthest
        → Goes b w begin (entered (advanced w f g.width) m k p)
    unfolding rest_of
    begin-goes room l {m} {p} i q t r =
        let v = advanced w f g.width in
        let d = deepest - (w.depth + 1) in
        let e : deep ≡ suc d = omega arith in
        let all = next_of f g.width ∷ others in
        record {
          made = now-left
              ∙ rest-follow b deep f others g some_left k a
              ∙ (λ j. mode_ops (e j) b (sym i j) k (sym q j) ++ rest b (e j) true all)
              ∙ begin-rest b d m k p all
              ∙ ap (λ z. begin ∷ rest b d false (frame_of m k p ∷ z)) (sym (advanced-is w x.stands x.inside f g.width))
              ∙ ap (λ z. begin ∷ rest b d false z) (sym (entered-is v (behind-next room) l (frame_of m k p)));
          stands = entered-stands v (behind-next room) l (frame_of m k p) (frame-ok m k p t r);
        }

-- no table is open
pub done-rest : (b : List ℕ) (w : Walk) → w.depth ≡ 0 → rest_of b w ≡ []
unfolding rest_of rest stack
done-rest b w e = rw e

-- ---- the whole walk

pub begun-rest : (b : List ℕ) (m : Mode) (k : Kind) (p : ℕ) → mode_ops deepest b m k p ≡ begin ∷ rest_of b (begun_at m k p)
unfolding rest_of rest stack mode_ops
begun-rest b m k p = refl

pub begun-stands : (m : Mode) (k : Kind) (p : ℕ) → Fits m k → p ≤ farthest → Standing (begun_at m k p)
unfolding stack FramesOk
begun-stands m k p t h = record { deep = omega arith; sized = refl; frames-ok = (frame-ok m k p t h, tt) }
