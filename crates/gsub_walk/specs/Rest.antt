-- What is left to do of a walk: the ops of the open tables' fields, from the innermost out.
use Rattle.std.specs.Prelude.{◌≡◌, ℕ, zero, suc, ◌+◌, ◌-◌, ◌*◌, ◌≤◌, ◌<◌, List, [], ◌∷◌, ◌++◌, Bool, true, false, length, get_or, drop, set, replicate, Some}
use Rattle.lists.specs.Lists.{part}
use Rattle.gsub.specs.declared.Scope.TheVariants.{Single}
use Rattle.gsub.specs.declared.Kind.{Kind}
use Rattle.gsub.specs.declared.Kind.TheVariants.{Header}
use Rattle.gsub.specs.declared.Field.{Field}
use Rattle.gsub.specs.Tables.{fields_at}
use Rattle.gsub.specs.declared.Mode.{Mode}
use Rattle.gsub.specs.declared.Mode.TheVariants.{Plain as plain}
use Rattle.gsub.specs.Ops.{by_rule, feature_at, Op, begin, put, link, end, stop, fields_ops}
use Rattle.gsub.specs.Promote.{new_bytes, bytes_in, place_in, child_mode, child_place, mode_ops}
use Rattle.gsub.specs.Meaning.{deepest}
use Rattle.gsub_rows.specs.Fields.{farthest, most_width, Found, Fits}
use Rattle.gsub_walk.specs.declared.walk.Frame.{Frame}
use Rattle.gsub_walk.specs.declared.walk.Walk.{Walk}
use Rattle.gsub_walk.specs.declared.walk.Move.{Move}

-- ---- the open tables, the innermost first

abbrev pub no_frame : Frame
no_frame = record { mode = plain; kind = Header Single; place = 0; index = 0; at = 0; width = 0 }

unfoldable pub stack : List Frame → ℕ → List Frame
stack l zero = []
stack l (suc d) = get_or l d no_frame ∷ stack l d

abbrev pub standing : Walk → List Frame
standing w = stack w.frames w.depth

-- behind its next field, of this width
abbrev pub next_of : Frame → ℕ → Frame
next_of f width = record { mode = f.mode; kind = f.kind; place = f.place; index = f.index + 1; at = f.at + width; width = width }

abbrev pub frame_of : Mode → Kind → ℕ → Frame
frame_of m k p = record { mode = m; kind = k; place = p; index = 0; at = 0; width = 0 }

-- ---- what is left of them

-- the link to a child that is closed
abbrev pub link_ops : Bool → ℕ → List Op
link_ops true w = link w ∷ []
link_ops false w = []

-- the bytes that a frame's table is read from, and its place in them
abbrev pub bytes_of : List ℕ → Frame → List ℕ
bytes_of b f = bytes_in b f.mode f.place

abbrev pub place_of : Frame → ℕ
place_of f = place_in f.mode f.place

abbrev pub fields_of : List ℕ → Frame → List Field
fields_of b f = fields_at (bytes_of b f) f.kind (place_of f)

abbrev pub fields_left : List ℕ → Frame → List Field
fields_left b f = drop f.index (fields_of b f)

-- its child of kind k, which the offset at a leads to at q; n tables deep
abbrev pub mode_of : List ℕ → Frame → ℕ → Kind → ℕ → Mode
mode_of b f a k q = child_mode b f.mode f.place a k q

abbrev pub child_ops : ℕ → List ℕ → Frame → ℕ → Kind → ℕ → List Op
child_ops n b f a k q = mode_ops n b (mode_of b f a k q) k (child_place f.mode f.place q)

-- children of the innermost one may go n tables deep
unfoldable pub rest : List ℕ → ℕ → Bool → List Frame → List Op
rest b n back [] = []
rest b n back (f ∷ fs) = link_ops back f.width ++ (fields_ops (child_ops n b f) (bytes_of b f) (place_of f) f.at (fields_left b f) ++ (end ∷ rest b (suc n) true fs))

unfoldable pub rest_of : List ℕ → Walk → List Op
rest_of b w = rest b (deepest - w.depth) w.back (standing w)

-- ---- walks that fit the code's numbers

pub record FrameOk (f : Frame) : Type 0 where
  pub fits : Fits f.mode f.kind
  pub begins : f.place ≤ farthest
  pub near : place_of f + f.at ≤ farthest
  pub few : 2 * f.index ≤ f.at
  pub first : f.index ≡ 0 → f.at ≡ 0
  pub narrow : f.width ≤ most_width

unfoldable pub FramesOk : List Frame → Type 0
FramesOk [] = Unit {0}
FramesOk (f ∷ fs) = FrameOk f × FramesOk fs

pub record Standing (w : Walk) : Type 0 where
  pub deep : w.depth ≤ deepest
  pub sized : length w.frames ≡ deepest
  pub frames-ok : FramesOk (standing w)

-- ---- moves

abbrev pub advanced : Walk → Frame → ℕ → Walk
advanced w f width = record { depth = w.depth; back = false; frames = set w.frames (w.depth - 1) (next_of f width) }

abbrev pub linked : Walk → Walk
linked w = record { depth = w.depth; back = false; frames = w.frames }

abbrev pub entered : Walk → Mode → Kind → ℕ → Walk
entered w m k p = record { depth = w.depth + 1; back = false; frames = set w.frames w.depth (frame_of m k p) }

abbrev pub left : Walk → Walk
left w = record { depth = w.depth - 1; back = true; frames = w.frames }

-- the op that is made, and what is left after it
pub record Goes (b : List ℕ) (w : Walk) (o : Op) (next : Walk) : Type 0 where
  pub made : rest_of b w ≡ o ∷ rest_of b next
  pub stands : Standing next

pub record Stops (b : List ℕ) (w : Walk) (p : ℕ) : Type 0 where
  pub later : List Op
  pub made : rest_of b w ≡ stop p ∷ later

-- a walk that stops or is done stays as it was
unfoldable pub MovesBy : List ℕ → Walk → Move → Walk → Type 0
MovesBy b w Move.Begin next = Goes b w begin next
MovesBy b w (Move.Put at width) next = Goes b w (put (part at (at + width) b)) next × (at + width ≤ length b)
MovesBy b w (Move.New at width) next = Goes b w (put (part at (at + width) new_bytes)) next × (at + width ≤ length new_bytes)
MovesBy b w (Move.Link width) next = Goes b w (link width) next × (width ≤ most_width)
MovesBy b w Move.End next = Goes b w end next
MovesBy b w (Move.Stop p) next = Stops b w p × (next ≡ w)
MovesBy b w Move.Done next = (rest_of b w ≡ []) × (next ≡ w)

-- g is the next field of f, the innermost table
pub record NextIs (b : List ℕ) (w : Walk) (f : Frame) (g : Field) : Type 0 where
  pub stands : Standing w
  pub inside : 0 < w.depth
  pub forth : w.back ≡ false
  pub innermost : f ≡ get_or w.frames (w.depth - 1) no_frame
  pub found : Found (fields_of b f) f.index (Some g)

-- the walk of one table, which is open
abbrev pub begun_at : Mode → Kind → ℕ → Walk
begun_at m k p = record { depth = 1; back = false; frames = replicate deepest (frame_of m k p) }

-- the innermost table's next field is read from b itself
pub record AsIs (b : List ℕ) (f : Frame) (g : Field) : Type 0 where
  pub place_same : place_of f ≡ f.place
  pub long_same : length (bytes_of b f) ≡ length b
  pub bytes_same : part (f.place + f.at) (f.place + f.at + g.width) (bytes_of b f) ≡ part (f.place + f.at) (f.place + f.at + g.width) b
  pub child-same : (q : ℕ) → child_place f.mode f.place q ≡ q
  pub rule-same : (v : ℕ) → by_rule g.rule (feature_at (bytes_of b f) (place_of f + f.at)) v ≡ by_rule g.rule (feature_at b (f.place + f.at)) v
