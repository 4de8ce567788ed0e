-- Sent undamaged to a fresh head with room, the table comes back.
use Rattle.std.specs.Prelude.{Ok}
use mathlib.Core.Path.{◌≡◌, refl, sym, ap, ◌∙◌}
use mathlib.Core.List.{List, [], ◌∷◌, ◌++◌}
use mathlib.Core.Bool.{Bool, true, false, or-true}
use Prim.Native.Nat.{ℕ, zero, suc, ◌+◌, ◌*◌, ◌≤◌, ◌<◌}
use native.Mathlib.Omega.{arith}
use native.Mathlib.Numerals.{add-one}
use lib.Dec.{leb, ltb}
use lib.ListN.{length, take, drop, length-take, length-drop, take-append-drop, drop_of_length-le}
use lib.Seq.{take_all}
use lib.Pow.{are_bytes}
use borrow.Author.Tests.{le-leb, eq-eqb, leb-true, leb-false}
use Rattle.lists.specs.Lists.{over}
use Rattle.lists.proofs.Same.{and_left, and_right}
use Rattle.lists.proofs.Over.{length_over}
use Rattle.lists.proofs.Overs.{over-then}
use Rattle.lists.proofs.Runs.{over_none}
use Rattle.cable_frame.specs.Frame.{frame, frame_size, most_frames, most_bytes, frame_count, frames_from, sent}
use Rattle.cable_scan.specs.Scan.{stretches_on, stretches}
use Rattle.cable_judge.specs.Judge.{agrees, right_size, Outcome, outcome, verdict}
use Rattle.cable_head.proofs.Heads.{short_none}
use Rattle.cable.specs.Runs.{Fresh, run_of, answered, feeds, told, all_accepted}
use Rattle.cable.proofs.Cutting.{any-cut}
use Rattle.cable.proofs.Passing.{frame-stretch}
use Rattle.cable.proofs.Seen.{accepts}

bytes_take : (n : ℕ) (t : List ℕ) → are_bytes t ≡ true → are_bytes (take n t) ≡ true
bytes_take zero t h = refl
bytes_take (suc n) [] h = refl
bytes_take (suc n) (b ∷ t) h = rw (and_left (ltb b 256) (are_bytes t) h) (bytes_take n t (and_right (ltb b 256) (are_bytes t) h))

bytes_drop : (n : ℕ) (t : List ℕ) → are_bytes t ≡ true → are_bytes (drop n t) ≡ true
bytes_drop zero t h = h
bytes_drop (suc n) [] h = refl
bytes_drop (suc n) (b ∷ t) h = bytes_drop n t (and_right (ltb b 256) (are_bytes t) h)

-- the data of one frame and what is left of the table, each at its place
over-cut : (n : ℕ) (t out : List ℕ) → n * frame_size + length t ≤ length out
    → over ((n + 1) * frame_size) (drop frame_size t) (over (n * frame_size) (take frame_size t) out) ≡ over (n * frame_size) t out
over-cut n t out h = by (leb frame_size (length t)) refl
  where
    by : (x : Bool) → leb frame_size (length t) ≡ x → over ((n + 1) * frame_size) (drop frame_size t) (over (n * frame_size) (take frame_size t) out) ≡ over (n * frame_size) t out
    by true e =
        let a : frame_size ≤ length t = leb-true frame_size (length t) e in
        let k : (n + 1) * frame_size ≡ n * frame_size + length (take frame_size t) = omega (arith, length-take frame_size t) in
        rw k (over-then (n * frame_size) (take frame_size t) out (omega (arith, length-take frame_size t)) (drop frame_size t) ∙ rw (take-append-drop frame_size t))
    by false e =
        let a : length t < frame_size = leb-false frame_size (length t) e in
        rw (drop_of_length-le t {i = frame_size} (omega arith), take_all frame_size t (omega arith)) (over_none ((n + 1) * frame_size) (over (n * frame_size) t out))

size-right : (n m k : ℕ) (t : List ℕ) → n + suc k ≡ m → suc k ≡ frame_count t → right_size n m (length (take frame_size t)) ≡ true
size-right n m k t h e = by (leb frame_size (length t)) refl
  where
    by : (x : Bool) → leb frame_size (length t) ≡ x → right_size n m (length (take frame_size t)) ≡ true
    by true f =
        let g : length (take frame_size t) ≡ frame_size = omega (arith, length-take frame_size t, leb-true frame_size (length t) f) in rw g
    by false f =
        let a : length t < frame_size = leb-false frame_size (length t) f in
        let g : length (take frame_size t) ≡ length t = omega (arith, length-take frame_size t) in
        let l : n + 1 ≡ m = omega arith in
        rw (g, le-leb 1 (length t) (omega arith), le-leb (length t) frame_size (omega arith), eq-eqb (n + 1) m l, or-true)

agrees-same : (m : ℕ) → agrees m m ≡ true
agrees-same m = rw (eq-eqb m m refl, or-true)

-- the frames that are left of a table, all accepted
pub rest_back : (k n m c : ℕ) (t out : List ℕ) → n + k ≡ m → m ≤ most_frames → agrees c m ≡ true → k ≡ frame_count t → are_bytes t ≡ true
    → (1 ≤ length t → n * frame_size + length t ≤ length out)
    → told n c out (stretches (frames_from k n m t)) ≡ run_of (all_accepted k t) (over (n * frame_size) t out) []
unfolding frames_from told stretches_on all_accepted
rest_back zero n m c t out a b e f g h = rw (short_none t (omega arith), over_none (n * frame_size) out)
rest_back (suc k) n m c t out a b e f g h =
    let d : List ℕ = take frame_size t in
    let r : List ℕ = frames_from k (n + 1) m (drop frame_size t) in
    let room : n * frame_size + length t ≤ length out = h (omega arith) in
    let fits : n * frame_size + length d ≤ length out = omega (arith, length-take frame_size t) in
    let v : verdict n c out (frame n m d) ≡ outcome (Ok (length d)) (n + 1) m (over (n * frame_size) d out) =
    accepts n m d c out (omega arith) b e (size-right n m k t a f) (bytes_take frame_size t g) fits in
    let l : length (over (n * frame_size) d out) ≡ length out = length_over (n * frame_size) d out fits in
    let i = rest_back k (n + 1) m m (drop frame_size t) (over (n * frame_size) d out) (omega arith) b (agrees-same m) (omega (arith, length-drop frame_size t)) (bytes_drop frame_size t g)
    (λ q. omega (arith, q, length-drop frame_size t)) in
    ap (λ (j : ℕ). told n c out (stretches_on 0 [] (frame n m d ++ frames_from k j m (drop frame_size t)))) (sym (add-one n))
    ∙ ap (told n c out) (frame-stretch n m d r)
    ∙ ap (λ (o : Outcome). answered o.answer (told o.awaited o.count o.out (stretches_on 0 [] r))) v
    ∙ ap (answered (Ok (length d))) i
    ∙ ap (λ (o : List ℕ). run_of (Ok (length d) ∷ all_accepted k (drop frame_size t)) o []) (over-cut n t out room)

-- a table of 1 to 16,777,216 bytes, its text fed in any cuts to a fresh head with room: every frame is accepted, and the table stands at the front of the output
pub comes_back : (h t out ns : List ℕ) → Fresh h → 1 ≤ length t → length t ≤ most_bytes → are_bytes t ≡ true → length t ≤ length out
    → (feeds h out (sent t) ns).left ≡ [] → feeds h out (sent t) ns ≡ run_of (all_accepted (frame_count t) t) (over 0 t out) []
comes_back h t out ns g a b e k f =
    any-cut h g ns (sent t) out f
    ∙ rest_back (frame_count t) 0 (frame_count t) 0 t out (omega arith) (omega arith) refl refl e (λ q. omega arith)
