-- The head's bytes read back, and that what is held of a stretch is enough to judge it.
use mathlib.Core.Path.{◌≡◌, refl, sym, ap, ◌∙◌}
use mathlib.Core.List.{List, [], ◌∷◌, ◌++◌, append_assoc}
use mathlib.Core.Bool.{Bool, true, false, ◌&&◌}
use Prim.Native.Nat.{ℕ, ◌+◌, ◌-◌, ◌≤◌, ◌<◌}
use native.Mathlib.Omega.{arith}
use lib.Dec.{eqb, leb}
use lib.ListN.{length, take, drop, get_or, length-take, length-append}
use lib.Seq.{take_all, take_at, drop_at, take-append-le, take-take, length-take-le}
use borrow.Author.Tests.{lt-ltb, leb-true, leb-false}
use Rattle.std.specs.Prelude.{Some, None, Err}
use Rattle.lists.specs.Lists.{pick, part, over}
use Rattle.lists.proofs.Over.{length_over}
use Rattle.lists.proofs.Tests.{same-lengths}
use Rattle.lists.proofs.Same.{and_left}
use Rattle.big_endian.specs.BigEndian.{capacity, big_endian, read_big}
use Rattle.big_endian.proofs.Laws.{length-big, big-read}
use Rattle.text.proofs.Decimals.{width-ten}
use Rattle.cable_frame.specs.Frame.{check_key, line_feed, frame, most_frames}
use Rattle.cable_frame.proofs.LinesPut.{length-frame}
use Rattle.cable_scan.specs.Scan.{agreed, differs, line_next, ends, scanned, scan_on}
use Rattle.cable_judge.specs.declared.answers.NoFrame.TheVariants as NoFrame
use Rattle.cable_judge.specs.Judge.{told_count, told_size, told_data, is_awaited, fits_out, accepted, outcome, verdict}
use Rattle.cable_judge.proofs.Verdicts.{Told, right, same, awaited-split, right-facts, length-data}
use Rattle.cable_head.specs.Feed.{len_at, line_at, awaited_at, count_at, held_at, held_size, head_need, number_at, len_of, held_of, numbers, head_with}
use Rattle.cable_head.proofs.Heads.{length-numbers}

-- ---- the head's bytes read back

-- what stands behind u
part_at : (u v w : List ℕ) (k m : ℕ) → length u ≡ k → length v ≡ m → part k (k + m) (u ++ (v ++ w)) ≡ v
part_at u v w k m e f =
    let z : k + m - k ≡ m = omega arith in
    rw (drop_at u (v ++ w) k e, z) (take_at v w m f)

number_read : (u w : List ℕ) (k n : ℕ) → length u ≡ k → n < capacity 4 → number_at k (u ++ (big_endian 4 n ++ w)) ≡ n
number_read u w k n e h = ap read_big (part_at u (big_endian 4 n) w k 4 e (length-big 4 n)) ∙ big-read 4 n (lt-ltb n (capacity 4) h)

module _ (s : List ℕ) (line n c : ℕ) (h : List ℕ) (full : head_need ≤ length h) (short : length s ≤ held_size) where
  abbrev front : List ℕ
  front = numbers (length s) line n c

  inside : length (front ++ s) ≤ head_need
  inside = omega (arith, length-append front s, length-numbers (length s) line n c)

  pub with-length : length (head_with s line n c h) ≡ length h
  unfolding head_with
  with-length = length_over 0 (front ++ s) h (omega (arith, inside))

  rest : List ℕ
  rest = drop (0 + length (front ++ s)) h

  laid : head_with s line n c h ≡ (front ++ s) ++ rest
  unfolding head_with over rest
  laid = refl

  module _ (bl : line < capacity 4) (bn : n < capacity 4) (bc : c < capacity 4) where
    abbrev x : List ℕ
    x = big_endian 4 (length s)

    abbrev y : List ℕ
    y = big_endian 4 line

    abbrev z : List ℕ
    z = big_endian 4 n

    abbrev behind : List ℕ
    behind = big_endian 4 c ++ (s ++ rest)

    pub len_read : number_at len_at (head_with s line n c h) ≡ length s
    len_read =
        let e : (front ++ s) ++ rest ≡ x ++ (y ++ (z ++ behind)) = simp append_assoc in
        ap (number_at len_at) (laid ∙ e) ∙ number_read [] (y ++ (z ++ behind)) 0 (length s) refl (omega arith)

    pub line_read : number_at line_at (head_with s line n c h) ≡ line
    line_read =
        let e : (front ++ s) ++ rest ≡ x ++ (y ++ (z ++ behind)) = simp append_assoc in
        ap (number_at line_at) (laid ∙ e) ∙ number_read x (z ++ behind) 4 line (length-big 4 (length s)) bl

    pub awaited-read : number_at awaited_at (head_with s line n c h) ≡ n
    awaited-read =
        let e : (front ++ s) ++ rest ≡ (x ++ y) ++ (z ++ behind) = simp append_assoc in
        ap (number_at awaited_at) (laid ∙ e) ∙ number_read (x ++ y) behind 8 n (omega (arith, length-append x y, length-big 4 (length s), length-big 4 line)) bn

    pub count-read : number_at count_at (head_with s line n c h) ≡ c
    count-read =
        let e : (front ++ s) ++ rest ≡ (x ++ (y ++ z)) ++ behind = simp append_assoc in
        ap (number_at count_at) (laid ∙ e)
        ∙ number_read (x ++ (y ++ z)) (s ++ rest) 12 c (omega (arith, length-append x (y ++ z), length-append y z, length-big 4 (length s), length-big 4 line, length-big 4 n)) bc

    pub held-read : held_of (head_with s line n c h) ≡ s
    held-read =
        let z : len_of (head_with s line n c h) ≡ length s = omega (arith, len_read) in
        ap (λ (k : ℕ). part held_at (held_at + k) (head_with s line n c h)) z
        ∙ ap (part held_at (held_at + length s)) (laid ∙ append_assoc front s rest)
        ∙ part_at front s rest held_at (length s) (length-numbers (length s) line n c) refl

-- ---- what is held

-- the first n of p and t, from the first n of p
pub take_again : (n : ℕ) (p t : List ℕ) → take n (take n p ++ t) ≡ take n (p ++ t)
take_again n p t = by (leb n (length p)) refl
  where
    by : (x : Bool) → leb n (length p) ≡ x → take n (take n p ++ t) ≡ take n (p ++ t)
    by true e =
        let h : n ≤ length p = leb-true n (length p) e in
        take-append-le n (take n p) t (omega (arith, length-take-le n p h)) ∙ take-take n n p (omega arith) ∙ sym (take-append-le n p t h)
    by false e =
        let h : length p < n = leb-false n (length p) e in
        ap (λ (q : List ℕ). take n (q ++ t)) (take_all n p (omega arith))

-- ---- a stretch longer than what is held is no frame

long-refused : (n c : ℕ) (s : List ℕ) → held_size ≤ length s → is_awaited n c s ≡ false
long-refused n c s h = awaited-split n c s ∙ by (right n c s) refl
  where
    by : (x : Bool) → right n c s ≡ x → (x && same n c s) ≡ false
    by false e = refl
    by true e =
        let m : ℕ = told_count n s in
        let d : List ℕ = told_data n m s in
        let f : Told n m c (told_size n m s) s = right-facts n c s e in
        same-lengths eqb s (frame n m d) (λ k. omega (arith, k, length-frame n m d, length-data n c s e, f.size, width-ten n, width-ten m))

verdict-long : (n c : ℕ) (out s : List ℕ) → held_size ≤ length s → verdict n c out s ≡ outcome (Err NoFrame.NotAwaited) n c out
unfolding verdict
verdict-long n c out s h = rw (long-refused n c s h)

-- what is held of a stretch gets the stretch's answer
pub verdict-held : (n c : ℕ) (out s : List ℕ) → verdict n c out (take held_size s) ≡ verdict n c out s
verdict-held n c out s = by (leb (length s) held_size) refl
  where
    by : (x : Bool) → leb (length s) held_size ≡ x → verdict n c out (take held_size s) ≡ verdict n c out s
    by true e = ap (verdict n c out) (take_all held_size s (leb-true (length s) held_size e))
    by false e =
        let h : held_size < length s = leb-false (length s) held_size e in
        verdict-long n c out (take held_size s) (omega (arith, length-take held_size s)) ∙ sym (verdict-long n c out s (omega arith))

-- ---- what is kept stays small

pub record Small (n c : ℕ) : Type 0 where
  pub awaited : n ≤ most_frames
  pub count : c ≤ most_frames

pub verdict-small : (n c : ℕ) (out s : List ℕ) → Small n c → Small (verdict n c out s).awaited (verdict n c out s).count
unfolding verdict
verdict-small n c out s h = by (is_awaited n c s) refl (fits_out n (told_size n (told_count n s) s) (length out))
  where
    by : (x : Bool) → is_awaited n c s ≡ x → (y : Bool)
        → Small (pick x (pick y (accepted n (told_count n s) s out) (outcome (Err NoFrame.OutputShort) n c out)) (outcome (Err NoFrame.NotAwaited) n c out)).awaited
        (pick x (pick y (accepted n (told_count n s) s out) (outcome (Err NoFrame.OutputShort) n c out)) (outcome (Err NoFrame.NotAwaited) n c out)).count
    by true e true =
        let f : Told n (told_count n s) c (told_size n (told_count n s) s) s = right-facts n c s (and_left (right n c s) (same n c s) (sym (awaited-split n c s) ∙ e)) in
        record { awaited = omega (arith, f.below, f.most); count = f.most }
    by true e false = h
    by false e y = h

next_small : (line b : ℕ) → line ≤ differs → line_next line b ≤ differs
next_small line b h = by (eqb b line_feed) (leb agreed line) refl (eqb b (get_or check_key line 0))
  where
    by : (x y : Bool) → leb agreed line ≡ y → (z : Bool) → pick x 0 (pick y line (pick z (line + 1) differs)) ≤ differs
    by true y e z = omega arith
    by false true e z = h
    by false false e true = let k : line < agreed = leb-false agreed line e in omega arith
    by false false e false = omega arith

pub scan-small : (k line m : ℕ) (t : List ℕ) → line ≤ differs → (scan_on k line t).line ≡ Some m → m ≤ differs
unfolding scan_on
scan-small k line m [] h e = let l : line ≡ m = cc in omega arith
scan-small k line m (b ∷ t) h e = by (ends line b) (scan-small (k + 1) (line_next line b) m t (next_small line b h)) e
  where
    by : (x : Bool) → ((scan_on (k + 1) (line_next line b) t).line ≡ Some m → m ≤ differs)
        → (pick x (scanned (k + 1) None) (scan_on (k + 1) (line_next line b) t)).line ≡ Some m → m ≤ differs
    by true i f = absurd (cc)
    by false i f = i f
