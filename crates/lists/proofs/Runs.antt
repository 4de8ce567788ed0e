-- Parts of a list, and lists written over one, an element at a time.
use mathlib.Core.Path.{◌≡◌, sym, ◌∙◌}
use Prim.Native.Nat.{ℕ, suc, ◌+◌, ◌-◌, ◌≤◌, ◌<◌}
use mathlib.Core.List.{List, [], ◌∷◌, ◌++◌, append_assoc}
use native.Mathlib.Nat.{add-zero}
use native.Mathlib.Numerals.{add-one}
use native.Mathlib.Omega.{arith}
use lib.ListN.{length, drop, get_or, set, length-append, length-take, length-drop, length-set, take-append-drop}
use lib.Seq.{take_all, take-suc, take-suc-set, take-set-le, drop-cons, drop-drop, drop-set-lt, drop-set-add, get_or-drop, get_or-set_same}
use Rattle.lists.specs.Lists.{part, over}

pub drop-first : (i : ℕ) (l : List ℕ) → i < length l → drop i l ≡ get_or l i 0 ∷ drop (i + 1) l
drop-first i l h = rw (add-one, drop-cons l i 0)

pub length_part : (a e : ℕ) (l : List ℕ) → e ≤ length l → length (part a e l) ≡ e - a
length_part a e l h = simp (length-take, length-drop) (omega arith)

pub part-first : (a e : ℕ) (l : List ℕ) → a < e → e ≤ length l → part a e l ≡ get_or l a 0 ∷ part (a + 1) e l
part-first a e l h k =
    let n : e - a ≡ suc (e - (a + 1)) = omega arith in
    let m : a < length l = omega arith in
    rw (n, drop-first a l m)

pub part-last : (a e : ℕ) (l : List ℕ) → a ≤ e → e < length l → part a (e + 1) l ≡ part a e l ++ (get_or l e 0 ∷ [])
part-last a e l h k =
    let n : e + 1 - a ≡ suc (e - a) = omega arith in
    let m : a + (e - a) ≡ e = omega arith in
    let b : e - a < length (drop a l) = rw length-drop (omega arith) in
    rw (n, take-suc (drop a l) (e - a) 0 b, get_or-drop a l (e - a) 0, m)

-- a store past a part leaves the part
pub part-set : (a e i v : ℕ) (l : List ℕ) → a ≤ e → e ≤ i → part a e (set l i v) ≡ part a e l
part-set a e i v l h k =
    let n : i ≡ a + (i - a) = omega arith in
    let m : e - a ≤ i - a = omega arith in
    rw (n, drop-set-add a l (i - a) v, take-set-le (e - a) (drop a l) (i - a) v m)

-- the part up to the end of the list
pub part-rest : (a : ℕ) (l : List ℕ) → part a (length l) l ≡ drop a l
part-rest a l = take_all (length l - a) (drop a l) (rw length-drop (omega arith))

-- a part, and what follows it
pub part-drop : (a e : ℕ) (l : List ℕ) → a ≤ e → part a e l ++ drop e l ≡ drop a l
part-drop a e l h =
    let n : a + (e - a) ≡ e = omega arith in
    rw (drop-drop (e - a) a l, n) at (take-append-drop (e - a) (drop a l))

pub over_none : (i : ℕ) (l : List ℕ) → over i [] l ≡ l
unfolding over
over_none i l = rw (add-zero, take-append-drop i l)

-- a store writes the first number, or the last, and leaves the others to be written
module _ (i x : ℕ) (vs l : List ℕ) where
  pub over_first : i < length l → over (i + 1) vs (set l i x) ≡ over i (x ∷ vs) l
  unfolding over
  over_first h =
      let n : i + suc (length vs) ≡ suc i + length vs = omega arith in
      let b : i < suc i + length vs = omega arith in
      rw (add-one, take-suc-set l i x h, drop-set-lt (suc i + length vs) l i x b, append_assoc, n)

  pub over_last : i + length vs < length l → over i vs (set l (i + length vs) x) ≡ over i (vs ++ (x ∷ [])) l
  unfolding over
  over_last h =
      let k : ℕ = i + length vs in
      let n : i + length (vs ++ (x ∷ [])) ≡ suc k = simp length-append (omega arith) in
      let a : i ≤ k = omega arith in
      let b : k < length (set l k x) = rw length-set h in
      let c : k < suc k = omega arith in
      rw (n, append_assoc, take-set-le i l k x a, drop-cons (set l k x) k 0 b, get_or-set_same l k x 0 h, drop-set-lt (suc k) l k x c)

-- a store writes a list of one
pub set-over : (i x : ℕ) (l : List ℕ) → i < length l → set l i x ≡ over i (x ∷ []) l
set-over i x l h = sym (over_none (i + 1) (set l i x)) ∙ over_first i x [] l h
