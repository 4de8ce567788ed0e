-- The head's bytes, from what each call left: numbers written, text held behind what is held, and the two joined.
use mathlib.Core.Path.{◌≡◌, refl, sym, ap, ap₂, ◌∙◌}
use mathlib.Core.List.{List, [], ◌∷◌, ◌++◌, append_assoc, append-nil}
use Prim.Native.Nat.{ℕ, ◌+◌, ◌-◌, ◌≤◌, min}
use native.Mathlib.Nat.{zero-add}
use native.Mathlib.Omega.{arith}
use lib.ListN.{length, take, drop, length-append, length-take}
use lib.Seq.{take-append-add, drop_at, length-take-le}
use Rattle.lists.specs.Lists.{part, over}
use Rattle.lists.proofs.Runs.{length_part}
use Rattle.lists.proofs.Overs.{over-then, over-part}
use Rattle.lists.proofs.Whole.{over-front}
use Rattle.big_endian.specs.BigEndian.{big_endian}
use Rattle.big_endian.proofs.Laws.{length-big}
use Rattle.cable_frame.proofs.LinesPut.{four-put, take-least}
use Rattle.cable_head.specs.Feed.{number_size, held_at, held_size, head_need, number_at, awaited_at, count_at, len_of, held_of, numbers, head_with, stretch_with, head_on}

-- ---- numbers

pub length-numbers : (len line n c : ℕ) → length (numbers len line n c) ≡ held_at
length-numbers len line n c =
    let b : ℕ → List ℕ = λ (k : ℕ). big_endian number_size k in
    omega (
      arith,
      length-append (b len) (b line ++ (b n ++ b c)),
      length-append (b line) (b n ++ b c),
      length-append (b n) (b c),
      length-big number_size len,
      length-big number_size line,
      length-big number_size n,
      length-big number_size c,
    )

pub numbers-done : (len line n c : ℕ) (l p q r s : List ℕ) → held_at ≤ length l → p ≡ over 0 (big_endian 4 len) l → q ≡ over 4 (big_endian 4 line) p
    → r ≡ over 8 (big_endian 4 n) q → s ≡ over 12 (big_endian 4 c) r → s ≡ over 0 (numbers len line n c) l
numbers-done len line n c l p q r s h ep eq er es =
    let x : List ℕ = big_endian 4 len in
    let y : List ℕ = big_endian 4 line in
    let z : List ℕ = big_endian 4 n in
    let w : List ℕ = big_endian 4 c in
    let lx : length x ≡ 4 = length-big 4 len in
    let ly : length y ≡ 4 = length-big 4 line in
    let lz : length z ≡ 4 = length-big 4 n in
    let lw : length w ≡ 4 = length-big 4 c in
    rw (es, er, eq, ep) (rw (lx, ly, lz) at (four-put 0 x y z w l (omega arith)))

pub begin-done : (n c : ℕ) (h x : List ℕ) → x ≡ over 0 (numbers 0 0 n c) h → x ≡ head_with [] 0 n c h
unfolding head_with
begin-done n c h x e = e ∙ rw append-nil

-- numbers before a text that was written first
over-before : (a b l : List ℕ) → length a ≤ length l → over 0 a (over (length a) b l) ≡ over 0 (a ++ b) l
unfolding over
over-before a b l h =
    rw (zero-add, zero-add, drop_at (take (length a) l) (b ++ drop (length a + length b) l) (length a) (length-take-le (length a) l h), length-append a b)
    (sym (append_assoc a b (drop (length a + length b) l)))

-- ---- text

pub short_none : (l : List ℕ) → length l ≤ 0 → l ≡ []
short_none [] e = refl
short_none (x ∷ l) e = absurd (omega arith)

module _ (h t : List ℕ) (full : head_need ≤ length h) where
  pub length-held : length (held_of h) ≡ len_of h
  length-held = length_part held_at (held_at + len_of h) h (omega arith) ∙ omega arith

  abbrev more : List ℕ
  more = take (held_size - len_of h) t

  pub stretch-is : stretch_with h t ≡ held_of h ++ more
  stretch-is =
      let n : held_size ≡ length (held_of h) + (held_size - len_of h) = omega (arith, length-held) in
      ap (λ (k : ℕ). take k (held_of h ++ t)) n ∙ take-append-add (held_of h) t (held_size - len_of h)

  pub length-stretch : length (stretch_with h t) ≡ len_of h + min (held_size - len_of h) (length t)
  length-stretch = ap length stretch-is ∙ omega (arith, length-append (held_of h) more, length-held, length-take (held_size - len_of h) t)

  -- as much as there is room for
  module _ (len k : ℕ) (el : len ≡ len_of h) (ek : k ≡ min (length t) (held_size - len)) where
    most-is : take k t ≡ more
    most-is = take-least (held_size - len_of h) k t (omega (arith, ek, el))

    pub kept-length : len + k ≡ length (stretch_with h t)
    kept-length = omega (arith, length-stretch)

    pub keep-done : (x : List ℕ) → x ≡ over (held_at + len) (take k t) h → x ≡ over held_at (stretch_with h t) h
    keep-done x e =
        let w : over held_at (held_of h) h ≡ h = over-part held_at (held_at + len_of h) h (omega arith) (omega arith) in
        let n : held_at + len ≡ held_at + length (held_of h) = omega (arith, length-held) in
        e ∙ rw (n, most-is, stretch-is) (rw w at (over-then held_at (held_of h) h (omega (arith, length-held)) more))

    pub join-done : (l p q : List ℕ) → length l ≡ held_size → p ≡ over 0 (part held_at (held_at + len) h) l → q ≡ over len (take k t) p → take (len + k) q ≡ stretch_with h t
    join-done l p q n ep eq =
        let a : 0 + length (held_of h) ≡ len = omega (arith, length-held) in
        let f : q ≡ over 0 (stretch_with h t) l =
        eq ∙ rw (most-is, stretch-is, ep, el) (rw (a, el) at (over-then 0 (held_of h) l (omega (arith, length-held)) more)) in
        rw (kept-length, f) (over-front (stretch_with h t) l)

  pub hold-done : (line e : ℕ) (p q : List ℕ) → e ≡ length (stretch_with h t) → p ≡ over held_at (stretch_with h t) h
      → q ≡ over 0 (numbers e line (number_at awaited_at h) (number_at count_at h)) p → q ≡ head_on line t h
  unfolding head_with
  hold-done line e p q ee ep eq =
      let a : List ℕ = numbers (length (stretch_with h t)) line (number_at awaited_at h) (number_at count_at h) in
      let n : length a ≡ held_at = length-numbers (length (stretch_with h t)) line (number_at awaited_at h) (number_at count_at h) in
      eq ∙ rw (ep, ee) (rw n at (over-before a (stretch_with h t) h (omega arith)))

  -- nothing is held: the stretch is all in t
  pub direct : (k : ℕ) → len_of h ≡ 0 → k ≡ min (length t) held_size → take k t ≡ stretch_with h t
  direct k z e =
      take-least held_size k t (omega (arith, e))
      ∙ sym (stretch-is ∙ ap₂ (λ (x : List ℕ) (j : ℕ). x ++ take (held_size - j) t) (short_none (held_of h) (omega (arith, length-held))) z)
