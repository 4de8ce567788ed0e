-- A field written and read back, over the width.
use mathlib.Core.Path.{◌≡◌, refl, ap, ◌∙◌}
use Prim.Native.Nat.{ℕ, zero, suc, ◌+◌, ◌*◌, ◌/◌, ◌%◌, ◌^◌, ◌≤◌, ◌<◌}
use mathlib.Core.List.{List, [], ◌∷◌, ◌++◌}
use mathlib.Core.Bool.{true}
use native.Mathlib.Omega.{arith}
use native.Mathlib.Nat.{one-mul, mul-suc, mod-eq_of_lt, pow-suc, pow-le-pow_right, div-lt_iff_lt-mul}
use native.Mathlib.Numerals.{add-one}
use lib.Pow.{pow-add}
use lib.ListN.{length, get_or, length-append}
use borrow.Author.Tests.{ltb-true}
use Rattle.lists.specs.Lists.{part, over}
use Rattle.lists.proofs.Over.{over-before, over-after, part-over}
use Rattle.big_endian.specs.BigEndian.{capacity, fits, big_endian, read_from, read_big}

-- one byte more holds 256 times as many
pub capacity-next : (w : ℕ) → capacity (w + 1) ≡ capacity w * 256
capacity-next w = rw (add-one, pow-suc)

pub capacity-rises : (v w : ℕ) → v ≤ w → capacity v ≤ capacity w
capacity-rises v w h = pow-le-pow_right (omega arith) h

-- eight bits are a byte
capacity-bits : (w : ℕ) → 2 ^ (8 * w) ≡ capacity w
capacity-bits zero = refl
capacity-bits (suc w) = rw (mul-suc, pow-add 2 (8 * w) 8, pow-suc 256 w, capacity-bits w)

-- 1 shifted left by a width of bytes: nothing leaves the word
pub capacity-shift : (w : ℕ) → w ≤ 7 → (1 * 2 ^ (8 * w)) % 2 ^ 64 ≡ capacity w
capacity-shift w h = rw (one-mul, capacity-bits w) (mod-eq_of_lt (omega (arith, capacity-rises w 7 h)))

pub length-big : (w n : ℕ) → length (big_endian w n) ≡ w
unfolding big_endian
length-big zero n = refl
length-big (suc w) n = omega (arith, length-append (big_endian w (n / 256)) (n % 256 ∷ []), length-big w (n / 256))

-- two lists in a row are read one after the other
read-append : (m : ℕ) (a b : List ℕ) → read_from m (a ++ b) ≡ read_from (read_from m a) b
unfolding read_from
read-append m [] b = refl
read-append m (x ∷ a) b = read-append (m * 256 + x) a b

below-read : (w n : ℕ) → n < capacity w → read_big (big_endian w n) ≡ n
unfolding big_endian read_from
below-read zero n h = omega arith
below-read (suc w) n h =
    let high : n / 256 < capacity w = (div-lt_iff_lt-mul {k = 256} (omega arith)).1 (rw (pow-suc 256 w) at h) in
    read-append 0 (big_endian w (n / 256)) (n % 256 ∷ []) ∙ ap (λ (q : ℕ). q * 256 + n % 256) (below-read w (n / 256) high) ∙ omega arith

-- a number that fits is read back from its bytes
pub big-read : (w n : ℕ) → fits w n ≡ true → read_big (big_endian w n) ≡ n
big-read w n f = below-read w n (ltb-true n (capacity w) f)

module _ (at w n : ℕ) (l : List ℕ) (h : at + w ≤ length l) where
  inside : at + length (big_endian w n) ≤ length l
  inside = rw length-big h

  -- reading what was written gives the number back
  pub field-read : fits w n ≡ true → read_big (part at (at + w) (over at (big_endian w n) l)) ≡ n
  field-read f = ap read_big (rw (length-big w n) at (part-over at (big_endian w n) l inside)) ∙ big-read w n f

  -- no other byte moves
  pub field-before : (k : ℕ) → k < at → get_or (over at (big_endian w n) l) k 0 ≡ get_or l k 0
  field-before = over-before at (big_endian w n) l inside

  pub field-after : (k : ℕ) → at + w ≤ k → get_or (over at (big_endian w n) l) k 0 ≡ get_or l k 0
  field-after k b = over-after at (big_endian w n) l inside k (rw length-big b)
