-- Bitwise division, by tables and in a form that the checker can compute.
use mathlib.Core.Path.{◌≡◌, refl, ap, sym, ◌∙◌}
use mathlib.Core.Bool.{Bool, true, false}
use mathlib.Core.List.{List}
use Prim.Native.Nat.{ℕ, zero, suc, ◌*◌, ◌/◌, ◌%◌, ◌^◌, ◌<◌}
use native.Mathlib.Nat.{pow-suc, mul_assoc, mul-one, mod-lt}
use native.Mathlib.Omega.{arith}
use lib.Bits.{bit_xor, xor_shifted, xor_shr, xor_mod, xor_lt, xor_zero_l, xor_zero_r, shifted_even}
use lib.Pow.{shl-shr, split}
use lib.Dec.{eqb, lit<}
use lib.ListN.{length, get_or}
use borrow.Author.Tests.{eqb-true}
use Rattle.lists.proofs.Tables.{everywhere, at_entry}
use Rattle.lists.specs.Lists.{pick}
use Rattle.cable_crc.specs.Crc.{polynomial, bit_divided, bits_divided, byte_divided, RightTable}
use Rattle.cable_crc.proofs.Xor.{xor_assoc, quick_xor, quick-xor}

pick-xor : (t : Bool) (a x : ℕ) → pick t (bit_xor a x) (bit_xor (bit_xor a x) polynomial) ≡ bit_xor a (pick t x (bit_xor x polynomial))
pick-xor true a x = refl
pick-xor false a x = xor_assoc a x polynomial

-- the bits above the lowest only move down
bit_high : (a x : ℕ) → bit_divided (bit_xor (a * 2) x) ≡ bit_xor a (bit_divided x)
unfolding bit_divided
bit_high a x =
    let e : bit_xor (a * 2) x % 2 ≡ x % 2 = xor_mod (a * 2) x 1 ∙ ap (λ (m : ℕ). bit_xor m (x % 2)) (shifted_even a 0) ∙ xor_zero_l (x % 2) in
    let f : bit_xor (a * 2) x / 2 ≡ bit_xor a (x / 2) = xor_shr (a * 2) x 1 ∙ ap (λ (m : ℕ). bit_xor m (x / 2)) (shl-shr a 1) in
    rw (e, f) (pick-xor (eqb (x % 2) 0) a (x / 2))

bits-high : (n a x : ℕ) → bits_divided n (bit_xor (a * 2 ^ n) x) ≡ bit_xor a (bits_divided n x)
unfolding bits_divided
bits-high zero a x = ap (λ (m : ℕ). bit_xor m x) (mul-one a)
bits-high (suc n) a x =
    let e : a * 2 ^ suc n ≡ a * 2 ^ n * 2 = ap (λ (m : ℕ). a * m) (pow-suc 2 n) ∙ sym (mul_assoc a (2 ^ n) 2) in
    ap (λ (m : ℕ). bits_divided n (bit_divided (bit_xor m x))) e ∙ ap (bits_divided n) (bit_high (a * 2 ^ n) x) ∙ bits-high n a (bit_divided x)

-- a byte divided at once: what lies above it moves down, and meets the remainder of its lowest byte
byte-at-once : (r b : ℕ) → b < 256 → byte_divided r b ≡ bit_xor (r / 256) (bits_divided 8 (bit_xor r b % 256))
unfolding byte_divided
byte-at-once r b h =
    let x : ℕ = bit_xor r b in
    let e : x ≡ bit_xor (x / 256 * 256) (x % 256) = sym (split x 8) ∙ sym (xor_shifted (x / 256) 8 (x % 256) (mod-lt x (lit< tt))) in
    let f : x / 256 ≡ r / 256 = xor_shr r b 8 ∙ ap (bit_xor (r / 256)) (shr-lt-zero b h) ∙ xor_zero_r (r / 256) in
    ap (bits_divided 8) e ∙ bits-high 8 (x / 256) (x % 256) ∙ ap (λ (m : ℕ). bit_xor m (bits_divided 8 (x % 256))) f
  where
    shr-lt-zero : (n : ℕ) → n < 256 → n / 256 ≡ 0
    shr-lt-zero n k = omega arith

-- ---- what stays below 2 ^ 32
pick-lt : (t : Bool) (x y : ℕ) → x < 2 ^ 32 → y < 2 ^ 32 → pick t x y < 2 ^ 32
pick-lt true x y h k = h
pick-lt false x y h k = k

bit_below : (r : ℕ) → r < 2 ^ 32 → bit_divided r < 2 ^ 32
unfolding bit_divided
bit_below r h =
    let k : r / 2 < 2 ^ 32 = omega arith in
    pick-lt (eqb (r % 2) 0) (r / 2) (bit_xor (r / 2) polynomial) k (xor_lt 32 (r / 2) polynomial k (lit< tt))

pub bits_below : (n r : ℕ) → r < 2 ^ 32 → bits_divided n r < 2 ^ 32
unfolding bits_divided
bits_below zero r h = h
bits_below (suc n) r h = bits_below n (bit_divided r) (bit_below r h)

-- ---- in a form that the checker computes
unfoldable pub quick_bits : ℕ → ℕ → ℕ
quick_bits zero r = r
quick_bits (suc n) r = quick_bits n (pick (eqb (r % 2) 0) (r / 2) (quick_xor 32 (r / 2) polynomial))

pub quick-bits : (n r : ℕ) → r < 2 ^ 32 → quick_bits n r ≡ bits_divided n r
unfolding quick_bits bits_divided bit_divided
quick-bits zero r h = refl
quick-bits (suc n) r h =
    let k : r / 2 < 2 ^ 32 = omega arith in
    rw (quick-xor 32 (r / 2) polynomial k) (quick-bits n _ (bit_below r h))

-- the rule of the table of remainders: entry k is k with its 8 bits divided out
unfoldable pub right_remainder : ℕ → ℕ → Bool
right_remainder k x = eqb x (quick_bits 8 k)

pub right-table : (table : List ℕ) → everywhere right_remainder 0 table ≡ true → length table ≡ 256 → RightTable table
unfolding right_remainder
right-table table right full =
    record { entry = λ k h. eqb-true (get_or table k 0) (quick_bits 8 k) (at_entry right_remainder 0 table right k (omega arith)) ∙ quick-bits 8 k (omega arith) }

-- a byte at once, by the table
pub by-table : (table : List ℕ) → RightTable table → (r b : ℕ) → b < 256
    → bit_xor (r / 256) (get_or table (bit_xor r b % 256) 0) ≡ byte_divided r b
by-table table t r b h =
    rw (t.entry (bit_xor r b % 256) (mod-lt (bit_xor r b) (lit< tt))) (sym (byte-at-once r b h))
