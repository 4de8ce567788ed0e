-- Remainders of lists, in a form that the checker computes; and the check value of the catalogue.
use mathlib.Core.Path.{◌≡◌, refl, sym}
use mathlib.Core.Bool.{true}
use mathlib.Core.List.{List, [], ◌∷◌}
use Prim.Native.Nat.{ℕ, ◌^◌, ◌<◌}
use lib.Bits.{bit_xor, xor_lt}
use lib.Dec.{ltb, lit<}
use borrow.Author.Tests.{ltb-true}
use Rattle.lists.proofs.Same.{and_left, and_right}
use lib.Pow.{are_bytes}
use native.Mathlib.Omega.{arith}
use Rattle.cable_crc.specs.Crc.{mask, byte_divided, divided, crc32}
use Rattle.cable_crc.proofs.Xor.{quick_xor, quick-xor}
use Rattle.cable_crc.proofs.Division.{bits_below, quick_bits, quick-bits}

byte-below : (r b : ℕ) → r < 2 ^ 32 → b < 256 → byte_divided r b < 2 ^ 32
unfolding byte_divided
byte-below r b h k = bits_below 8 (bit_xor r b) (xor_lt 32 r b h (omega arith))

divided-below : (r : ℕ) (l : List ℕ) → r < 2 ^ 32 → are_bytes l ≡ true → divided r l < 2 ^ 32
unfolding divided
divided-below r [] h a = h
divided-below r (b ∷ l) h a =
    divided-below (byte_divided r b) l (byte-below r b h (ltb-true b 256 (and_left (ltb b 256) (are_bytes l) a))) (and_right (ltb b 256) (are_bytes l) a)

unfoldable pub quick_divided : ℕ → List ℕ → ℕ
quick_divided r [] = r
quick_divided r (b ∷ l) = quick_divided (quick_bits 8 (quick_xor 32 r b)) l

quick-divided : (r : ℕ) (l : List ℕ) → r < 2 ^ 32 → are_bytes l ≡ true → quick_divided r l ≡ divided r l
unfolding quick_divided divided byte_divided
quick-divided r [] h a = refl
quick-divided r (b ∷ l) h a =
    let k : b < 256 = ltb-true b 256 (and_left (ltb b 256) (are_bytes l) a) in
    let n : b < 2 ^ 32 = omega arith in
    rw (quick-xor 32 r b h, quick-bits 8 (bit_xor r b) (xor_lt 32 r b h n))
    (quick-divided (byte_divided r b) l (byte-below r b h k) (and_right (ltb b 256) (are_bytes l) a))

unfoldable pub quick_crc : List ℕ → ℕ
quick_crc l = quick_xor 32 (quick_divided mask l) mask

pub quick-crc : (l : List ℕ) → are_bytes l ≡ true → quick_crc l ≡ crc32 l
unfolding quick_crc crc32
quick-crc l a = rw (quick-divided mask l (lit< tt) a) (quick-xor 32 (divided mask l) mask (divided-below mask l (lit< tt) a))

abbrev nine_digits : List ℕ
nine_digits = 49 ∷ 50 ∷ 51 ∷ 52 ∷ 53 ∷ 54 ∷ 55 ∷ 56 ∷ 57 ∷ []

-- the catalogue's check value, of the nine bytes "123456789"
pub check-value : crc32 nine_digits ≡ 0xCBF43926
unfolding quick_crc quick_divided quick_bits quick_xor
check-value = sym (quick-crc nine_digits refl)
