-- Hex pairs: how long they are, and that reading them gives the bytes back.
use mathlib.Core.Path.{◌≡◌, refl, sym, ap}
use Prim.Native.Nat.{ℕ, ◌+◌, ◌*◌, ◌/◌, ◌%◌, ◌≤◌, ◌<◌}
use mathlib.Core.List.{List, [], ◌∷◌}
use mathlib.Core.Bool.{Bool, true, false}
use native.Mathlib.Omega.{arith}
use lib.Dec.{eqb, ltb}
use lib.ListN.{length, length-append}
use lib.Pow.{are_bytes}
use borrow.Author.Tests.{ltb-true, ltb-false, eq-eqb, ne_eqb}
use Rattle.lists.specs.Lists.{same_list}
use Rattle.lists.proofs.Same.{and_left, and_right}
use Rattle.text.specs.Digits.{digit, digits, value_of, all_digits}
use Rattle.text_hex.specs.Hex.{hex_pairs, bytes_of}
use Rattle.text.proofs.Written.{length_digits, value-digit, digit_value}

pub length_pairs : (l : List ℕ) → length (hex_pairs l) ≡ length l * 2
unfolding hex_pairs
length_pairs [] = refl
length_pairs (b ∷ l) = omega (arith, length-append (digits 16 2 b) (hex_pairs l), length_digits 16 2 b, length_pairs l)

pub length-bytes : (l : List ℕ) → length (bytes_of l) ≡ length l / 2
unfolding bytes_of
length-bytes [] = refl
length-bytes (c ∷ []) = refl
length-bytes (c ∷ (d ∷ l)) = omega (arith, length-bytes l)

-- bytes are read back from their hex pairs
pub pairs-read : (l : List ℕ) → are_bytes l ≡ true → bytes_of (hex_pairs l) ≡ l
unfolding hex_pairs bytes_of digits
pairs-read [] h = refl
pairs-read (b ∷ l) h =
    let k : b < 256 = ltb-true b 256 (and_left (ltb b 256) (are_bytes l) h) in
    rw (value-digit (b / 16 % 16) (omega arith), value-digit (b % 16) (omega arith), pairs-read l (and_right (ltb b 256) (are_bytes l) h))
    (ap (λ (x : ℕ). x ∷ l) (omega arith))

-- a digit is its value's character; what is no digit is no value's
digit-back : (c : ℕ) → eqb c (digit (value_of c % 16)) ≡ ltb (value_of c) 16
digit-back c = by (ltb (value_of c) 16) refl
  where
    by : (t : Bool) → ltb (value_of c) 16 ≡ t → eqb c (digit (value_of c % 16)) ≡ t
    by true e =
        let k : value_of c < 16 = ltb-true (value_of c) 16 e in
        let m : value_of c % 16 ≡ value_of c = omega arith in
        rw m (eq-eqb c (digit (value_of c)) (sym (digit_value c k)))
    by false e =
        let k : 16 ≤ value_of c = ltb-false (value_of c) 16 e in
        ne_eqb c (digit (value_of c % 16)) (λ q. omega (arith, k, ap value_of q, value-digit (value_of c % 16) (omega arith)))

-- hex digits in pairs are what writing the bytes they give gives back
pub pairs-back : (l : List ℕ) → length l % 2 ≡ 0 → same_list eqb l (hex_pairs (bytes_of l)) ≡ all_digits 16 l
unfolding bytes_of hex_pairs digits same_list all_digits
pairs-back [] h = refl
pairs-back (c ∷ []) h = absurd (omega arith)
pairs-back (c ∷ (d ∷ l)) h =
    let x : ℕ = value_of c % 16 in
    let y : ℕ = value_of d % 16 in
    let a : (x * 16 + y) / 16 % 16 ≡ x = omega arith in
    let b : (x * 16 + y) % 16 ≡ y = omega arith in
    rw (a, b, digit-back c, digit-back d, pairs-back l (omega arith))
