-- Numbers in decimal: how many digits they have, and that reading them gives them back.
use mathlib.Core.Path.{◌≡◌, refl, sym}
use Prim.Native.Nat.{ℕ, zero, suc, ◌+◌, ◌/◌, ◌%◌, ◌^◌, ◌≤◌, ◌<◌}
use mathlib.Core.List.{List, [], ◌∷◌, ◌++◌}
use mathlib.Core.Bool.{Bool, true, false, not}
use native.Mathlib.Omega.{arith}
use native.Mathlib.Nat.{pow-suc, div-lt_iff_lt-mul}
use lib.Dec.{ltb, eqb}
use lib.ListN.{length}
use borrow.Author.Tests.{le-leb, lt-ltb, ltb-true, ltb-false, eqb-true, eqb-false, ne_eqb}
use Rattle.lists.specs.Lists.{pick, holds}
use Rattle.text.specs.Digits.{char0, digit, digits, read_on}
use Rattle.text.specs.Decimal.{width_of, width, decimal, most_digits, padded, read_number}
use Rattle.std.specs.Prelude.{Some}
use Rattle.text.proofs.Written.{length_digits, read-last, digits-all}

tenth-lt : (k n : ℕ) → n < 10 ^ suc k → n / 10 < 10 ^ k
tenth-lt k n h = (div-lt_iff_lt-mul {k = 10} (omega arith)).1 (rw (pow-suc 10 k) at h)

-- ---- how many digits
width-least : (n : ℕ) → 1 ≤ width n
unfolding width_of
width-least n = by (ltb n 10)
  where
    by : (t : Bool) → 1 ≤ pick t 1 (suc (width_of 9 (n / 10)))
    by true = omega arith
    by false = omega arith

width-most : (m k n : ℕ) → n < 10 ^ suc k → width_of m n ≤ suc k
unfolding width_of
width-most zero k n h = omega arith
width-most (suc m) zero n h = rw (lt-ltb n 10 h) (omega arith)
width-most (suc m) (suc k) n h = by (ltb n 10) (width-most m k (n / 10) (tenth-lt (suc k) n h))
  where
    by : (t : Bool) → width_of m (n / 10) ≤ suc k → pick t 1 (suc (width_of m (n / 10))) ≤ suc (suc k)
    by true e = omega arith
    by false e = omega arith

width-any : (m n : ℕ) → width_of m n ≤ m
unfolding width_of
width-any zero n = omega arith
width-any (suc m) n = by (ltb n 10) (width-any m (n / 10))
  where
    by : (t : Bool) → width_of m (n / 10) ≤ m → pick t 1 (suc (width_of m (n / 10))) ≤ suc m
    by true h = omega arith
    by false h = omega arith

pub width-ten : (n : ℕ) → width n ≤ 10
width-ten n = width-any 10 n

-- ---- the value
decimal-value : (k n : ℕ) → n < 10 ^ k → read_on 10 0 (digits 10 (width_of k n) n) ≡ n
unfolding width_of digits read_on
decimal-value zero n h = omega arith
decimal-value (suc k) n h = by (ltb n 10) refl (decimal-value k (n / 10) (tenth-lt k n h))
  where
    by : (t : Bool) → ltb n 10 ≡ t → read_on 10 0 (digits 10 (width_of k (n / 10)) (n / 10)) ≡ n / 10
        → read_on 10 0 (digits 10 (pick t 1 (suc (width_of k (n / 10)))) n) ≡ n
    by true e i = let a : n < 10 = ltb-true n 10 e in read-last 10 (omega arith) (omega arith) 0 n [] (omega arith)
    by false e i = read-last 10 (omega arith) (omega arith) 0 n (digits 10 (width_of k (n / 10)) (n / 10)) i

-- ---- no zero in front
headed : List ℕ → Bool
headed [] = false
headed (c ∷ l) = not (eqb c char0)

headed-append : (l m : List ℕ) → headed l ≡ true → headed (l ++ m) ≡ true
unfolding headed
headed-append [] m h = absurd (let z : ◌≡◌ {A = ℕ} 0 1 = cc in omega arith)
headed-append (c ∷ l) m h = h

headed-not-padded : (l : List ℕ) → headed l ≡ true → padded l ≡ false
unfolding headed padded
headed-not-padded [] h = refl
headed-not-padded (c ∷ []) h = refl
headed-not-padded (c ∷ (d ∷ l)) h = by (eqb c char0) h
  where
    by : (t : Bool) → not t ≡ true → t ≡ false
    by true e = sym e
    by false e = refl

digit-headed : (d : ℕ) → 1 ≤ d → d < 10 → eqb (digit d) char0 ≡ false
digit-headed d h k = rw (lt-ltb d 10 k) (ne_eqb (d + char0) char0 (λ e. omega arith))

decimal-headed : (k n : ℕ) → 1 ≤ n → n < 10 ^ k → headed (digits 10 (width_of k n) n) ≡ true
unfolding width_of digits headed
decimal-headed zero n p h = absurd (omega arith)
decimal-headed (suc k) n p h = by (ltb n 10) refl (λ q. decimal-headed k (n / 10) q (tenth-lt k n h))
  where
    by : (t : Bool) → ltb n 10 ≡ t → (1 ≤ n / 10 → headed (digits 10 (width_of k (n / 10)) (n / 10)) ≡ true)
        → headed (digits 10 (pick t 1 (suc (width_of k (n / 10)))) n) ≡ true
    by true e i =
        let a : n < 10 = ltb-true n 10 e in
        let b : n % 10 ≡ n = omega arith in
        rw (b, digit-headed n p a)
    by false e i =
        let a : 10 ≤ n = ltb-false n 10 e in
        headed-append (digits 10 (width_of k (n / 10)) (n / 10)) (digit (n % 10) ∷ []) (i (omega arith))

decimal-not-padded : (n : ℕ) → n < 10 ^ 10 → padded (decimal n) ≡ false
unfolding width_of digits padded
decimal-not-padded n h = by (eqb n 0) refl
  where
    by : (t : Bool) → eqb n 0 ≡ t → padded (decimal n) ≡ false
    by true e = rw (eqb-true n 0 e)
    by false e =
        let a : n ≡ 0 → ⊥ = eqb-false n 0 e in
        headed-not-padded (decimal n) (decimal-headed 10 n (omega arith) h)

-- a number below 10 ^ 9 is read back from its decimal text
pub decimal-read : (n : ℕ) → n < 10 ^ 9 → read_number (decimal n) ≡ Some n
unfolding holds
decimal-read n h =
    let k : n < 10 ^ 10 = omega arith in
    let w : length (decimal n) ≡ width n = length_digits 10 (width n) n in
    let a : width n ≤ 9 = width-most 10 8 n h in
    let z : eqb (length (decimal n)) 0 ≡ false = ne_eqb (length (decimal n)) 0 (λ e. omega (arith, width-least n)) in
    rw (z, le-leb (length (decimal n)) most_digits (omega arith), digits-all 10 (omega arith) (omega arith) (width n) n, decimal-not-padded n k, decimal-value 10 n k)
