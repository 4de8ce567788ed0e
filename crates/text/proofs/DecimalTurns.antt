-- Powers of ten; the count of decimal digits, by them; a zero in front.
use mathlib.Core.Path.{◌≡◌, refl, sym, ap, ◌∙◌}
use Prim.Native.Nat.{ℕ, zero, suc, ◌+◌, ◌*◌, ◌/◌, ◌^◌, ◌≤◌, ◌<◌, max}
use mathlib.Core.List.{List, [], ◌∷◌}
use mathlib.Core.Bool.{false}
use native.Mathlib.Omega.{arith}
use native.Mathlib.Nat.{pow-suc, pow-le-pow_right, le-div_iff_mul-le, div-lt_iff_lt-mul}
use native.Mathlib.Numerals.{add-one}
use lib.Dec.{eqb}
use lib.ListN.{length, get_or}
use borrow.Author.Tests.{lt-ltb, le-ltb}
use Rattle.text.specs.Digits.{char0}
use Rattle.text.specs.Decimal.{width_of, width, padded}

-- ---- powers of ten
pub tens : (v w : ℕ) → v ≤ w → 10 ^ v ≤ 10 ^ w
tens v w h = pow-le-pow_right (omega arith) h

pub ten-more : (v : ℕ) → 10 ^ (v + 1) ≡ 10 ^ v * 10
ten-more v = rw (add-one, pow-suc)

-- ---- the count of decimal digits: one more than the greatest power of ten that is not greater
width-power : (m k n : ℕ) → k < m → 10 ^ k ≤ n → n < 10 ^ suc k → width_of m n ≡ suc k
unfolding width_of
width-power zero k n f h e = absurd (omega arith)
width-power (suc m) zero n f h e = rw (lt-ltb n 10 e)
width-power (suc m) (suc k) n f h e =
    let p : 10 ^ k * 10 ≤ n = rw (pow-suc 10 k) at h in
    let q : 10 ≤ n = omega (arith, tens 0 k (omega arith)) in
    let low : 10 ^ k ≤ n / 10 = (le-div_iff_mul-le {k = 10} (omega arith)).1 p in
    let high : n / 10 < 10 ^ suc k = (div-lt_iff_lt-mul {k = 10} (omega arith)).1 (rw (pow-suc 10 (suc k)) at e) in
    rw (le-ltb n 10 q) (ap suc (width-power m k (n / 10) (omega arith) low high))

pub width-log : (n k : ℕ) → k < 10 → 10 ^ k ≤ max n 1 → max n 1 < 10 * 10 ^ k → k + 1 ≡ width n
unfolding width_of
width-log zero zero f h e = refl
width-log zero (suc k) f h e = absurd (omega (arith, pow-suc 10 k, tens 0 k (omega arith)))
width-log (suc n) k f h e =
    add-one k ∙ sym (width-power 10 k (suc n) f (omega arith) (omega (arith, pow-suc 10 k)))

-- ---- a zero in front
pub padded-short : (l : List ℕ) → length l < 2 → padded l ≡ false
unfolding padded
padded-short [] h = refl
padded-short (c ∷ []) h = refl
padded-short (c ∷ (d ∷ l)) h = absurd (omega arith)

pub padded-long : (l : List ℕ) → 2 ≤ length l → padded l ≡ eqb (get_or l 0 0) char0
unfolding padded
padded-long [] h = absurd (omega arith)
padded-long (c ∷ []) h = absurd (omega arith)
padded-long (c ∷ (d ∷ l)) h = refl

pub ruleset padded_turns = (padded-short, padded-long)
