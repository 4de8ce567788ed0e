-- Exclusive or: its order of grouping, and a form of it that the checker can compute.
use mathlib.Core.Path.{◌≡◌, refl, ap, ap₂, sym, ◌∙◌}
use Prim.Native.Nat.{ℕ, zero, suc, ◌+◌, ◌*◌, ◌/◌, ◌%◌, ◌^◌, ◌<◌}
use native.Mathlib.Nat.{mod-lt}
use native.Mathlib.Numerals.{add-one}
use native.Mathlib.Omega.{arith}
use lib.Arith.{bin_ind, digits_mod, lt-one}
use lib.Bits.{bit_xor, differ, xor_step, xor_zero_l, xor_shr}
use lib.Pow.{shr_lt}
use lib.Dec.{lit<}

differ-lt : (x y : ℕ) → x < 2 → y < 2 → differ x y < 2
differ-lt zero y h k = k
differ-lt (suc x) zero h k = h
differ-lt (suc x) (suc y) h k = differ-lt x y (omega arith) (omega arith)

differ-assoc : (x y z : ℕ) → x < 2 → y < 2 → z < 2 → differ (differ x y) z ≡ differ x (differ y z)
differ-assoc zero y z h k l = refl
differ-assoc (suc x) zero z h k l = refl
differ-assoc (suc zero) (suc zero) zero h k l = refl
differ-assoc (suc zero) (suc zero) (suc zero) h k l = refl
differ-assoc (suc zero) (suc zero) (suc (suc z)) h k l = absurd (omega arith)
differ-assoc (suc zero) (suc (suc y)) z h k l = absurd (omega arith)
differ-assoc (suc (suc x)) (suc y) z h k l = absurd (omega arith)

bit-lt : (n : ℕ) → n % 2 < 2
bit-lt n = mod-lt n (lit< tt)

xor-half : (a b : ℕ) → bit_xor a b / 2 ≡ bit_xor (a / 2) (b / 2)
xor-half a b = xor_shr a b 1

xor-bit : (a b : ℕ) → bit_xor a b % 2 ≡ differ (a % 2) (b % 2)
xor-bit a b =
    ap (λ (n : ℕ). n % 2) (xor_step a b)
    ∙ digits_mod (bit_xor (a / 2) (b / 2)) (differ-lt (a % 2) (b % 2) (bit-lt a) (bit-lt b))

pub xor_assoc : (a b c : ℕ) → bit_xor (bit_xor a b) c ≡ bit_xor a (bit_xor b c)
xor_assoc a =
    bin_ind (λ (n : ℕ). (b c : ℕ) → bit_xor (bit_xor n b) c ≡ bit_xor n (bit_xor b c))
    (λ b c. ap (λ (m : ℕ). bit_xor m c) (xor_zero_l b) ∙ sym (xor_zero_l (bit_xor b c)))
    (λ n ih b c.
    xor_step (bit_xor n b) c
    ∙ ap₂ (λ (x y : ℕ). x * 2 + y)
    (ap (λ (m : ℕ). bit_xor m (c / 2)) (xor-half n b) ∙ ih (b / 2) (c / 2) ∙ sym (ap (bit_xor (n / 2)) (xor-half b c)))
    (ap (λ (m : ℕ). differ m (c % 2)) (xor-bit n b)
    ∙ differ-assoc (n % 2) (b % 2) (c % 2) (bit-lt n) (bit-lt b) (bit-lt c)
    ∙ sym (ap (differ (n % 2)) (xor-bit b c)))
    ∙ sym (xor_step n (bit_xor b c)))
    a

-- the lowest k bits of a
unfoldable pub quick_xor : ℕ → ℕ → ℕ → ℕ
quick_xor zero a b = b
quick_xor (suc k) a b = quick_xor k (a / 2) (b / 2) * 2 + differ (a % 2) (b % 2)

pub quick-xor : (k a b : ℕ) → a < 2 ^ k → quick_xor k a b ≡ bit_xor a b
unfolding quick_xor
quick-xor zero a b h = sym (ap (λ (x : ℕ). bit_xor x b) (lt-one h) ∙ xor_zero_l b)
quick-xor (suc k) a b h =
    ap (λ (x : ℕ). x * 2 + differ (a % 2) (b % 2)) (quick-xor k (a / 2) (b / 2) (shr_lt k 1 (rw add-one h))) ∙ sym (xor_step a b)
