-- A turn of the loop that writes: what is left to write; and the bytes of a short field, without a loop.
use mathlib.Core.Path.{◌≡◌, sym, ap, ◌∙◌}
use Prim.Native.Nat.{ℕ, zero, suc, ◌+◌, ◌-◌, ◌/◌, ◌%◌, ◌^◌, ◌≤◌, ◌<◌}
use mathlib.Core.List.{List, [], ◌∷◌}
use native.Mathlib.Nat.{add-zero, div-div-eq-div-mul}
use native.Mathlib.Omega.{arith}
use lib.ListN.{length, set}
use lib.Seq.{set-set}
use Rattle.lists.specs.Lists.{over}
use Rattle.lists.proofs.Over.{length_over}
use Rattle.lists.proofs.Overs.{over-then}
use Rattle.lists.proofs.Runs.{over_none, over_first, over_last}
use Rattle.big_endian.specs.BigEndian.{big_endian}
use Rattle.big_endian.proofs.Laws.{length-big}

-- the lowest byte of what is left goes last, the others before it
pub write-turn : (at left rest : ℕ) (l : List ℕ) → 0 < left → at + left ≤ length l
    → over at (big_endian left rest) l ≡ over at (big_endian (left - 1) (rest / 256)) (set l (at + (left - 1)) (rest % 256))
unfolding big_endian
write-turn at left rest l p h =
    let j : ℕ = left - 1 in
    let f : left ≡ suc j = omega arith in
    let b : length (big_endian j (rest / 256)) ≡ j = length-big j (rest / 256) in
    ap (λ (m : ℕ). over at (big_endian m rest) l) f
    ∙ sym (over_last at (rest % 256) (big_endian j (rest / 256)) l (omega arith))
    ∙ ap (λ (m : ℕ). over at (big_endian j (rest / 256)) (set l (at + m) (rest % 256))) b

pub write-end : (at left rest : ℕ) (l : List ℕ) → left ≤ 0 → over at (big_endian left rest) l ≡ l
unfolding big_endian
write-end at left rest l h = let f : left ≡ 0 = omega arith in rw f (over_none at l)

-- the highest byte first, each behind the one before
high_first : ℕ → ℕ → ℕ → List ℕ → List ℕ
high_first at zero n l = l
high_first at (suc w) n l = set (high_first at w (n / 256) l) (at + w) (n % 256)

high-first : (at w n : ℕ) (l : List ℕ) → at + w ≤ length l → high_first at w n l ≡ over at (big_endian w n) l
unfolding big_endian high_first
high-first at zero n l h = sym (over_none at l)
high-first at (suc w) n l h =
    let b : length (big_endian w (n / 256)) ≡ w = length-big w (n / 256) in
    let so_far : at + length (big_endian w (n / 256)) ≤ length l = omega arith in
    let m : List ℕ = over at (big_endian w (n / 256)) l in
    let e : length m ≡ length l = length_over at (big_endian w (n / 256)) l so_far in
    ap (λ (k : List ℕ). set k (at + w) (n % 256)) (high-first at w (n / 256) l (omega arith))
    ∙ sym (over_none (at + w + 1) (set m (at + w) (n % 256)))
    ∙ over_first (at + w) (n % 256) [] m (omega arith)
    ∙ ap (λ (k : ℕ). over (at + k) (n % 256 ∷ []) m) (sym b)
    ∙ over-then at (big_endian w (n / 256)) l so_far (n % 256 ∷ [])

-- four bytes, the highest first: those that the width has no room for fall on the field's first place and are stored over
pub short-written : (at w n : ℕ) (l : List ℕ) → 0 < w → w ≤ 4 → at + w ≤ length l
    → set (set (set (set l at (n / 256 ^ 3 % 256)) (at + (w - 3)) (n / 256 ^ 2 % 256)) (at + (w - 2)) (n / 256 % 256)) (at + (w - 1)) (n % 256)
    ≡ over at (big_endian w n) l
unfolding high_first
short-written at zero n l p q h = absurd (omega arith)
short-written at (suc zero) n l p q h = simp (add-zero, set-set) (rw add-zero at (high-first at 1 n l h))
short-written at (suc (suc zero)) n l p q h = simp (add-zero, set-set) (rw add-zero at (high-first at 2 n l h))
short-written at (suc (suc (suc zero))) n l p q h = simp (add-zero, set-set) (simp (add-zero, div-div-eq-div-mul) at (high-first at 3 n l h))
short-written at (suc (suc (suc (suc zero)))) n l p q h = simp (add-zero, div-div-eq-div-mul) at (high-first at 4 n l h)
short-written at (suc (suc (suc (suc (suc w))))) n l p q h = absurd (omega arith)
