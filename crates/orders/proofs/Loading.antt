-- The turns of `load` and of `load_links`: word after word.
use mathlib.Core.Path.{◌≡◌, refl, ap, ◌∙◌}
use Prim.Native.Nat.{ℕ, zero, suc, ◌+◌, ◌*◌, ◌/◌, ◌≤◌, ◌<◌}
use mathlib.Core.List.{List, [], ◌∷◌, ◌++◌, append_assoc}
use native.Mathlib.Omega.{arith}
use native.Mathlib.Numerals.{add-one}
use lib.ListN.{length, get_or, set, take, length-set}
use lib.Seq.{take-suc, take-suc-set, take_all}
use Rattle.work.specs.Packed.{most_half}
use Rattle.orders.specs.Given.{packed, Loaded}

-- i words stand in the memory
pub record Loading (f : List ℕ) (at i : ℕ) (w₀ w : List ℕ) : Type 0 where
  pub long : length w ≡ length w₀
  pub front : take (at + i) w ≡ take at w₀ ++ take i f

module _ {f : List ℕ} {at i : ℕ} {w₀ w : List ℕ} (s : Loading f at i w₀ w) where
  loading-next : at + length f ≤ length w₀ → i < length f → Loading f at (i + 1) w₀ (set w (at + i) (get_or f i 0))
  loading-next room h =
      let e : at + (i + 1) ≡ suc (at + i) = omega arith in
      record {
        long = length-set w (at + i) (get_or f i 0) ∙ s.long;
        front = rw (e, take-suc-set w (at + i) (get_or f i 0) (omega (arith, s.long)), add-one, take-suc f i 0 h, s.front) (append_assoc (take at w₀) (take i f) (get_or f i 0 ∷ []));
      }

  pub loading-all : i ≡ length f → Loaded f at w₀ w
  loading-all e = record { long = s.long; front = rw (← e) (s.front ∙ ap (λ (l : List ℕ). take at w₀ ++ l) (take_all i f (omega arith))) }

-- ---- two words in one

pub packed-length : (ws : List ℕ) → length (packed ws) ≡ length ws / 2
packed-length [] = refl
packed-length (x ∷ []) = refl
packed-length (x ∷ y ∷ ws) = omega (arith, packed-length ws)

packed-at : (ws : List ℕ) (i : ℕ) → i < length (packed ws) → get_or (packed ws) i 0 ≡ get_or ws (i * 2) 0 + get_or ws (i * 2 + 1) 0 * most_half
packed-at [] i h = absurd (omega arith)
packed-at (x ∷ []) i h = absurd (omega arith)
packed-at (x ∷ y ∷ ws) zero h = refl
packed-at (x ∷ y ∷ ws) (suc i) h =
    let e : suc i * 2 ≡ suc (suc (i * 2)) = omega arith in
    let k : suc (suc (i * 2)) + 1 ≡ suc (suc (i * 2 + 1)) = omega arith in
    rw (e, k) (packed-at ws i (omega arith))

pub packed-next : (ws : List ℕ) {at i v : ℕ} {w₀ w : List ℕ} → Loading (packed ws) at i w₀ w → at + length (packed ws) ≤ length w₀ → i < length ws / 2
    → v ≡ get_or ws (i * 2) 0 + get_or ws (i * 2 + 1) 0 * most_half → Loading (packed ws) at (i + 1) w₀ (set w (at + i) v)
packed-next ws {at} {i} s room h e =
    let b : i < length (packed ws) = omega (arith, packed-length ws) in
    rw (e, ← packed-at ws i b) (loading-next s room b)
