-- Laws of `Kept`.
use mathlib.Core.Path.{◌≡◌, refl, sym, ap, ◌∙◌}
use Prim.Native.Nat.{ℕ, zero, suc, ◌+◌, ◌-◌, ◌≤◌, ◌<◌}
use mathlib.Core.List.{List, [], ◌∷◌}
use native.Mathlib.Omega.{arith}
use lib.ListN.{get_or, set, take, drop, length-set}
use lib.Seq.{take-set-le, drop-set-lt, get_or-take, take-take, take-nil, drop-drop}
use Rattle.regions.specs.Region.{region, Kept}

pub kept-all : {a b : ℕ} {w : List ℕ} → Kept a b w w
kept-all = record { long = refl; front = refl; back = refl }

pub kept_then : {a b : ℕ} {w₀ w₁ w₂ : List ℕ} → Kept a b w₀ w₁ → Kept a b w₁ w₂ → Kept a b w₀ w₂
kept_then r s = record { long = s.long ∙ r.long; front = s.front ∙ r.front; back = s.back ∙ r.back }

pub kept_set : (a b : ℕ) (w : List ℕ) (j v : ℕ) → a ≤ j → j < b → Kept a b w (set w j v)
kept_set a b w j v h k = record { long = length-set w j v; front = take-set-le a w j v h; back = drop-set-lt b w j v k }

module _ {a b : ℕ} {w₀ w : List ℕ} (s : Kept a b w₀ w) where
  -- fewer words are said to be kept
  pub kept_less : (a' b' : ℕ) → a' ≤ a → b ≤ b' → Kept a' b' w₀ w
  kept_less a' b' h k =
      let e : b' ≡ b + (b' - b) = omega arith in
      record {
        long = s.long;
        front = sym (take-take a' a w h) ∙ ap (take a') s.front ∙ take-take a' a w₀ h;
        back = rw e (sym (drop-drop (b' - b) b w) ∙ ap (drop (b' - b)) s.back ∙ drop-drop (b' - b) b w₀);
      }

  pub kept_at : (j : ℕ) → j < a → get_or w j 0 ≡ get_or (take a w₀) j 0
  kept_at j h = sym (get_or-take a w j 0 h) ∙ ap (λ (l : List ℕ). get_or l j 0) s.front

drop-take : (c a : ℕ) (w : List ℕ) → drop c (take a w) ≡ take (a - c) (drop c w)
drop-take zero a w = let e : a - 0 ≡ a = omega arith in rw e
drop-take (suc c) zero w = let e : 0 - suc c ≡ 0 = omega arith in rw e
drop-take (suc c) (suc a) [] = let e : suc a - suc c ≡ a - c = omega arith in rw (e, take-nil)
drop-take (suc c) (suc a) (x ∷ w) = let e : suc a - suc c ≡ a - c = omega arith in rw e (drop-take c a w)

region-front : (a c n : ℕ) (w : List ℕ) → c + n ≤ a → region c n (take a w) ≡ region c n w
region-front a c n w h = rw (drop-take c a w) (take-take n (a - c) (drop c w) (omega arith))

-- a region in what is kept
module _ {a b : ℕ} {w₀ w : List ℕ} (s : Kept a b w₀ w) (c n : ℕ) where
  pub kept-below : c + n ≤ a → region c n w ≡ region c n w₀
  kept-below h = sym (region-front a c n w h) ∙ ap (region c n) s.front ∙ region-front a c n w₀ h

  pub kept_above : b ≤ c → region c n w ≡ region c n w₀
  kept_above h = ap (take n) (kept_less s 0 c (omega arith) h).back
