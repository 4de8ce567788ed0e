-- What a part of a list holds, and a part of a part.
use mathlib.Core.Path.{◌≡◌}
use Prim.Native.Nat.{ℕ, zero, suc, ◌+◌, ◌-◌, ◌≤◌, ◌<◌}
use mathlib.Core.List.{List, [], ◌∷◌}
use native.Mathlib.Omega.{arith}
use lib.ListN.{take, drop, get_or}
use lib.Seq.{take-nil, take-take, drop-drop, get_or-take, get_or-drop}
use Rattle.lists.specs.Lists.{part}

pub get_or-part : (a e i : ℕ) (l : List ℕ) → a + i < e → get_or (part a e l) i 0 ≡ get_or l (a + i) 0
get_or-part a e i l h = let k : i < e - a = omega arith in rw (get_or-take, get_or-drop)

drop-take : (a n : ℕ) (l : List ℕ) → drop a (take n l) ≡ take (n - a) (drop a l)
drop-take zero n l = let e : n - 0 ≡ n = omega arith in rw e
drop-take (suc a) zero l = let e : 0 - suc a ≡ 0 = omega arith in rw e
drop-take (suc a) (suc n) [] = rw (take-nil (suc n - suc a))
drop-take (suc a) (suc n) (x ∷ l) = let e : suc n - suc a ≡ n - a = omega arith in rw (e, drop-take a n l)

pub part-part : (a e b f : ℕ) (l : List ℕ) → b + e ≤ f → part a e (part b f l) ≡ part (b + a) (b + e) l
part-part a e b f l h =
    let k : e - a ≤ f - b - a = omega arith in
    let m : b + e - (b + a) ≡ e - a = omega arith in
    rw (drop-take a (f - b) (drop b l), take-take (e - a) (f - b - a), drop-drop a b l, m)
