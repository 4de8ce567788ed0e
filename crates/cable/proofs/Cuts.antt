-- A text cut in two: the scan of the first part says how the stretches go on in the second.
use mathlib.Core.Path.{◌≡◌, refl, ◌∙◌}
use mathlib.Core.List.{List, [], ◌∷◌, ◌++◌, append_assoc, append-nil}
use mathlib.Core.Bool.{Bool, true, false}
use Prim.Native.Nat.{ℕ, suc, ◌+◌, ◌-◌, ◌≤◌, ◌<◌}
use native.Mathlib.Omega.{arith}
use lib.ListN.{length, take, drop}
use Rattle.std.specs.Prelude.{Some, None}
use Rattle.lists.specs.Lists.{pick}
use Rattle.cable_scan.specs.Scan.{line_next, ends, scanned, scan_on, stretches_on}

-- the line under way is at m behind t
pub record On (k line m : ℕ) (p t r : List ℕ) : Type 0 where
  pub all : (scan_on k line t).taken ≡ k + length t
  pub on : stretches_on line p (t ++ r) ≡ stretches_on m (p ++ t) r

-- no stretch ended: it goes on behind the whole first part
pub cut_on : (k line m : ℕ) (p t r : List ℕ) → (scan_on k line t).line ≡ Some m → On k line m p t r
unfolding scan_on stretches_on
cut_on k line m p [] r e = let l : line ≡ m = cc in record { all = omega arith; on = rw (append-nil, l) }
cut_on k line m p (b ∷ t) r e = by (ends line b) refl e (λ f. cut_on (k + 1) (line_next line b) m (p ++ (b ∷ [])) t r f)
  where
    by : (x : Bool) → ends line b ≡ x → (pick x (scanned (k + 1) None) (scan_on (k + 1) (line_next line b) t)).line ≡ Some m
        → ((scan_on (k + 1) (line_next line b) t).line ≡ Some m → On (k + 1) (line_next line b) m (p ++ (b ∷ [])) t r) → On k line m p (b ∷ t) r
    by true f g i = absurd (cc)
    by false f g i =
        let c = i g in
        record { all = rw f (omega (arith, c.all)); on = rw f (c.on ∙ rw (append_assoc p (b ∷ []) t)) }

pub record Ended (k line : ℕ) (p t r : List ℕ) : Type 0 where
  pub some : k < (scan_on k line t).taken
  pub most : (scan_on k line t).taken ≤ k + length t
  pub first : stretches_on line p (t ++ r) ≡ (p ++ take ((scan_on k line t).taken - k) t) ∷ stretches_on 0 [] (drop ((scan_on k line t).taken - k) t ++ r)

-- a stretch ended: it is the first, and the others begin behind it
pub cut-end : (k line : ℕ) (p t r : List ℕ) → (scan_on k line t).line ≡ None → Ended k line p t r
unfolding scan_on stretches_on
cut-end k line p [] r e = absurd (cc)
cut-end k line p (b ∷ t) r e = by (ends line b) refl e (λ f. cut-end (k + 1) (line_next line b) (p ++ (b ∷ [])) t r f)
  where
    by : (x : Bool) → ends line b ≡ x → (pick x (scanned (k + 1) None) (scan_on (k + 1) (line_next line b) t)).line ≡ None
        → ((scan_on (k + 1) (line_next line b) t).line ≡ None → Ended (k + 1) (line_next line b) (p ++ (b ∷ [])) t r) → Ended k line p (b ∷ t) r
    by true f g i =
        let z : k + 1 - k ≡ 1 = omega arith in
        record { some = rw f (omega arith); most = rw f (omega arith); first = rw (f, z) }
    by false f g i =
        let c = i g in
        let n : ℕ = (scan_on (k + 1) (line_next line b) t).taken in
        let z : n - k ≡ suc (n - (k + 1)) = omega (arith, c.some) in
        record {
          some = rw f (omega (arith, c.some));
          most = rw f (omega (arith, c.most));
          first = rw (f, z) (c.first ∙ rw (append_assoc p (b ∷ []) (take (n - (k + 1)) t)));
        }
