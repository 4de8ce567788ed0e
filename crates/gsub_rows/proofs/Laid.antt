-- The field of a number, in a run or behind it.
use mathlib.Core.Path.{◌≡◌, sym, ap, ◌∙◌}
use Prim.Native.Nat.{ℕ, zero, suc, ◌+◌, ◌-◌, ◌*◌, ◌%◌, ◌≤◌, ◌<◌}
use mathlib.Core.List.{List, ◌++◌}
use native.Mathlib.Decide.{dec_le}
use native.Mathlib.Omega.{arith}
use native.Mathlib.Nat.{mod-eq_of_lt, add-mod_left, suc-mul}
use lib.ListN.{length, get_or, length-append, get_or-append}
use lib.Seq.{get_or-append-add}
use Rattle.gsub.specs.declared.Field.{Field}
use Rattle.gsub.specs.Tables.{uint16, times}
use Rattle.std.specs.Prelude.{Option, Some, None}
use Rattle.gsub_rows.specs.Fields.{Narrow, Found}

length-times : (n : ℕ) (r : List Field) → length (times n r) ≡ n * length r
unfolding times
length-times zero r = omega arith
length-times (suc n) r = omega (arith, length-append r (times n r), length-times n r, suc-mul n (length r))

times-at : (n : ℕ) (r : List Field) (j : ℕ) (d : Field) → j < n * length r → get_or (times n r) j d ≡ get_or r (j % length r) d
unfolding times
times-at zero r j d h = absurd (omega arith)
times-at (suc n) r j d h = go (times-at n r (j - length r) d) (dec_le (length r) j)
  where
    go : (j - length r < n * length r → get_or (times n r) (j - length r) d ≡ get_or r ((j - length r) % length r) d) → Dec (length r ≤ j) → get_or (r ++ times n r) j d ≡ get_or r (j % length r) d
    go later (yes l) =
        let e : j ≡ length r + (j - length r) = omega arith in
        let m : j % length r ≡ (j - length r) % length r = ap (λ z. z % length r) e ∙ add-mod_left (length r) (j - length r) in
        ap (λ z. get_or (r ++ times n r) z d) e ∙ get_or-append-add r (times n r) (j - length r) d ∙ later (omega (arith, suc-mul n (length r))) ∙ ap (λ z. get_or r z d) (sym m)
    go later (no l) =
        let b : j < length r = omega arith in
        get_or-append r (times n r) d j b ∙ ap (λ z. get_or r z d) (sym (mod-eq_of_lt b))

module _ (n : ℕ) (r later : List Field) (i : ℕ) where
  -- in the run
  pub found_here : i < n * length r → {f : Field} → get_or r (i % length r) uint16 ≡ f → Narrow f → Found (times n r ++ later) i (Some f)
  unfolding Found
  found_here h e k =
      let l = length-times n r in (
        omega (arith, length-append (times n r) later),
        get_or-append (times n r) later uint16 i (omega arith) ∙ times-at n r i uint16 h ∙ e,
        k,
      )

  -- behind it
  pub found-later : n * length r ≤ i → (x : Option Field) → Found later (i - n * length r) x → Found (times n r ++ later) i x
  unfolding Found
  found-later h (Some f) k =
      let l = length-times n r in
      let e : i ≡ length (times n r) + (i - n * length r) = omega arith in (
        omega (arith, length-append (times n r) later, k.0),
        ap (λ z. get_or (times n r ++ later) z uint16) e ∙ get_or-append-add (times n r) later (i - n * length r) uint16 ∙ k.1,
        k.2,
      )
  found-later h None k = omega (arith, length-append (times n r) later, length-times n r)
