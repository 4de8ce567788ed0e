-- The bytes that a promoted lookup at p is read from: its type is 7, and all else is the slice's.
use mathlib.Core.Path.{◌≡◌, sym, ◌∙◌}
use Prim.Native.Nat.{ℕ, ◌+◌, ◌-◌, ◌≤◌}
use mathlib.Core.List.{List, [], ◌∷◌}
use native.Mathlib.Decide.{dec_le}
use native.Mathlib.Omega.{arith}
use borrow.Author.Tests.{le-leb, lt-leb}
use lib.Dec.{leb}
use lib.ListN.{length, get_or, set, length-set, get_or-eq_default}
use lib.Seq.{get_or-set_same, get_or-set_other, drop-set-lt}
use Rattle.lists.specs.Lists.{pick, part}
use Rattle.lists.proofs.Runs.{part-first}
use Rattle.gsub.specs.Tables.{word_at}
use Rattle.gsub.specs.Promote.{promoted, bytes_in}

module _ (b : List ℕ) (p : ℕ) where
  abbrev pub changed : List ℕ
  changed = bytes_in b promoted p

  pub same_length : length changed ≡ length b
  same_length = length-set (set b p 0) (p + 1) 7 ∙ length-set b p 0

  same_byte : (i : ℕ) → p + 2 ≤ i → get_or changed i 0 ≡ get_or b i 0
  same_byte i h = get_or-set_other (set b p 0) (p + 1) i 7 0 (λ e. omega arith) ∙ get_or-set_other b p i 0 0 (λ e. omega arith)

  pub same_word : (i : ℕ) → p + 2 ≤ i → word_at changed i ≡ word_at b i
  same_word i h = rw (same_byte i h, same_byte (i + 1) (omega arith))

  pub same-part : (a e : ℕ) → p + 2 ≤ a → part a e changed ≡ part a e b
  same-part a e h = rw (drop-set-lt a (set b p 0) (p + 1) 7 (omega arith), drop-set-lt a b p 0 (omega arith))

  type-byte : p + 2 ≤ length b → get_or changed (p + 1) 0 ≡ 7
  type-byte h = get_or-set_same (set b p 0) (p + 1) 7 0 (omega (arith, length-set b p 0))

  -- its type is 7, where it lies in the slice
  pub type-lies : p + 2 ≤ length b → word_at changed p ≡ 7
  type-lies h =
      let high = get_or-set_other (set b p 0) (p + 1) p 7 0 (λ e. omega arith) ∙ get_or-set_same b p 0 0 (omega arith) in
      rw (high, type-byte h)

  pub type-is : word_at changed p ≡ pick (leb (p + 2) (length b)) 7 0
  type-is = go (dec_le (p + 2) (length b))
    where
      past : (i : ℕ) → length b ≤ i → get_or changed i 0 ≡ 0
      past i h = get_or-eq_default changed 0 {n = i} (omega (arith, same_length))

      go : Dec (p + 2 ≤ length b) → word_at changed p ≡ pick (leb (p + 2) (length b)) 7 0
      go (yes l) = type-lies l ∙ sym (rw (le-leb (p + 2) (length b) l))
      go (no l) = rw (lt-leb (p + 2) (length b) (omega arith)) (omega (arith, past (p + 1) (omega arith), high (dec_le (p + 1) (length b))))
        where
          high : Dec (p + 1 ≤ length b) → get_or changed p 0 ≡ 0
          high (yes m) = get_or-set_other (set b p 0) (p + 1) p 7 0 (λ e. omega arith) ∙ get_or-set_same b p 0 0 (omega arith)
          high (no m) = past p (omega arith)

  pub type-bytes : p + 2 ≤ length b → part p (p + 2) changed ≡ 0 ∷ 7 ∷ []
  type-bytes h =
      let high = get_or-set_other (set b p 0) (p + 1) p 7 0 (λ e. omega arith) ∙ get_or-set_same b p 0 0 (omega arith) in
      let at : p + 2 - (p + 1 + 1) ≡ 0 = omega arith in
      part-first p (p + 2) changed (omega arith) (omega (arith, same_length))
      ∙ rw (high, part-first (p + 1) (p + 2) changed (omega arith) (omega (arith, same_length)), type-byte h, at)
