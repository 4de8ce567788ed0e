-- A turn of each loop over hex pairs: what is left to write, what is left to read.
use mathlib.Core.Path.{◌≡◌, refl, sym, ◌∙◌}
use Prim.Native.Nat.{ℕ, ◌+◌, ◌*◌, ◌/◌, ◌%◌, ◌≤◌, ◌<◌}
use mathlib.Core.List.{List, [], ◌∷◌}
use mathlib.Core.Bool.{Bool, ◌&&◌, and_assoc, and-true}
use native.Mathlib.Omega.{arith}
use lib.Dec.{ltb}
use lib.ListN.{length, drop, get_or, set, length-drop, length-set, drop_of_length-le}
use Rattle.lists.specs.Lists.{over}
use Rattle.lists.proofs.Runs.{drop-first, over_none, over_first}
use Rattle.lists.proofs.Overs.{over-then}
use Rattle.text.specs.Digits.{digit, digits, value_of, all_digits}
use Rattle.text_hex.specs.Hex.{hex_pairs, pair_value, bytes_of}
use Rattle.text.proofs.Written.{length_digits}
use Rattle.text.proofs.DigitTurns.{all_first, all_none}

-- ---- pairs written
pub pair_put : (at b : ℕ) (l : List ℕ) → at + 2 ≤ length l
    → set (set l at (digit (b / 16 % 16))) (at + 1) (digit (b % 16)) ≡ over at (digits 16 2 b) l
unfolding digits
pair_put at b l h =
    let x : ℕ = digit (b / 16 % 16) in
    let y : ℕ = digit (b % 16) in
    sym (over_none (at + 1 + 1) (set (set l at x) (at + 1) y))
    ∙ over_first (at + 1) y [] (set l at x) (rw length-set (omega arith))
    ∙ over_first at x (y ∷ []) l (omega arith)

pub pairs-turn : (at i : ℕ) (l out : List ℕ) → i < length l → at + length l * 2 ≤ length out
    → over (at + (i + 1) * 2) (hex_pairs (drop (i + 1) l)) (over (at + i * 2) (digits 16 2 (get_or l i 0)) out) ≡ over (at + i * 2) (hex_pairs (drop i l)) out
unfolding hex_pairs
pairs-turn at i l out h k =
    let b : ℕ = get_or l i 0 in
    let n : length (digits 16 2 b) ≡ 2 = length_digits 16 2 b in
    let e : at + (i + 1) * 2 ≡ at + i * 2 + length (digits 16 2 b) = omega arith in
    rw (e, drop-first i l h) (over-then (at + i * 2) (digits 16 2 b) out (omega arith) (hex_pairs (drop (i + 1) l)))

pub pairs_end : (at i : ℕ) (l out : List ℕ) → length l ≤ i → over at (hex_pairs (drop i l)) out ≡ out
unfolding hex_pairs
pairs_end at i l out h = rw (drop_of_length-le l {i = i} h) (over_none at out)

-- ---- pairs read
pub bytes-turn : (i : ℕ) (l out : List ℕ) → i * 2 + 1 < length l → i < length out
    → over (i + 1) (bytes_of (drop ((i + 1) * 2) l)) (set out i (pair_value (get_or l (i * 2) 0) (get_or l (i * 2 + 1) 0))) ≡ over i (bytes_of (drop (i * 2) l)) out
unfolding bytes_of
bytes-turn i l out h k =
    let e : (i + 1) * 2 ≡ i * 2 + 1 + 1 = omega arith in
    let a : i * 2 < length l = omega arith in
    rw (e, drop-first (i * 2) l a, drop-first (i * 2 + 1) l h) (over_first i _ _ out k)

bytes-short : (l : List ℕ) → length l ≤ 1 → bytes_of l ≡ []
unfolding bytes_of
bytes-short [] h = refl
bytes-short (c ∷ []) h = refl
bytes-short (c ∷ (d ∷ l)) h = absurd (omega arith)

pub bytes-end : (i : ℕ) (l out : List ℕ) → length l ≤ i * 2 + 1 → over i (bytes_of (drop (i * 2) l)) out ≡ out
bytes-end i l out h = rw (bytes-short (drop (i * 2) l) (omega (arith, length-drop (i * 2) l))) (over_none i out)

-- two characters more are digits, so far as all before them were
pub both-turn : (flag : Bool) (i : ℕ) (l : List ℕ) → i * 2 + 1 < length l
    → (((flag && ltb (value_of (get_or l (i * 2) 0)) 16) && ltb (value_of (get_or l (i * 2 + 1) 0)) 16) && all_digits 16 (drop ((i + 1) * 2) l)) ≡ (flag && all_digits 16 (drop (i * 2) l))
both-turn flag i l h =
    let e : (i + 1) * 2 ≡ i * 2 + 1 + 1 = omega arith in
    let a : i * 2 < length l = omega arith in
    rw (e, all_first 16 (i * 2) l a, all_first 16 (i * 2 + 1) l h) (simp and_assoc)

pub both_end : (flag : Bool) (i : ℕ) (l : List ℕ) → length l ≤ i * 2 → (flag && all_digits 16 (drop (i * 2) l)) ≡ flag
both_end flag i l h = rw (all_none 16 (i * 2) l h, and-true)
