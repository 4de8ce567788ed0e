-- Written digits of any base up to 16: how many they are, that each is one, and that reading them gives the number back.
use mathlib.Core.Path.{◌≡◌, refl, ap₂, ◌∙◌}
use Prim.Native.Nat.{ℕ, zero, suc, ◌+◌, ◌-◌, ◌*◌, ◌/◌, ◌%◌, ◌≤◌, ◌<◌}
use mathlib.Core.List.{List, [], ◌∷◌, ◌++◌}
use mathlib.Core.Bool.{Bool, true, false}
use native.Mathlib.Omega.{arith}
use native.Mathlib.Nat.{mod-lt, div-add-mod'}
use lib.Dec.{leb, ltb}
use lib.ListN.{length, length-append}
use borrow.Author.Tests.{lt-ltb, le-ltb, le-leb, lt-leb, ltb-true, ltb-false, leb-true}
use Rattle.lists.proofs.Same.{and_left, and_right}
use Rattle.text.specs.Digits.{char0, char9, char_a, char_f, digit, digits, value_of, all_digits, read_on}

pub length_digits : (b w n : ℕ) → length (digits b w n) ≡ w
unfolding digits
length_digits b zero n = refl
length_digits b (suc w) n = omega (arith, length-append (digits b w (n / b)) (digit (n % b) ∷ []), length_digits b w (n / b))

-- the digit's character has the digit's value
pub value-digit : (d : ℕ) → d < 16 → value_of (digit d) ≡ d
value-digit d h = by (ltb d 10) refl
  where
    by : (t : Bool) → ltb d 10 ≡ t → value_of (digit d) ≡ d
    by true e =
        let k : d < 10 = ltb-true d 10 e in
        rw e (rw (le-ltb (d + char0) char0 (omega arith), le-leb (d + char0) char9 (omega arith)) (omega arith))
    by false e =
        let k : 10 ≤ d = ltb-false d 10 e in
        let c : ℕ = d - 10 + char_a in
        rw e (rw (le-ltb c char0 (omega arith), lt-leb c char9 (omega arith), le-ltb c char_a (omega arith), le-leb c char_f (omega arith)) (omega arith))

-- and the character of its value is the digit's
pub digit_value : (c : ℕ) → value_of c < 16 → digit (value_of c) ≡ c
digit_value c h = by (ltb c char0) refl (leb c char9) refl (ltb c char_a) refl (leb c char_f) refl
  where
    by : (p : Bool) → ltb c char0 ≡ p → (q : Bool) → leb c char9 ≡ q → (r : Bool) → ltb c char_a ≡ r → (s : Bool) → leb c char_f ≡ s → digit (value_of c) ≡ c
    by true a q b r d s e = let k : 16 < 16 = rw a at h in absurd (omega arith)
    by false a true b r d s e =
        let l : char0 ≤ c = ltb-false c char0 a in
        let m : c ≤ char9 = leb-true c char9 b in
        rw (a, b) (rw (lt-ltb (c - char0) 10 (omega arith)) (omega arith))
    by false a false b true d s e = let k : 16 < 16 = rw (a, b, d) at h in absurd (omega arith)
    by false a false b false d true e =
        let l : char_a ≤ c = ltb-false c char_a d in
        rw (a, b, d, e) (rw (le-ltb (c - char_a + 10) 10 (omega arith)) (omega arith))
    by false a false b false d false e = let k : 16 < 16 = rw (a, b, d, e) at h in absurd (omega arith)

-- two texts in a row are read one after the other
read-append : (b v : ℕ) (l m : List ℕ) → read_on b v (l ++ m) ≡ read_on b (read_on b v l) m
unfolding read_on
read-append b v [] m = refl
read-append b v (c ∷ l) m = read-append b (v * b + value_of c) l m

module _ (b : ℕ) (low : 2 ≤ b) (high : b ≤ 16) where
  rest_lt : (n : ℕ) → n % b < b
  rest_lt n = mod-lt n (omega arith)

  -- one digit more at the end
  pub read-last : (v n : ℕ) (l : List ℕ) → read_on b v l ≡ n / b → read_on b v (l ++ (digit (n % b) ∷ [])) ≡ n
  unfolding read_on
  read-last v n l e =
      read-append b v l (digit (n % b) ∷ [])
      ∙ ap₂ (λ (x y : ℕ). x * b + y) e (value-digit (n % b) (omega (arith, rest_lt n)))
      ∙ div-add-mod' n b

  all_append : (l m : List ℕ) → all_digits b l ≡ true → all_digits b m ≡ true → all_digits b (l ++ m) ≡ true
  unfolding all_digits
  all_append [] m h k = k
  all_append (c ∷ l) m h k =
      let t : Bool = ltb (value_of c) b in
      rw (and_left t (all_digits b l) h) (all_append l m (and_right t (all_digits b l) h) k)

  pub digits-all : (w n : ℕ) → all_digits b (digits b w n) ≡ true
  unfolding digits all_digits
  digits-all zero n = refl
  digits-all (suc w) n =
      all_append (digits b w (n / b)) (digit (n % b) ∷ []) (digits-all w (n / b))
      (rw (value-digit (n % b) (omega (arith, rest_lt n)), lt-ltb (n % b) b (rest_lt n)))
