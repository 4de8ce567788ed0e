-- The text of a frame is one stretch.
use mathlib.Core.Path.{◌≡◌, refl, ap, ◌∙◌}
use mathlib.Core.List.{List, [], ◌∷◌, ◌++◌, append_assoc, append-nil}
use mathlib.Core.Bool.{Bool, true, false}
use Prim.Native.Nat.{ℕ, zero, suc, ◌+◌, ◌-◌, ◌/◌, ◌%◌, ◌≤◌}
use native.Mathlib.Omega.{arith}
use lib.Dec.{eqb, ltb}
use borrow.Author.Tests.{ne_eqb, le-leb}
use Rattle.lists.specs.Lists.{pick}
use Rattle.cable_crc.specs.Crc.{crc32}
use Rattle.text.specs.Digits.{char0, char_a, digit, digits}
use Rattle.text.specs.Decimal.{decimal}
use Rattle.text_hex.specs.Hex.{hex_word, hex_pairs}
use Rattle.cable_frame.specs.Frame.{frame_key, of_key, data_key, check_key, line_feed, line_of, checked, frame}
use Rattle.cable_scan.specs.Scan.{agreed, differs, stretches_on}
use Rattle.cable_scan.specs.Lines.{quiet}
use Rattle.cable_scan.proofs.Scans.{quiet-append, quiet-first, quiet-rest}

quiet-digit : (d : ℕ) → eqb (digit d) line_feed ≡ false
quiet-digit d = by (ltb d 10)
  where
    by : (t : Bool) → eqb (pick t (d + char0) (d - 10 + char_a)) line_feed ≡ false
    by true = ne_eqb (d + char0) line_feed (λ e. omega arith)
    by false = ne_eqb (d - 10 + char_a) line_feed (λ e. omega arith)

pub quiet-digits : (b w n : ℕ) → quiet (digits b w n) ≡ true
unfolding digits quiet
quiet-digits b zero n = refl
quiet-digits b (suc w) n = quiet-append (digits b w (n / b)) (digit (n % b) ∷ []) (quiet-digits b w (n / b)) (rw (quiet-digit (n % b)))

pub quiet-pairs : (l : List ℕ) → quiet (hex_pairs l) ≡ true
unfolding hex_pairs quiet
quiet-pairs [] = refl
quiet-pairs (b ∷ l) = quiet-append (digits 16 2 b) (hex_pairs l) (quiet-digits 16 2 b) (quiet-pairs l)

-- within a line whose start is settled nothing changes
pass : (line : ℕ) (p v r : List ℕ) → agreed ≤ line → quiet v ≡ true → stretches_on line p (v ++ r) ≡ stretches_on line (p ++ v) r
unfolding quiet stretches_on
pass line p [] r h q = rw append-nil
pass line p (b ∷ v) r h q =
    rw (quiet-first b v q, le-leb agreed line h) (pass line (p ++ (b ∷ [])) v r h (quiet-rest b v q) ∙ rw (append_assoc p (b ∷ []) v))

module _ (key : List ℕ) (p v r : List ℕ) (q : quiet v ≡ true) where
  -- a line that does not start `check=`
  pass-line : stretches_on 0 p (key ++ (v ++ (line_feed ∷ r))) ≡ stretches_on differs (p ++ key) (v ++ (line_feed ∷ r)) → stretches_on 0 p (line_of key v ++ r) ≡ stretches_on 0 (p ++ line_of key v) r
  unfolding stretches_on
  pass-line k =
      let a : line_of key v ++ r ≡ key ++ (v ++ (line_feed ∷ r)) = simp append_assoc in
      let c : ((p ++ key) ++ v) ++ (line_feed ∷ []) ≡ p ++ line_of key v = simp append_assoc in
      ap (stretches_on 0 p) a ∙ k ∙ pass differs (p ++ key) v (line_feed ∷ r) (omega arith) q ∙ rw c

  -- a line that does
  pass-check : stretches_on 0 p (key ++ (v ++ (line_feed ∷ r))) ≡ stretches_on agreed (p ++ key) (v ++ (line_feed ∷ r)) → stretches_on 0 p (line_of key v ++ r) ≡ (p ++ line_of key v) ∷ stretches_on 0 [] r
  unfolding stretches_on
  pass-check k =
      let a : line_of key v ++ r ≡ key ++ (v ++ (line_feed ∷ r)) = simp append_assoc in
      let c : ((p ++ key) ++ v) ++ (line_feed ∷ []) ≡ p ++ line_of key v = simp append_assoc in
      ap (stretches_on 0 p) a ∙ k ∙ pass agreed (p ++ key) v (line_feed ∷ r) (omega arith) q ∙ rw c

module _ (p r : List ℕ) where
  key-frame : stretches_on 0 p (frame_key ++ r) ≡ stretches_on differs (p ++ frame_key) r
  unfolding stretches_on
  key-frame = simp append_assoc

  key_of : stretches_on 0 p (of_key ++ r) ≡ stretches_on differs (p ++ of_key) r
  unfolding stretches_on
  key_of = simp append_assoc

  key-data : stretches_on 0 p (data_key ++ r) ≡ stretches_on differs (p ++ data_key) r
  unfolding stretches_on
  key-data = simp append_assoc

  key-check : stretches_on 0 p (check_key ++ r) ≡ stretches_on agreed (p ++ check_key) r
  unfolding stretches_on
  key-check = simp append_assoc

pub frame-stretch : (n m : ℕ) (d r : List ℕ) → stretches_on 0 [] (frame n m d ++ r) ≡ frame n m d ∷ stretches_on 0 [] r
unfolding frame
frame-stretch n m d r =
    let a : List ℕ = line_of frame_key (decimal n) in
    let b : List ℕ = line_of of_key (decimal m) in
    let c : List ℕ = line_of data_key (hex_pairs d) in
    let k : List ℕ = hex_word (crc32 (checked n m d)) in
    let e : List ℕ = line_of check_key k in
    let x : (a ++ (b ++ (c ++ e))) ++ r ≡ a ++ (b ++ (c ++ (e ++ r))) = simp append_assoc in
    let y : ((a ++ b) ++ c) ++ e ≡ a ++ (b ++ (c ++ e)) = simp append_assoc in
    ap (stretches_on 0 []) x
    ∙ pass-line frame_key [] (decimal n) (b ++ (c ++ (e ++ r))) (quiet-digits 10 _ n) (key-frame [] _)
    ∙ pass-line of_key a (decimal m) (c ++ (e ++ r)) (quiet-digits 10 _ m) (key_of a _)
    ∙ pass-line data_key (a ++ b) (hex_pairs d) (e ++ r) (quiet-pairs d) (key-data (a ++ b) _)
    ∙ pass-check check_key ((a ++ b) ++ c) k r (quiet-digits 16 8 _) (key-check ((a ++ b) ++ c) _)
    ∙ ap (λ (l : List ℕ). l ∷ stretches_on 0 [] r) y
