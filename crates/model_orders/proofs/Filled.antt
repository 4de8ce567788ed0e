-- An object's bytes with its fields filled.
use mathlib.Core.Path.{◌≡◌, refl, sym, ap, subst, ◌∙◌}
use Prim.Native.Nat.{ℕ, ◌+◌, ◌-◌, ◌≤◌, ◌<◌}
use native.Mathlib.Nat.{le_refl}
use mathlib.Core.List.{List, [], ◌∷◌, ◌++◌, append_assoc}
use mathlib.Core.Logic.{◌⊎◌, inl, inr}
use native.Mathlib.Omega.{arith}
use lib.ListN.{length, take, drop, get_or, length-append, take-append-drop}
use lib.Seq.{take_at, drop_at, length-take-le}
use Rattle.lists.specs.Lists.{part, over}
use Rattle.lists.proofs.Over.{length_over, over-take}
use Rattle.big_endian.specs.BigEndian.{big_endian}
use Rattle.big_endian.proofs.Laws.{length-big, field-before, field-after}
use Rattle.model_orders.specs.Object.{Slot, Link}
use Rattle.model_orders.specs.Distance.{In, here, there}
use Rattle.model_orders.specs.Table.{filled, SlotIn, FieldsIn}

-- what ends a front of a list
front-part : (f x b : List ℕ) (a w : ℕ) → take (a + w) f ≡ x ++ b → length x ≡ a → length b ≡ w → part a (a + w) f ≡ b
front-part f x b a w e h k =
    let n : a + w - a ≡ w = omega arith in
    ap (λ (m : ℕ). take m (drop a f)) n
    ∙ ap (λ (z : List ℕ). take w (drop a z)) (sym (take-append-drop (a + w) f) ∙ ap (λ (z : List ℕ). z ++ drop (a + w) f) e ∙ append_assoc x b (drop (a + w) f))
    ∙ ap (take w) (drop_at x (b ++ drop (a + w) f) a h) ∙ take_at b (drop (a + w) f) w k

-- no field of ls has place k
unfoldable pub Clear : ℕ → List Link → Type 0
Clear k [] = Unit {0}
Clear k (l ∷ ls) = ((k < l.slot.at) ⊎ (l.slot.at + l.slot.width ≤ k)) × Clear k ls

-- a field lies in more room
pub slot-room : {from n : ℕ} {s : Slot} → SlotIn from n s → (m k : ℕ) → m ≤ from → n ≤ k → SlotIn m k s
slot-room f m k a b = record { after = omega (arith, f.after); inside = omega (arith, f.inside); start = f.start }

-- a field lies inside
pub field_room : (from n : ℕ) (l : Link) (ls : List Link) → FieldsIn from n ls → In l ls → SlotIn 0 n l.slot
unfolding FieldsIn
field_room from n l [] f x'' = elim x'' [ ]
field_room from n l (m ∷ ls) f (here e) = subst (λ (k : Link). SlotIn 0 n k.slot) (sym e) (slot-room f.0 0 n (omega arith) (le_refl n))
field_room from n l (m ∷ ls) f (there i) = field_room (m.slot.at + m.slot.width) n l ls f.1 i

module _ (off : Link → ℕ) where
  -- one field written
  unfoldable pub wrote : Link → List ℕ → List ℕ
  wrote l bs = over l.slot.at (big_endian l.slot.width (off l)) bs

  inside : (l : Link) (bs : List ℕ) → l.slot.at + l.slot.width ≤ length bs → l.slot.at + length (big_endian l.slot.width (off l)) ≤ length bs
  inside l bs h = rw length-big h

  pub length-wrote : (l : Link) (bs : List ℕ) → l.slot.at + l.slot.width ≤ length bs → length (wrote l bs) ≡ length bs
  unfolding wrote
  length-wrote l bs h = length_over l.slot.at (big_endian l.slot.width (off l)) bs (inside l bs h)

  pub length-filled : (from n : ℕ) (ls : List Link) (bs : List ℕ) → length bs ≡ n → FieldsIn from n ls → length (filled off ls bs) ≡ n
  unfolding filled FieldsIn wrote
  length-filled from n [] bs e f = e
  length-filled from n (l ∷ ls) bs e f = length-filled (l.slot.at + l.slot.width) n ls (wrote l bs) (length-wrote l bs (omega (arith, f.0.inside)) ∙ e) f.1

  -- bytes outside the fields stand
  pub filled-clear : (from n k : ℕ) (ls : List Link) (bs : List ℕ) → length bs ≡ n → FieldsIn from n ls → Clear k ls → get_or (filled off ls bs) k 0 ≡ get_or bs k 0
  unfolding filled FieldsIn Clear wrote
  filled-clear from n k [] bs e f c = refl
  filled-clear from n k (l ∷ ls) bs e f c =
      let h : l.slot.at + l.slot.width ≤ length bs = omega (arith, f.0.inside) in
      filled-clear (l.slot.at + l.slot.width) n k ls (wrote l bs) (length-wrote l bs h ∙ e) f.1 c.1 ∙ go h c.0
    where
      go : l.slot.at + l.slot.width ≤ length bs → (k < l.slot.at) ⊎ (l.slot.at + l.slot.width ≤ k) → get_or (wrote l bs) k 0 ≡ get_or bs k 0
      go h (inl a) = field-before l.slot.at l.slot.width (off l) bs h k a
      go h (inr a) = field-after l.slot.at l.slot.width (off l) bs h k a

  -- the bytes before the first field stand
  filled-front : (from n m : ℕ) (ls : List Link) (bs : List ℕ) → m ≤ from → length bs ≡ n → FieldsIn from n ls → take m (filled off ls bs) ≡ take m bs
  unfolding filled FieldsIn wrote
  filled-front from n m [] bs h e f = refl
  filled-front from n m (l ∷ ls) bs h e f =
      let k : l.slot.at + l.slot.width ≤ length bs = omega (arith, f.0.inside) in
      filled-front (l.slot.at + l.slot.width) n m ls (wrote l bs) (omega (arith, f.0.after)) (length-wrote l bs k ∙ e) f.1
      ∙ over-take l.slot.at (big_endian l.slot.width (off l)) bs (inside l bs k) m (omega (arith, f.0.after))

  -- the first field holds its offset
  filled-field : (from n : ℕ) (l : Link) (ls : List Link) (bs : List ℕ) → length bs ≡ n → FieldsIn from n (l ∷ ls)
      → part l.slot.at (l.slot.at + l.slot.width) (filled off (l ∷ ls) bs) ≡ big_endian l.slot.width (off l)
  unfolding filled FieldsIn wrote over
  filled-field from n l ls bs e f =
      let s = l.slot in
      let field = big_endian s.width (off l) in
      let b = length-big s.width (off l) in
      let k : s.at + s.width ≤ length bs = omega (arith, f.0.inside) in
      let q : length (take s.at bs) ≡ s.at = length-take-le s.at bs (omega arith) in
      let front : take (s.at + s.width) (filled off ls (wrote l bs)) ≡ take s.at bs ++ field =
      filled-front (s.at + s.width) n (s.at + s.width) ls (wrote l bs) (omega arith) (length-wrote l bs k ∙ e) f.1
      ∙ ap (λ (z : List ℕ). take (s.at + s.width) z) (sym (append_assoc (take s.at bs) field _))
      ∙ take_at (take s.at bs ++ field) _ (s.at + s.width) (omega (arith, length-append (take s.at bs) field)) in
      front-part (filled off ls (wrote l bs)) (take s.at bs) field s.at s.width front q b

  -- and so does every field
  pub filled_at : (from n : ℕ) (l : Link) (ls : List Link) (bs : List ℕ) → length bs ≡ n → FieldsIn from n ls → In l ls
      → part l.slot.at (l.slot.at + l.slot.width) (filled off ls bs) ≡ big_endian l.slot.width (off l)
  unfolding filled FieldsIn wrote
  filled_at from n l [] bs e f x3 = elim x3 [ ]
  filled_at from n l (m ∷ ls) bs e f (here q) = rw q (filled-field from n m ls bs e f)
  filled_at from n l (m ∷ ls) bs e f (there i) = filled_at (m.slot.at + m.slot.width) n l ls (wrote m bs) (length-wrote m bs (omega (arith, f.0.inside)) ∙ e) f.1 i
