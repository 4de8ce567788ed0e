-- A reading that grows field by field: what is put and linked behind its bytes.
use mathlib.Core.Path.{◌≡◌, refl, ap, ◌∙◌}
use Prim.Native.Nat.{ℕ, ◌+◌}
use mathlib.Core.List.{List, [], ◌++◌, append-nil}
use native.Mathlib.Omega.{arith}
use lib.ListN.{length, replicate, length-append, length-replicate}
use Rattle.model_orders.specs.Object.{Slot, new_slot}
use Rattle.model_orders.specs.Reading.{Reading, bytes, field, bytes_of, reading_size}
use Rattle.model.specs.History.{put_on, field_on, link_on}

-- its fields, and then what g makes of its bytes
unfoldable pub on_bytes : Reading → (List ℕ → Reading) → Reading
on_bytes (bytes o) g = g o
on_bytes (field s c r) g = field s c (on_bytes r g)

pub on_same : (x : Reading) {g k : List ℕ → Reading} → ((o : List ℕ) → g o ≡ k o) → on_bytes x g ≡ on_bytes x k
unfolding on_bytes
on_same (bytes o) e = e o
on_same (field s c r) e = ap (field s c) (on_same r e)

pub on-whole : (x : Reading) → x ≡ on_bytes x (λ o. bytes (o ++ []))
unfolding on_bytes
on-whole (bytes o) = rw append-nil
on-whole (field s c r) = ap (field s c) (on-whole r)

pub on-put : (vs : List ℕ) (x : Reading) (g : List ℕ → Reading) → on_bytes (put_on vs x) g ≡ on_bytes x (λ o. g (o ++ vs))
unfolding on_bytes put_on
on-put vs (bytes o) g = refl
on-put vs (field s c r) g = ap (field s c) (on-put vs r g)

on-field : (s : Slot) (c x : Reading) (g : List ℕ → Reading) → on_bytes (field_on s c x) g ≡ on_bytes x (λ o. field s c (g o))
unfolding on_bytes field_on
on-field s c (bytes o) g = refl
on-field s c (field u d r) g = ap (field u d) (on-field s c r g)

pub on-link : (w i : ℕ) (c x : Reading) (g : List ℕ → Reading)
    → on_bytes (link_on w i c x) g ≡ on_bytes x (λ o. field (new_slot (reading_size x) w i) c (g (o ++ replicate w 0)))
on-link w i c x g =
    let s = new_slot (reading_size x) w i in
    on-put (replicate w 0) (field_on s c x) g ∙ on-field s c x (λ o. g (o ++ replicate w 0))

-- ---- sizes

pub size-put : (vs : List ℕ) (x : Reading) → reading_size (put_on vs x) ≡ reading_size x + length vs
unfolding put_on bytes_of
size-put vs (bytes o) = length-append o vs
size-put vs (field s c r) = size-put vs r

field-size : (s : Slot) (c x : Reading) → reading_size (field_on s c x) ≡ reading_size x
unfolding field_on bytes_of
field-size s c (bytes o) = refl
field-size s c (field u d r) = field-size s c r

pub size-link : (w i : ℕ) (c x : Reading) → reading_size (link_on w i c x) ≡ reading_size x + w
size-link w i c x =
    let s = new_slot (reading_size x) w i in
    omega (arith, size-put (replicate w 0) (field_on s c x), field-size s c x, length-replicate {A = ℕ} w 0)
