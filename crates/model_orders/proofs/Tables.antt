-- The layout theorem: of any order of the objects below a root, each once, parents first, in which every offset fits, the table shows the
-- root's reading from its first byte, every field leads to the place of its child, none is 0, every child lies behind its parent, and the length is
-- the sum of the sizes.
use mathlib.Core.Path.{◌≡◌, refl, sym, ap, ◌∙◌}
use Prim.Native.Nat.{ℕ, ◌+◌, ◌-◌, ◌≤◌, ◌<◌}
use mathlib.Core.List.{List, [], ◌∷◌, ◌++◌, append_assoc}
use mathlib.Core.Bool.{Bool, true, false}
use native.Mathlib.Omega.{arith}
use lib.ListN.{length, take, drop, get_or, length-append, length-drop, get_or-append}
use lib.Seq.{take-append-le, drop-append-le, drop-append-add, get_or-append-add}
use Rattle.lists.specs.Lists.{pick, part, total}
use Rattle.answer.specs.declared.Overflow.{Overflow}
use Rattle.big_endian.specs.BigEndian.{fits, read_big}
use Rattle.big_endian.proofs.Laws.{big-read}
use Rattle.model_orders.specs.Bag.{count}
use Rattle.model_orders.specs.Object.{Link}
use Rattle.model_orders.specs.Graph.{Graph, Closed, ParentsFirst, Rooted}
use Rattle.model_orders.specs.Distance.{In, here, there}
use Rattle.model_orders.specs.Reading.{Reading, bytes, field, bytes_of, read_links, Reads, Outside, Own, target, FieldsShow, Shows, Wide, Apart}
use Rattle.model_orders.specs.Table.{place_of, offset, unfit_links, unfit_from, unfit, object_bytes, table_from, table_of, Fields, Sized}
use Rattle.model_orders.specs.Laid.{LaidOut}
use Rattle.model_orders.proofs.Bags.{Same, same, other, same_or, total-bag}
use Rattle.model_orders.proofs.Before.{before_here, before-next, before-behind, before_root}
use Rattle.model_orders.proofs.Distances.{in-kids}
use Rattle.model_orders.proofs.Filled.{Clear, field_room, length-filled, filled-clear, filled_at}

-- ---- the table around an object

module _ (g : Graph) (content : ℕ → List ℕ) (place : ℕ → ℕ) (sized : Sized g content) (fs : Fields g) where
  pub object-length : (i : ℕ) → length (object_bytes g content place i) ≡ g.size i
  unfolding object_bytes Fields Sized
  object-length i = length-filled _ 0 (g.size i) (g.links i) (content i) (sized i) (fs i)

  pub table-length : (o : List ℕ) → length (table_from g content place o) ≡ total g.size o
  unfolding table_from total
  table-length [] = refl
  table-length (x ∷ o) = omega (arith, length-append (object_bytes g content place x) (table_from g content place o), object-length x, table-length o)

  pub record Around (o : List ℕ) (i : ℕ) : Type 0 where
    pub front : List ℕ
    pub back : List ℕ
    pub whole : table_from g content place o ≡ front ++ (object_bytes g content place i ++ back)
    pub at : length front ≡ place_of g o i

  pub around : (o : List ℕ) (i : ℕ) → 0 < count i o → Around o i
  unfolding table_from count
  around [] i h = absurd (omega arith)
  around (x ∷ o) i h = go (around o i) (same_or i x)
    where
      go : (0 < count i o → Around o i) → Same i x → Around (x ∷ o) i
      go r (same e _ _) = record { front = []; back = table_from g content place o; whole = rw e; at = rw e (sym (before_here g.size x o)) }
      go r (other n _ z) =
          let a = r (omega arith) in
          record {
            front = object_bytes g content place x ++ a.front;
            back = a.back;
            whole = ap (λ (l : List ℕ). object_bytes g content place x ++ l) a.whole ∙ sym (append_assoc (object_bytes g content place x) a.front _);
            at = omega (arith, length-append (object_bytes g content place x) a.front, object-length x, a.at, before-next g.size x o i n);
          }

-- ---- part of a list in the middle

module _ (a f c : List ℕ) (p : ℕ) (e : length a ≡ p) where
  mid-get_or : (k : ℕ) → k < length f → get_or (a ++ (f ++ c)) (p + k) 0 ≡ get_or f k 0
  mid-get_or k h = rw (← e) (get_or-append-add a (f ++ c) k 0 ∙ get_or-append f c 0 k h)

  mid-part : (k w : ℕ) → k + w ≤ length f → part (p + k) (p + k + w) (a ++ (f ++ c)) ≡ part k (k + w) f
  mid-part k w h =
      let n : p + k + w - (p + k) ≡ w = omega arith in
      let m : k + w - k ≡ w = omega arith in
      ap (λ (j : ℕ). take j (drop (p + k) (a ++ (f ++ c)))) n
      ∙ rw (← e) (ap (take w) (drop-append-add a (f ++ c) k ∙ drop-append-le k f c (omega arith)) ∙ take-append-le w (drop k f) c (omega (arith, length-drop k f)))
      ∙ ap (λ (j : ℕ). take j (drop k f)) (sym m)

-- ---- the links that fit

left-nil : (a b : List Overflow) → a ++ b ≡ [] → a ≡ []
left-nil [] b e = refl
left-nil (x ∷ a) b e = cc

right-nil : (a b : List Overflow) → a ++ b ≡ [] → b ≡ []
right-nil [] b e = e
right-nil (x ∷ a) b e = cc

pub links-fit : (place : ℕ → ℕ) (p : ℕ) (ls : List Link) → unfit_links place p ls ≡ [] → (l : Link) → In l ls → fits l.slot.width (offset place p l) ≡ true
unfolding unfit_links
links-fit place p [] e l i = elim i [ ]
links-fit place p (m ∷ ls) e l i = go (links-fit place p ls) (fits m.slot.width (offset place p m)) refl e i
  where
    go : (unfit_links place p ls ≡ [] → (l : Link) → In l ls → fits l.slot.width (offset place p l) ≡ true) → (b : Bool) → fits m.slot.width (offset place p m) ≡ b
        → pick b (unfit_links place p ls) (record { parent = record { 0 = p }; field = m.slot.at; needed = offset place p m } ∷ unfit_links place p ls) ≡ []
        → In l (m ∷ ls) → fits l.slot.width (offset place p l) ≡ true
    go r true h f (here q) = rw q h
    go r true h f (there i) = r f l i
    go r false h f i = absurd (let z : ◌≡◌ {A = ℕ} 0 1 = cc in omega arith)

pub objects-fit : (g : Graph) (place : ℕ → ℕ) (o : List ℕ) (i : ℕ) → 0 < count i o → unfit_from g place o ≡ []
    → (l : Link) → In l (g.links i) → fits l.slot.width (offset place i l) ≡ true
unfolding unfit_from count
objects-fit g place [] i h e l k = absurd (omega arith)
objects-fit g place (x ∷ o) i h e l k = go (λ c d. objects-fit g place o i c d l k) (same_or i x)
  where
    go : (0 < count i o → unfit_from g place o ≡ [] → fits l.slot.width (offset place i l) ≡ true) → Same i x → fits l.slot.width (offset place i l) ≡ true
    go r (same f _ _) = rw f (links-fit place x (g.links x) (left-nil (unfit_links place x (g.links x)) (unfit_from g place o) e) l (rw f at k))
    go r (other _ _ z) = r (omega arith) (right-nil (unfit_links place x (g.links x)) (unfit_from g place o) e)

-- ---- readings

pub read-bytes : (ρ : ℕ → Reading) (ls : List Link) (b : List ℕ) → bytes_of (read_links ρ ls b) ≡ b
unfolding read_links bytes_of
read-bytes ρ [] b = refl
read-bytes ρ (l ∷ ls) b = read-bytes ρ ls b

outside-clear : (ρ : ℕ → Reading) (k : ℕ) (ls : List Link) (b : List ℕ) → Outside k (read_links ρ ls b) → Clear k ls
unfolding read_links Outside Clear
outside-clear ρ k [] b h = tt
outside-clear ρ k (l ∷ ls) b h = (h.0, outside-clear ρ k ls b h.1)

-- ---- every object is shown at its place

module _ (g : Graph) (content : ℕ → List ℕ) (o : List ℕ) (ρ : ℕ → Reading) (sized : Sized g content) (fs : Fields g) (closed : Closed g o)
    (first : ParentsFirst g o) (fit : unfit g o ≡ []) (reads : Reads g content ρ) where
  lies : (i : ℕ) → 0 < count i o → Around g content (place_of g o) sized fs o i
  lies i h = around g content (place_of g o) sized fs o i h

  object-room : (i : ℕ) → 0 < count i o → place_of g o i + g.size i ≤ length (table_of g content o)
  unfolding table_of lies
  object-room i h =
      let a = lies i h in
      let b = object_bytes g content (place_of g o) i in
      rw a.whole (omega (arith, length-append a.front (b ++ a.back), length-append b a.back, object-length g content (place_of g o) sized fs i, a.at))

  -- a field of object i holds its offset
  field-holds : (i : ℕ) → 0 < count i o → (l : Link) → In l (g.links i)
      → read_big (part (place_of g o i + l.slot.at) (place_of g o i + l.slot.at + l.slot.width) (table_of g content o)) ≡ offset (place_of g o) i l
  unfolding table_of object_bytes Fields Sized lies
  field-holds i h l k =
      let a = lies i h in
      let b = object_bytes g content (place_of g o) i in
      let r = field_room 0 (g.size i) l (g.links i) (fs i) k in
      ap read_big (rw a.whole (mid-part a.front b a.back (place_of g o i) a.at l.slot.at l.slot.width (omega (arith, object-length g content (place_of g o) sized fs i)))
      ∙ filled_at (offset (place_of g o) i) 0 (g.size i) l (g.links i) (content i) (sized i) (fs i) k)
      ∙ big-read l.slot.width (offset (place_of g o) i l) (objects-fit g (place_of g o) o i h fit l k)

  -- and leads to the place of its child
  leads : (i : ℕ) → 0 < count i o → (l : Link) → In l (g.links i) → target (table_of g content o) (place_of g o i) l.slot ≡ place_of g o l.child
  unfolding offset Fields
  leads i h l k =
      rw (field-holds i h l k) (omega (arith, before-behind g.size g o first i l.child h (in-kids l (g.links i) k), field_room 0 (g.size i) l (g.links i) (fs i) k))

  own : (i : ℕ) → 0 < count i o → Own (table_of g content o) (place_of g o i) (ρ i)
  unfolding table_of Reads object_bytes Fields Sized lies
  own i h =
      let b = read-bytes ρ (g.links i) (content i) in
      rw (reads i) record {
        room = rw b (rw (sized i) (object-room i h));
        agree = λ k m u. rw b (same_byte k (rw b at m) (outside-clear ρ k (g.links i) (content i) u));
      }
    where
      same_byte : (k : ℕ) → k < length (content i) → Clear k (g.links i) → get_or (table_from g content (place_of g o) o) (place_of g o i + k) 0 ≡ get_or (content i) k 0
      same_byte k m c =
          let a = lies i h in
          rw a.whole (mid-get_or a.front (object_bytes g content (place_of g o) i) a.back (place_of g o i) a.at k (omega (arith, object-length g content (place_of g o) sized fs i, sized i))
          ∙ filled-clear (offset (place_of g o) i) 0 (g.size i) k (g.links i) (content i) (sized i) (fs i) c)

  -- ls are the links left
  fields_show : (r : Reading) (i : ℕ) → 0 < count i o → (ls : List Link) → ((l : Link) → In l ls → In l (g.links i))
      → r ≡ read_links ρ ls (content i) → FieldsShow (table_of g content o) (place_of g o i) r
  unfolding FieldsShow read_links Fields Reads Closed
  fields_show (bytes b) i h ls k q = tt
  fields_show (field s c r) i h [] k q = absurd (let z : ◌≡◌ {A = ℕ} 0 1 = cc in omega arith)
  fields_show (field s c r) i h (l ∷ ls) k q =
      let x = l.child in
      let es : s ≡ l.slot = cc in
      let ec : c ≡ ρ x = cc in
      let er : r ≡ read_links ρ ls (content i) = cc in
      let kl = k l (here refl) in
      let hx : 0 < count x o = closed i x h (in-kids l (g.links i) kl) in
      let tg : target (table_of g content o) (place_of g o i) s ≡ place_of g o x = rw es (leads i h l kl) in (
        rw es (omega (arith, object-room i h, field_room 0 (g.size i) l (g.links i) (fs i) kl)),
        rw (tg, ec) (own x hx),
        rw tg (fields_show c x hx (g.links x) (λ m j. j) (ec ∙ reads x)),
        fields_show r i h ls (λ m j. k m (there j)) er,
      )

  -- a field is not 0: its child lies behind the field's end
  fields-apart : (r : Reading) (i : ℕ) → 0 < count i o → (ls : List Link) → ((l : Link) → In l ls → In l (g.links i))
      → r ≡ read_links ρ ls (content i) → Wide r → Apart (table_of g content o) (place_of g o i) r
  unfolding Apart Wide read_links Fields Reads Closed offset
  fields-apart (bytes b) i h ls k q y = tt
  fields-apart (field s c r) i h [] k q y = absurd (let z : ◌≡◌ {A = ℕ} 0 1 = cc in omega arith)
  fields-apart (field s c r) i h (l ∷ ls) k q y =
      let x = l.child in
      let es : s ≡ l.slot = cc in
      let ec : c ≡ ρ x = cc in
      let er : r ≡ read_links ρ ls (content i) = cc in
      let kl = k l (here refl) in
      let kx = in-kids l (g.links i) kl in
      let hx : 0 < count x o = closed i x h kx in
      let tg : target (table_of g content o) (place_of g o i) s ≡ place_of g o x = rw es (leads i h l kl) in
      let w : 0 < l.slot.width = rw es at y.0 in
      let room = field_room 0 (g.size i) l (g.links i) (fs i) kl in (
        rw es (λ z. omega (arith, field-holds i h l kl, before-behind g.size g o first i x h kx, room.inside, room.start)),
        rw tg (fields-apart c x hx (g.links x) (λ m j. j) (ec ∙ reads x) y.1),
        fields-apart r i h ls (λ m j. k m (there j)) er y.2,
      )

  pub apart : (i : ℕ) → 0 < count i o → Wide (ρ i) → Apart (table_of g content o) (place_of g o i) (ρ i)
  unfolding Reads
  apart i h y = fields-apart (ρ i) i h (g.links i) (λ m j. j) (reads i) y

  pub shows : (i : ℕ) → 0 < count i o → Shows (table_of g content o) (place_of g o i) (ρ i)
  unfolding Reads
  shows i h = (own i h, fields_show (ρ i) i h (g.links i) (λ m j. j) (reads i))

-- ---- the theorem

pub layout : (g : Graph) (content : ℕ → List ℕ) (nodes : List ℕ) (root : ℕ) (ρ : ℕ → Reading) (o : List ℕ) → Rooted g nodes root → Sized g content → Fields g → Reads g content ρ
    → ((c : ℕ) → count c o ≡ count c nodes) → ParentsFirst g o → unfit g o ≡ [] → LaidOut g nodes root ρ o (table_of g content o)
layout g content nodes root ρ o r sized fs reads bag first fit = record {
  shown = rw (before_root g.size g nodes root o r bag first) at (all root r.root_in);
  apart = λ y. rw (before_root g.size g nodes root o r bag first) at (apart g content o ρ sized fs closed first fit reads root (omega (arith, bag root, r.root_in)) y);
  each = all;
  sum = unfold table_of in (table-length g content (place_of g o) sized fs o ∙ total-bag g.size o nodes bag);
  behind = λ p c h k. before-behind g.size g o first p c (omega (arith, bag p)) k;
  leads = λ p l h k. leads g content o ρ sized fs closed first fit reads p (omega (arith, bag p)) l k;
}
  where
    closed : Closed g o
    closed = unfold Closed in λ p c h k. omega (arith, bag c, r.closed p c (omega (arith, bag p)) k)

    all : (i : ℕ) → 0 < count i nodes → Shows (table_of g content o) (place_of g o i) (ρ i)
    all i h = shows g content o ρ sized fs closed first fit reads i (omega (arith, bag i))
