-- What a reading has at a byte of a table that was read without refusal 15: the slice's number where a plain field stands, the child's reading where an offset stands.
use mathlib.Core.Path.{◌≡◌, refl, sym, ap, ◌∙◌}
use Prim.Native.Nat.{ℕ, zero, suc, ◌+◌, ◌-◌, ◌*◌, ◌≤◌, ◌<◌}
use mathlib.Core.List.{List, [], ◌∷◌, ◌++◌, append_assoc, append-nil}
use mathlib.Core.Bool.{Bool, true, false, ◌&&◌}
use mathlib.Core.Logic.{◌⊎◌, inl, inr, ⊎_elim}
use native.Mathlib.Omega.{arith}
use native.Mathlib.Nat.{zero-add, sub-zero, suc-mul}
use borrow.Author.Tests.{eq-eqb, ne_eqb, eqb-true, eqb-false, ltb-true}
use lib.ListN.{length, get_or, length-replicate, get_or-append}
use lib.Seq.{get_or-append-add}
use lib.Dec.{eqb, leb, ltb}
use Rattle.lists.specs.Lists.{pick, part}
use Rattle.lists.proofs.Parts.{get_or-part}
use Rattle.lists.proofs.Runs.{length_part, part-first}
use Rattle.lists.proofs.Same.{and_left, and_right}
use Rattle.big_endian.specs.BigEndian.{read_from}
use Rattle.model_orders.specs.Reading.{Reading}
use Rattle.gsub.specs.declared.Kind.{Kind}
use Rattle.gsub.specs.declared.Rule.TheVariants.{To}
use Rattle.gsub.specs.declared.Field.{Field}
use Rattle.gsub.specs.Tables.{offset16, offset32, Times, once, count, before, marked, Run, Shape, one, many, often, laid, times, size, word_at, long_at, fields_at}
use Rattle.gsub.specs.Ops.{Act, keep, follow, refuse, value_at, by_rule, act, Op, link, end, act_ops, fields_ops, ops_by}
use Rattle.gsub.specs.Meaning.{act_bytes, own_bytes, act_reading, fields_reading, reading_by}
use Rattle.gsub.specs.Substitute.{word_of, child_of, word_from, child_from, far_from}
use Rattle.gsub.proofs.Accepted.{act-room}
use Rattle.gsub.proofs.Settled.{plain_rule, plain_at, is_once, front_plain}
use Rattle.gsub.proofs.Again.{Clean, clean-left, clean-right, plain-kept, bytes-of}

-- ---- the field at a byte

-- from byte x of these fields on stands one that is P
unfoldable pub From : (Field → Type 0) → ℕ → List Field → Type 0
From P x [] = ⊥
From P x (f ∷ fs) = pick (eqb x 0) (P f) ((f.width ≤ x) × From P (x - f.width) fs)

-- every field has a width
unfoldable pub wide : List Field → Bool
wide [] = true
wide (f ∷ fs) = ltb 0 f.width && wide fs

module _ (P : Field → Type 0) where
  from_front : (xs ys : List Field) (x : ℕ) → From P x xs → From P x (xs ++ ys)
  unfolding From
  from_front [] ys x h = absurd h
  from_front (f ∷ xs) ys x h = go (eqb x 0) h (from_front xs ys (x - f.width))
    where
      go : (t : Bool) → pick t (P f) ((f.width ≤ x) × From P (x - f.width) xs) → (From P (x - f.width) xs → From P (x - f.width) (xs ++ ys))
          → pick t (P f) ((f.width ≤ x) × From P (x - f.width) (xs ++ ys))
      go true h later = h
      go false h later = (h.0, later h.1)

  from-later : (xs ys : List Field) (x : ℕ) → wide xs ≡ true → From P x ys → From P (size xs + x) (xs ++ ys)
  unfolding From size wide
  from-later [] ys x w h = rw zero-add h
  from-later (f ∷ xs) ys x w h =
      let some : 0 < f.width = ltb-true 0 f.width (and_left (ltb 0 f.width) (wide xs) w) in
      let e : f.width + size xs + x - f.width ≡ size xs + x = omega arith in
      rw (ne_eqb (f.width + size xs + x) 0 (λ z. omega arith), e) (omega arith, from-later xs ys x (and_right (ltb 0 f.width) (wide xs) w) h)

  from-times : (each ys : List Field) (d : ℕ) → wide each ≡ true → From P d each → (n i : ℕ) → i < n → From P (i * size each + d) (times n each ++ ys)
  unfolding times
  from-times each ys d w h zero i l = absurd (omega arith)
  from-times each ys d w h (suc n) zero l =
      let e : 0 * size each + d ≡ d = omega arith in
      rw (e, append_assoc) (from_front each (times n each ++ ys) d h)
  from-times each ys d w h (suc n) (suc i) l =
      let e : suc i * size each + d ≡ size each + (i * size each + d) = omega (arith, suc-mul i (size each)) in
      rw (e, append_assoc) (from-later each (times n each ++ ys) (i * size each + d) w (from-times each ys d w h n i (omega arith)))

  -- ---- in a table that begins with fields that stand there once, and then has a run of as many as the number just before it says

  module _ (word : ℕ → ℕ) (front : List Field) where
    laid-front : (rs : List Run) → laid word 0 (one front ∷ rs) ≡ front ++ laid word (size front) rs
    unfolding laid often times
    laid-front rs =
        let e : 0 + 1 * size front ≡ size front = omega arith in
        ap (λ l. l ++ laid word (0 + 1 * size front) rs) (append-nil front) ∙ rw e

    pub in-front : (rs : List Run) (x : ℕ) → From P x front → From P x (laid word 0 (one front ∷ rs))
    in-front rs x h = rw laid-front (from_front front (laid word (size front) rs) x h)

    laid-run : (a : ℕ) (each : List Field) (rs : List Run) → laid word a (many each ∷ rs) ≡ times (word (a - 2)) each ++ laid word (a + word (a - 2) * size each) rs
    unfolding laid often
    laid-run a each rs = let e : word (a - 2) - 0 ≡ word (a - 2) = omega arith in rw e

    pub in-run : (each : List Field) (rs : List Run) (i d x : ℕ) → wide front ≡ true → wide each ≡ true → From P d each → i < word (size front - 2) → x ≡ size front + (i * size each + d)
        → From P x (laid word 0 (one front ∷ many each ∷ rs))
    in-run each rs i d x w v h l e =
        rw (laid-front, laid-run, e) (from-later front _ (i * size each + d) w (from-times each _ d v h (word (size front - 2)) i l))

-- an offset of w bytes
abbrev offset : ℕ → Kind → Field
offset w k = record { width = w; rule = To k }

-- ---- numbers in plain fields

-- 16 bits that are no offset
abbrev pub Plain : Field → Type 0
Plain f = (f.width ≡ 2) × (plain_rule f.rule ≡ true)

-- one in front of a table, by the test
by-once : (word : ℕ → ℕ) (t : Times) (fs : List Field) (x : ℕ) → is_once t ≡ true → From Plain x fs → From Plain x (times (often word 0 t) fs)
unfolding often times
by-once word once fs x i h = rw append-nil h
by-once word (count at less) fs x i h = absurd (let q : ◌≡◌ {A = ℕ} 0 1 = cc in omega arith)
by-once word (before less) fs x i h = absurd (let q : ◌≡◌ {A = ℕ} 0 1 = cc in omega arith)
by-once word marked fs x i h = absurd (let q : ◌≡◌ {A = ℕ} 0 1 = cc in omega arith)

plain-below : (fs : List Field) (a x : ℕ) → plain_at x a fs ≡ true → a ≤ x
unfolding plain_at
plain-below [] a x h = absurd (let z : ◌≡◌ {A = ℕ} 0 1 = cc in omega arith)
plain-below (f ∷ fs) a x h = go (eqb x a) refl h (plain-below fs (a + f.width) x)
  where
    go : (t : Bool) → eqb x a ≡ t → pick t (eqb f.width 2 && plain_rule f.rule) (plain_at x (a + f.width) fs) ≡ true → (plain_at x (a + f.width) fs ≡ true → a + f.width ≤ x) → a ≤ x
    go true e h later = omega (arith, eqb-true x a e)
    go false e h later = omega (arith, later h)

plain-from : (fs : List Field) (a x : ℕ) → plain_at x a fs ≡ true → From Plain (x - a) fs
unfolding plain_at From
plain-from [] a x h = absurd (let z : ◌≡◌ {A = ℕ} 0 1 = cc in omega arith)
plain-from (f ∷ fs) a x h = go (eqb x a) refl h (plain-from fs (a + f.width) x)
  where
    go : (t : Bool) → eqb x a ≡ t → pick t (eqb f.width 2 && plain_rule f.rule) (plain_at x (a + f.width) fs) ≡ true
        → (plain_at x (a + f.width) fs ≡ true → From Plain (x - (a + f.width)) fs) → pick (eqb (x - a) 0) (Plain f) ((f.width ≤ x - a) × From Plain (x - a - f.width) fs)
    go true e h later =
        let z : x - a ≡ 0 = omega (arith, eqb-true x a e) in
        rw z (eqb-true f.width 2 (and_left (eqb f.width 2) _ h), and_right (eqb f.width 2) _ h)
    go false e h later =
        let l = plain-below fs (a + f.width) x h in
        let w : x - a - f.width ≡ x - (a + f.width) = omega arith in
        let n : eqb (x - a) 0 ≡ false = ne_eqb (x - a) 0 (λ z. eqb-false x a e (omega arith)) in
        rw (n, w) (omega arith, later h)

pub plain-front : (word : ℕ → ℕ) (x : ℕ) (s : Shape) → front_plain x s ≡ true → From Plain x (laid word 0 s)
unfolding front_plain laid
plain-front word x [] h = absurd (let z : ◌≡◌ {A = ℕ} 0 1 = cc in omega arith)
plain-front word x (r ∷ rs) h =
    from_front Plain _ _ x (by-once word r.by r.each x (and_left (is_once r.by) _ h) (rw (sub-zero x) at (plain-from r.each 0 x (and_right (is_once r.by) _ h))))

word-later : (vs own : List ℕ) (w x : ℕ) → length vs ≡ w → w ≤ x → word_at (vs ++ own) x ≡ word_at own (x - w)
word-later vs own w x e h =
    let i : x ≡ length vs + (x - w) = omega arith in
    let j : x + 1 ≡ length vs + (x - w + 1) = omega arith in
    let high : get_or (vs ++ own) x 0 ≡ get_or own (x - w) 0 = ap (λ z. get_or (vs ++ own) z 0) i ∙ get_or-append-add vs own (x - w) 0 in
    let low : get_or (vs ++ own) (x + 1) 0 ≡ get_or own (x - w + 1) 0 = ap (λ z. get_or (vs ++ own) z 0) j ∙ get_or-append-add vs own (x - w + 1) 0 in
    rw (high, low)

word_first : (b own : List ℕ) (at : ℕ) → at + 2 ≤ length b → word_at (part at (at + 2) b ++ own) 0 ≡ word_at b at
word_first b own at h =
    let vs = part at (at + 2) b in
    let n : length vs ≡ 2 = omega (arith, length_part at (at + 2) b h) in
    let e : at + 0 ≡ at = omega arith in
    let high : get_or (vs ++ own) 0 0 ≡ get_or b at 0 = get_or-append vs own 0 0 (omega arith) ∙ get_or-part at (at + 2) 0 b (omega arith) ∙ ap (λ z. get_or b z 0) e in
    let low : get_or (vs ++ own) 1 0 ≡ get_or b (at + 1) 0 = get_or-append vs own 0 1 (omega arith) ∙ get_or-part at (at + 2) 1 b (omega arith) in
    rw (high, low)

value-word : (b : List ℕ) (at : ℕ) → at + 2 ≤ length b → value_at b at 2 ≡ word_at b at
unfolding read_from
value-word b at h =
    let none : at + 2 - (at + 1 + 1) ≡ 0 = omega arith in
    rw (part-first at (at + 2) b (omega arith) h, part-first (at + 1) (at + 2) b (omega arith) h, none) (omega arith)

value-long : (b : List ℕ) (at : ℕ) → at + 4 ≤ length b → value_at b at 4 ≡ long_at b at
unfolding read_from
value-long b at h =
    let none : at + 4 - (at + 1 + 1 + 1 + 1) ≡ 0 = omega arith in
    let two : at + 1 + 1 ≡ at + 2 = omega arith in
    let e = part-first at (at + 4) b (omega arith) h in
    rw (e, part-first (at + 1) (at + 4) b (omega arith) h, part-first (at + 1 + 1) (at + 4) b (omega arith) h, part-first (at + 1 + 1 + 1) (at + 4) b (omega arith) h, none, two) (omega arith)

module _ (ops : ℕ → Kind → ℕ → List Op) (b : List ℕ) (p : ℕ) where
  -- a field that is not refused, judged y, before ops `rest`
  module _ (a : ℕ) (f : Field) (rest : List Op) where
    room : (y : Act) → act b (p + a) f ≡ y → Clean (act_ops (ops a) b p a f.width y ++ rest) → p + a + f.width ≤ length b
    unfolding act_ops Clean
    room keep e c = act-room b (p + a) f (λ r. let z : ◌≡◌ {A = ℕ} 0 1 = cc in omega arith)
    room (follow k) e c = act-room b (p + a) f (λ r. let z : ◌≡◌ {A = ℕ} 0 1 = cc in omega arith)
    room refuse e c = absurd c

    long : (y : Act) → act b (p + a) f ≡ y → Clean (act_ops (ops a) b p a f.width y ++ rest) → length (act_bytes b (p + a) f.width y) ≡ f.width
    unfolding act_ops act_bytes Clean
    long keep e c = omega (arith, length_part (p + a) (p + a + f.width) b (room keep e c))
    long (follow k) e c = length-replicate f.width 0
    long refuse e c = absurd c

    word-here : (own : List ℕ) → Plain f → (y : Act) → act b (p + a) f ≡ y → Clean (act_ops (ops a) b p a f.width y ++ rest) → word_at (act_bytes b (p + a) f.width y ++ own) 0 ≡ word_at b (p + a)
    unfolding act_ops act_bytes Clean
    word-here own h keep e c = rw h.0 (word_first b own (p + a) (rw h.0 at (room keep e c)))
    word-here own h (follow k) e c = absurd (plain-kept b (p + a) f h.1 k e)
    word-here own h refuse e c = absurd c

  words_same : (fs : List Field) (a x : ℕ) → Clean (fields_ops ops b p a fs) → From Plain x fs → word_at (own_bytes b p a fs) x ≡ word_at b (p + (a + x))
  unfolding From fields_ops own_bytes
  words_same [] a x c h = absurd h
  words_same (f ∷ fs) a x c h =
      let y = act b (p + a) f in
      let rest = fields_ops ops b p (a + f.width) fs in
      go (eqb x 0) refl h (words_same fs (a + f.width) (x - f.width) (clean-right (act_ops (ops a) b p a f.width y) rest c))
    where
      own : List ℕ
      own = own_bytes b p (a + f.width) fs

      go : (t : Bool) → eqb x 0 ≡ t → pick t (Plain f) ((f.width ≤ x) × From Plain (x - f.width) fs)
          → (From Plain (x - f.width) fs → word_at own (x - f.width) ≡ word_at b (p + (a + f.width + (x - f.width))))
          → word_at (act_bytes b (p + a) f.width (act b (p + a) f) ++ own) x ≡ word_at b (p + (a + x))
      go true e h later =
          let z : x ≡ 0 = eqb-true x 0 e in
          let q : p + (a + 0) ≡ p + a = omega arith in
          rw (z, q) (word-here a f (fields_ops ops b p (a + f.width) fs) own h (act b (p + a) f) refl c)
      go false e h later =
          let q : p + (a + f.width + (x - f.width)) ≡ p + (a + x) = omega (arith, h.0) in
          word-later (act_bytes b (p + a) f.width (act b (p + a) f)) own f.width x (long a f (fields_ops ops b p (a + f.width) fs) (act b (p + a) f) refl c) h.0
          ∙ later h.1
          ∙ ap (word_at b) q

  -- ---- children of offsets

  module _ (rd : ℕ → Kind → ℕ → Reading) where
    -- from byte x of the table on stands an offset of w bytes to a table of kind k at q: r has that table's reading there, and it is read without refusal 15
    pub record Leads (w : ℕ) (k : Kind) (x q : ℕ) (r : Reading) : Type 0 where
      pub reading : child_of r x ≡ rd x k q
      pub clean : Clean (ops x k q)
      pub room : p + x + w ≤ length b

    offset-kind : (t u : Bool) (k : Kind) (y : Act) → pick t (pick u refuse (follow k)) refuse ≡ y → (y ≡ refuse) ⊎ (y ≡ follow k)
    offset-kind true true k y e = inl (sym e)
    offset-kind true false k y e = inr (sym e)
    offset-kind false u k y e = inl (sym e)

    abbrev value_of : ℕ → ℕ → ℕ
    value_of a w = p + value_at b (p + a) w

    module _ (a w : ℕ) (k : Kind) (r : Reading) (rest : List Op) where
      leads-follow : p + a + w ≤ length b → Clean (act_ops (ops a) b p a w (follow k) ++ rest) → Leads w k a (value_of a w) (act_reading (rd a) b p a w (follow k) r)
      unfolding act_ops act_reading child_of
      leads-follow h c =
          let both = clean-left (ops a k (value_of a w) ++ (link w ∷ [])) rest c in
          record { reading = rw (eq-eqb a a refl); clean = clean-left (ops a k (value_of a w)) (link w ∷ []) both; room = h }

      leads-refuse : Clean (act_ops (ops a) b p a w refuse ++ rest) → ⊥
      unfolding act_ops Clean
      leads-refuse c = c

      leads-here : (y : Act) → act b (p + a) (offset w k) ≡ y → Clean (act_ops (ops a) b p a w y ++ rest) → Leads w k a (value_of a w) (act_reading (rd a) b p a w y r)
      unfolding act by_rule
      leads-here y e c =
          let h = room a (offset w k) rest y e c in
          ⊎_elim (λ z. absurd (leads-refuse (rw z at c))) (λ z. rw z (leads-follow h (rw z at c))) (offset-kind (leb (p + a + w) (length b)) (eqb (value_at b (p + a) w) 0) k y e)

    leads-later : (a v w x q : ℕ) (k : Kind) (r : Reading) → (a ≡ x → ⊥) → Leads w k x q r → (y : Act) → Leads w k x q (act_reading (rd a) b p a v y r)
    unfolding act_reading child_of
    leads-later a v w x q k r n l keep = l
    leads-later a v w x q k r n l (follow j) = record { reading = rw (ne_eqb a x n) l.reading; clean = l.clean; room = l.room }
    leads-later a v w x q k r n l refuse = l

    leads : (whole : List ℕ) (w : ℕ) (fs : List Field) (a x : ℕ) (k : Kind) → Clean (fields_ops ops b p a fs) → From (λ f. f ≡ offset w k) x fs → Leads w k (a + x) (value_of (a + x) w) (fields_reading rd b p a fs whole)
    unfolding From fields_ops fields_reading
    leads whole w [] a x k c h = absurd h
    leads whole w (f ∷ fs) a x k c h =
        let rest = fields_ops ops b p (a + f.width) fs in
        go (eqb x 0) refl h (leads whole w fs (a + f.width) (x - f.width) k (clean-right (act_ops (ops a) b p a f.width (act b (p + a) f)) rest c))
      where
        later-reading : Reading
        later-reading = fields_reading rd b p (a + f.width) fs whole

        here : (g : Field) → g ≡ offset w k → Clean (act_ops (ops a) b p a g.width (act b (p + a) g) ++ fields_ops ops b p (a + f.width) fs)
            → Leads w k a (value_of a w) (act_reading (rd a) b p a g.width (act b (p + a) g) later-reading)
        here g e c = rw e (leads-here a w k later-reading (fields_ops ops b p (a + f.width) fs) (act b (p + a) (offset w k)) refl (rw e at c))

        go : (t : Bool) → eqb x 0 ≡ t → pick t (f ≡ offset w k) ((f.width ≤ x) × From (λ f. f ≡ offset w k) (x - f.width) fs)
            → (From (λ f. f ≡ offset w k) (x - f.width) fs → Leads w k (a + f.width + (x - f.width)) (value_of (a + f.width + (x - f.width)) w) later-reading)
            → Leads w k (a + x) (value_of (a + x) w) (act_reading (rd a) b p a f.width (act b (p + a) f) later-reading)
        go true e h later =
            let q : a + x ≡ a = omega (arith, eqb-true x 0 e) in
            rw q (here f h c)
        go false e h later =
            let q : a + f.width + (x - f.width) ≡ a + x = omega (arith, h.0) in
            leads-later a f.width w (a + x) (value_of (a + x) w) k later-reading (λ z. eqb-false x 0 e (omega arith)) (rw q at (later h.1)) (act b (p + a) f)

-- ---- a whole table, given what its children do

module _ (ops : ℕ → Kind → ℕ → List Op) (rd : ℕ → Kind → ℕ → Reading) (b : List ℕ) (k : Kind) (p : ℕ) (c : Clean (ops_by ops b k p)) where
  abbrev fs : List Field
  fs = fields_at b k p

  clean-fields : Clean (fields_ops ops b p 0 fs)
  unfolding Clean
  clean-fields = clean-left (fields_ops ops b p 0 fs) (end ∷ []) c

  pub table-word : (x : ℕ) → From Plain x fs → word_of (reading_by rd b k p) x ≡ word_from b p x
  table-word x h =
      ap (λ l. word_at l x) (bytes-of rd b p (own_bytes b p 0 fs) fs 0)
      ∙ words_same ops b p fs 0 x clean-fields h
      ∙ ap (λ z. word_at b (p + z)) (zero-add x)

  leads-to : (w x : ℕ) (j : Kind) → From (λ f. f ≡ offset w j) x fs → Leads ops b p rd w j x (p + value_at b (p + x) w) (reading_by rd b k p)
  leads-to w x j h = rw zero-add at (leads ops b p rd (own_bytes b p 0 fs) w fs 0 x j clean-fields h)

  pub table-child : (x : ℕ) (j : Kind) → From (λ f. f ≡ offset16 j) x fs → Leads ops b p rd 2 j x (child_from b p x) (reading_by rd b k p)
  table-child x j h = let l = leads-to 2 x j h in rw (value-word b (p + x) l.room) at l

  pub table-far : (x : ℕ) (j : Kind) → From (λ f. f ≡ offset32 j) x fs → Leads ops b p rd 4 j x (far_from b p x) (reading_by rd b k p)
  table-far x j h = let l = leads-to 4 x j h in rw (value-long b (p + x) l.room) at l
