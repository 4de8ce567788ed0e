-- A table that shows the reading of one that was read without refusal 15, every offset in it not zero, is read by the same ops.
use mathlib.Core.Path.{◌≡◌, refl, sym, ap, ◌∙◌}
use Prim.Native.Nat.{ℕ, zero, suc, ◌+◌, ◌-◌, ◌≤◌, ◌<◌}
use mathlib.Core.List.{List, [], ◌∷◌, ◌++◌}
use mathlib.Core.Bool.{Bool, true, false}
use mathlib.Core.Logic.{inl, inr}
use native.Mathlib.Nat.{add-zero}
use native.Mathlib.Omega.{arith}
use borrow.Author.Tests.{le-leb, eqb-true, eq-eqb, ne_eqb}
use lib.ListN.{length, get_or, replicate, length-append, length-replicate, get_or-append}
use lib.Seq.{ext_get_or, get_or-append-add}
use lib.Dec.{eqb, leb}
use Rattle.lists.specs.Lists.{pick, part}
use Rattle.lists.proofs.Parts.{get_or-part}
use Rattle.lists.proofs.Runs.{length_part}
use Rattle.lists.proofs.Same.{and_left, and_right}
use Rattle.big_endian.specs.BigEndian.{read_from as read_bytes}
use Rattle.model_orders.specs.Object.{new_slot}
use Rattle.model_orders.specs.Reading.{Reading, bytes_of, reading_size, Outside, Own, target, FieldsShow, Apart, Wide}
use Rattle.gsub.specs.declared.Kind.{Kind}
use Rattle.gsub.specs.declared.Rule.{Rule}
use Rattle.gsub.specs.declared.Rule.TheVariants.{Any, Only, To, ToOrNull, ToFeature}
use Rattle.gsub.specs.declared.Field.{Field}
use Rattle.gsub.specs.Tables.{fields_at, word_at}
use Rattle.gsub.specs.Ops.{Act, keep, follow, refuse, value_at, feature_at, by_rule, act, Op, begin, put, link, end, stop, act_ops, fields_ops, ops_by, table_ops}
use Rattle.gsub.specs.Meaning.{act_bytes, own_bytes, act_reading, fields_reading, reading_by}
use Rattle.gsub.specs.Promote.{Mode, bytes_in, place_in, child_mode, child_place, mode_ops, mode_reading}
use Rattle.gsub.proofs.Accepted.{act-room}
use Rattle.gsub.proofs.Settled.{Plain, plain_rule, Agree, settled}
use Rattle.gsub.proofs.Tags.{tag_fits, is_tag, tags_stand, all-tags}

-- ---- ops without refusal 15

unfoldable pub Clean : List Op → Type 0
Clean [] = Unit {0}
Clean (begin ∷ ops) = Clean ops
Clean (put vs ∷ ops) = Clean ops
Clean (link w ∷ ops) = Clean ops
Clean (end ∷ ops) = Clean ops
Clean (stop p ∷ ops) = ⊥

pub clean-left : (a b : List Op) → Clean (a ++ b) → Clean a
unfolding Clean
clean-left [] b h = tt
clean-left (begin ∷ a) b h = clean-left a b h
clean-left (put vs ∷ a) b h = clean-left a b h
clean-left (link w ∷ a) b h = clean-left a b h
clean-left (end ∷ a) b h = clean-left a b h
clean-left (stop p ∷ a) b h = h

pub clean-right : (a b : List Op) → Clean (a ++ b) → Clean b
unfolding Clean
clean-right [] b h = h
clean-right (begin ∷ a) b h = clean-right a b h
clean-right (put vs ∷ a) b h = clean-right a b h
clean-right (link w ∷ a) b h = clean-right a b h
clean-right (end ∷ a) b h = clean-right a b h
clean-right (stop p ∷ a) b h = absurd h

-- ---- what a packed table shows

pub record Shown (t : List ℕ) (q : ℕ) (r : Reading) : Type 0 where
  pub own : Own t q r
  pub fields : FieldsShow t q r
  pub apart : Apart t q r

-- ---- one field read again

-- an offset that was followed is followed again if it is not zero
follow-again : (r : Rule) (h : Kind) (v u : ℕ) (k : Kind) → by_rule r h v ≡ follow k → (u ≡ 0 → ⊥) → by_rule r h u ≡ follow k
unfolding by_rule
follow-again Any h v u k e n = absurd (let z : ◌≡◌ {A = ℕ} 0 1 = cc in omega arith)
follow-again (Only x) h v u k e n = absurd (go (eqb v x) e)
  where
    go : (t : Bool) → pick t keep refuse ≡ follow k → ⊥
    go true e = let z : ◌≡◌ {A = ℕ} 0 1 = cc in omega arith
    go false e = let z : ◌≡◌ {A = ℕ} 0 1 = cc in omega arith
follow-again (To j) h v u k e n = rw (ne_eqb u 0 n) (go (eqb v 0) e)
  where
    go : (t : Bool) → pick t refuse (follow j) ≡ follow k → follow j ≡ follow k
    go true e = cc
    go false e = e
follow-again (ToOrNull j) h v u k e n = rw (ne_eqb u 0 n) (go (eqb v 0) e)
  where
    go : (t : Bool) → pick t keep (follow j) ≡ follow k → follow j ≡ follow k
    go true e = cc
    go false e = e
follow-again ToFeature h v u k e n = rw (ne_eqb u 0 n) (go (eqb v 0) e)
  where
    go : (t : Bool) → pick t refuse (follow h) ≡ follow k → follow h ≡ follow k
    go true e = cc
    go false e = e

-- a field that the tag before it plays a part in stands behind one, and then both tables have the same tag there
pub rule-same : (r : Rule) (last : Bool) (h j : Kind) (v : ℕ) → tag_fits last r ≡ true → (last ≡ true → h ≡ j) → by_rule r h v ≡ by_rule r j v
unfolding by_rule
rule-same Any last h j v f e = refl
rule-same (Only x) last h j v f e = refl
rule-same (To k) last h j v f e = refl
rule-same (ToOrNull k) last h j v f e = refl
rule-same ToFeature last h j v f e = rw (e f)

act-rule : (b : List ℕ) (at : ℕ) (f : Field) → at + f.width ≤ length b → act b at f ≡ by_rule f.rule (feature_at b at) (value_at b at f.width)
unfolding act
act-rule b at f h = rw (le-leb (at + f.width) (length b) h)

-- ---- a field that is kept

-- a plain field is not followed
pub plain-kept : (b : List ℕ) (at : ℕ) (f : Field) → plain_rule f.rule ≡ true → (k : Kind) → act b at f ≡ follow k → ⊥
unfolding act by_rule
plain-kept b at f h k = go f.rule h (leb (at + f.width) (length b)) (feature_at b at) (value_at b at f.width)
  where
    no-follow : (t : Bool) → pick t keep refuse ≡ follow k → ⊥
    no-follow true e = let z : ◌≡◌ {A = ℕ} 0 1 = cc in omega arith
    no-follow false e = let z : ◌≡◌ {A = ℕ} 0 1 = cc in omega arith

    go : (r : Rule) → plain_rule r ≡ true → (t : Bool) (j : Kind) (v : ℕ) → pick t (by_rule r j v) refuse ≡ follow k → ⊥
    go Any h t j v e = no-follow t e
    go (Only x) h true j v e = no-follow (eqb v x) e
    go (Only x) h false j v e = let z : ◌≡◌ {A = ℕ} 0 1 = cc in omega arith
    go (To i) h t j v e = let z : ◌≡◌ {A = ℕ} 0 1 = cc in omega arith
    go (ToOrNull i) h t j v e = let z : ◌≡◌ {A = ℕ} 0 1 = cc in omega arith
    go ToFeature h t j v e = let z : ◌≡◌ {A = ℕ} 0 1 = cc in omega arith

module _ (b t : List ℕ) (p q : ℕ) where
  -- the number at x of w equal bytes
  same_word : (a w x : ℕ) → x + 2 ≤ w → part (q + a) (q + a + w) t ≡ part (p + a) (p + a + w) b → word_at b (p + a + x) ≡ word_at t (q + a + x)
  same_word a w x h e =
      let byte : (c : ℕ) (l : List ℕ) (i : ℕ) → i < w → get_or (part c (c + w) l) i 0 ≡ get_or l (c + i) 0 = λ c l i g. get_or-part c (c + w) i l (omega arith) in
      let same : (i : ℕ) → i < w → get_or b (p + a + i) 0 ≡ get_or t (q + a + i) 0 = λ i g. sym (byte (p + a) b i g) ∙ ap (λ l. get_or l i 0) (sym e) ∙ byte (q + a) t i g in
      let i : p + a + x + 1 ≡ p + a + (x + 1) = omega arith in
      let j : q + a + x + 1 ≡ q + a + (x + 1) = omega arith in
      rw (i, j, same x (omega arith), same (x + 1) (omega arith))

  -- the tag before the next field
  same_tag : (a w : ℕ) → w ≡ 4 → part (q + a) (q + a + w) t ≡ part (p + a) (p + a + w) b → feature_at t (q + (a + w)) ≡ feature_at b (p + (a + w))
  same_tag a w e h =
      let high : (c : ℕ) → c + (a + w) - 4 ≡ c + a + 0 = λ c. omega arith in
      let low : (c : ℕ) → c + (a + w) - 2 ≡ c + a + 2 = λ c. omega arith in
      rw (high q, high p, low q, low p, same_word a w 0 (omega arith) h, same_word a w 2 (omega arith) h)

-- what two tables have of a field that is judged y in one of them
module _ (ops_b ops_t : ℕ → Kind → ℕ → List Op) (b t : List ℕ) (p q : ℕ) where
  unfoldable Same : ℕ → ℕ → Act → Type 0
  Same a w keep = (part (q + a) (q + a + w) t ≡ part (p + a) (p + a + w) b) × (q + a + w ≤ length t)
  Same a w (follow k) = (value_at t (q + a) w ≡ 0 → ⊥) × (q + a + w ≤ length t) × (ops_t a k (q + value_at t (q + a) w) ≡ ops_b a k (p + value_at b (p + a) w))
  Same a w refuse = ⊥

  unfoldable Copied : ℕ → List Field → Type 0
  Copied a [] = Unit {0}
  Copied a (f ∷ fs) = Same a f.width (act b (p + a) f) × Copied (a + f.width) fs

  kept-part : (a w : ℕ) (y : Act) → ((k : Kind) → y ≡ follow k → ⊥) → Same a w y → part (q + a) (q + a + w) t ≡ part (p + a) (p + a + w) b
  unfolding Same
  kept-part a w keep n s = s.0
  kept-part a w (follow k) n s = absurd (n k refl)
  kept-part a w refuse n s = absurd s

  -- the tag before a calls for the same Feature
  abbrev SameTag : Bool → ℕ → Type 0
  SameTag last a = last ≡ true → feature_at t (q + a) ≡ feature_at b (p + a)

  same-act : (last : Bool) (a : ℕ) (f : Field) → tag_fits last f.rule ≡ true → SameTag last a → (y : Act) → act b (p + a) f ≡ y → Same a f.width y → act t (q + a) f ≡ y
  unfolding Same
  same-act last a f fits tags keep e s =
      let room = act-room b (p + a) f (λ r. let z : ◌≡◌ {A = ℕ} 0 1 = cc in omega arith) in
      act-rule t (q + a) f s.1 ∙ rule-same f.rule last _ _ _ fits tags ∙ rw s.0 (sym (act-rule b (p + a) f room) ∙ e)
  same-act last a f fits tags (follow k) e s =
      let room = act-room b (p + a) f (λ r. let z : ◌≡◌ {A = ℕ} 0 1 = cc in omega arith) in
      act-rule t (q + a) f s.1 ∙ rule-same f.rule last _ _ _ fits tags
      ∙ follow-again f.rule (feature_at b (p + a)) (value_at b (p + a) f.width) _ k (sym (act-rule b (p + a) f room) ∙ e) s.0
  same-act last a f fits tags refuse e s = absurd s

  -- behind a tag that is kept
  next-tag : (a : ℕ) (f : Field) → Same a f.width (act b (p + a) f) → SameTag (is_tag f) (a + f.width)
  next-tag a f s e =
      let w : f.width ≡ 4 = eqb-true f.width 4 (and_left (eqb f.width 4) _ e) in
      let kept = kept-part a f.width _ (plain-kept b (p + a) f (and_right (eqb f.width 4) _ e)) s in
      same_tag b t p q a f.width w kept

  same-ops : (a w : ℕ) (y : Act) → Same a w y → act_ops (ops_t a) t q a w y ≡ act_ops (ops_b a) b p a w y
  unfolding Same act_ops
  same-ops a w keep s = rw s.0
  same-ops a w (follow k) s = rw s.2
  same-ops a w refuse s = absurd s

  copied-ops : (fs : List Field) (last : Bool) (a : ℕ) → tags_stand last fs ≡ true → SameTag last a → Copied a fs → fields_ops ops_t t q a fs ≡ fields_ops ops_b b p a fs
  unfolding Copied fields_ops tags_stand
  copied-ops [] last a fits tags c = refl
  copied-ops (f ∷ fs) last a fits tags c =
      rw (
        same-act last a f (and_left (tag_fits last f.rule) _ fits) tags (act b (p + a) f) refl c.0,
        same-ops a f.width (act b (p + a) f) c.0,
        copied-ops fs (is_tag f) (a + f.width) (and_right (tag_fits last f.rule) _ fits) (next-tag a f c.0) c.1,
      )

-- ---- a reading's fields and bytes

module _ (rd : ℕ → Kind → ℕ → Reading) (b : List ℕ) (p : ℕ) (whole : List ℕ) where
  abbrev read_from : ℕ → List Field → Reading
  read_from a fs = fields_reading rd b p a fs whole

  bytes-by : (a w : ℕ) (y : Act) (r : Reading) → bytes_of r ≡ whole → bytes_of (act_reading (rd a) b p a w y r) ≡ whole
  unfolding act_reading bytes_of
  bytes-by a w keep r e = e
  bytes-by a w (follow k) r e = e
  bytes-by a w refuse r e = e

  pub bytes-of : (fs : List Field) (a : ℕ) → bytes_of (read_from a fs) ≡ whole
  unfolding fields_reading bytes_of
  bytes-of [] a = refl
  bytes-of (f ∷ fs) a = bytes-by a f.width (act b (p + a) f) (read_from (a + f.width) fs) (bytes-of fs (a + f.width))

  -- every field lies from a on
  outside-by : (a w j : ℕ) (y : Act) (r : Reading) → j < a → Outside j r → Outside j (act_reading (rd a) b p a w y r)
  unfolding act_reading Outside
  outside-by a w j keep r h o = o
  outside-by a w j (follow k) r h o = (inl h, o)
  outside-by a w j refuse r h o = o

  outside-before : (fs : List Field) (a j : ℕ) → j < a → Outside j (read_from a fs)
  unfolding fields_reading Outside
  outside-before [] a j h = tt
  outside-before (f ∷ fs) a j h = outside-by a f.width j (act b (p + a) f) (read_from (a + f.width) fs) h (outside-before fs (a + f.width) j (omega arith))

-- children read again
record Children (ops_b ops_t : ℕ → Kind → ℕ → List Op) (rd : ℕ → Kind → ℕ → Reading) (t : List ℕ) : Type 0 where
  again : (a : ℕ) (k : Kind) (x y : ℕ) → Clean (ops_b a k x) → Shown t y (rd a k x) → ops_t a k y ≡ ops_b a k x

-- ---- fields from a on of the table at p of b, which the table at q of t shows: r are the fields left, own their bytes

module _ (ops_b ops_t : ℕ → Kind → ℕ → List Op) (rd : ℕ → Kind → ℕ → Reading) (b t : List ℕ) (p q : ℕ) (whole : List ℕ) (R : Reading) (holds : bytes_of R ≡ whole) (shown : Own t q R) where
  record Stage (a : ℕ) (r : Reading) (own : List ℕ) : Type 0 where
    outside : (j : ℕ) → a ≤ j → Outside j r → Outside j R
    byte : (i : ℕ) → get_or whole (a + i) 0 ≡ get_or own i 0
    long : a + length own ≡ length whole
    fields : FieldsShow t q r
    apart : Apart t q r

  -- one field more in front, of width w, judged y
  module _ (a w : ℕ) (r : Reading) (own : List ℕ) where
    abbrev Before : Act → Type 0
    Before y = Stage a (act_reading (rd a) b p a w y r) (act_bytes b (p + a) w y ++ own)

    next-byte : (vs : List ℕ) → length vs ≡ w → ((i : ℕ) → get_or whole (a + i) 0 ≡ get_or (vs ++ own) i 0) → (i : ℕ) → get_or whole (a + w + i) 0 ≡ get_or own i 0
    next-byte vs e h i =
        let n : a + w + i ≡ a + (length vs + i) = omega arith in
        rw n (h (length vs + i) ∙ get_or-append-add vs own i 0)

    keep-next : p + a + w ≤ length b → Before keep → Stage (a + w) r own
    unfolding act_reading act_bytes
    keep-next room s =
        let vs = part (p + a) (p + a + w) b in
        let l : length vs ≡ w = omega (arith, length_part (p + a) (p + a + w) b room) in
        record {
          outside = λ j h o. s.outside j (omega arith) o;
          byte = next-byte vs l s.byte;
          long = omega (arith, s.long, length-append vs own);
          fields = s.fields;
          apart = s.apart;
        }

    keep_same : p + a + w ≤ length b → ((j : ℕ) → j < a + w → Outside j r) → Before keep → Same ops_b ops_t b t p q a w keep
    unfolding act_reading act_bytes Same
    keep_same room before s =
        let vs = part (p + a) (p + a + w) b in
        let l : length vs ≡ w = omega (arith, length_part (p + a) (p + a + w) b room) in
        let m : a + w ≤ length whole = omega (arith, s.long, length-append vs own) in
        let n : q + a + w ≤ length t = omega (arith, shown.room, ap length holds) in
        let k : length (part (q + a) (q + a + w) t) ≡ w = omega (arith, length_part (q + a) (q + a + w) t n) in (
          ext_get_or 0 (part (q + a) (q + a + w) t) vs (omega arith) (λ i h.
              let g : a + i < reading_size R = omega (arith, ap length holds) in
              let x : q + a + i ≡ q + (a + i) = omega arith in
              get_or-part (q + a) (q + a + w) i t (omega arith)
              ∙ ap (λ z. get_or t z 0) x
              ∙ shown.agree (a + i) g (s.outside (a + i) (omega arith) (before (a + i) (omega arith)))
              ∙ ap (λ z. get_or z (a + i) 0) holds
              ∙ s.byte i
              ∙ get_or-append vs own 0 i (omega arith)),
          n,
        )

    follow-next : (k : Kind) → Before (follow k) → Stage (a + w) r own
    unfolding act_reading act_bytes Outside FieldsShow Apart
    follow-next k s = record {
      outside = λ j h o. s.outside j (omega arith) (inr h, o);
      byte = next-byte (replicate w 0) (length-replicate w 0) s.byte;
      long = omega (arith, s.long, length-append (replicate w 0) own, length-replicate {A = ℕ} w 0);
      fields = s.fields.3;
      apart = s.apart.2;
    }

    follow-same : Children ops_b ops_t rd t → (k : Kind) → Clean (ops_b a k (p + value_at b (p + a) w)) → Before (follow k) → Same ops_b ops_t b t p q a w (follow k)
    unfolding act_reading FieldsShow Apart Same
    follow-same below k c s =
        let f = s.fields in
        let z = s.apart in
        let leads : q + value_at t (q + a) w ≡ target t q (new_slot a w 0) = omega arith in
        (z.0, f.0, ap (ops_t a k) leads ∙ below.again a k _ _ c (record { own = f.1; fields = f.2; apart = z.1 }))

  -- what one field gives, and what is left for the others
  record Further (a w : ℕ) (r : Reading) (own : List ℕ) (rest : List Op) (y : Act) : Type 0 where
    same : Same ops_b ops_t b t p q a w y
    stage : Stage (a + w) r own
    clean : Clean rest

  further : Children ops_b ops_t rd t → (a : ℕ) (f : Field) (r : Reading) (own : List ℕ) (rest : List Op) → ((j : ℕ) → j < a + f.width → Outside j r) → (y : Act) → act b (p + a) f ≡ y
      → Clean (act_ops (ops_b a) b p a f.width y ++ rest) → Before a f.width r own y → Further a f.width r own rest y
  unfolding act_ops Clean
  further below a f r own rest o keep e c s =
      let room = act-room b (p + a) f (λ x. let z : ◌≡◌ {A = ℕ} 0 1 = cc in omega arith) in
      record { same = keep_same a f.width r own room o s; stage = keep-next a f.width r own room s; clean = c }
  further below a f r own rest o (follow k) e c s =
      let child = ops_b a k (p + value_at b (p + a) f.width) in
      let both = clean-left (child ++ (link f.width ∷ [])) rest c in
      record {
        same = follow-same a f.width r own below k (clean-left child (link f.width ∷ []) both) s;
        stage = follow-next a f.width r own k s;
        clean = clean-right (child ++ (link f.width ∷ [])) rest c;
      }
  further below a f r own rest o refuse e c s = absurd c

  copied : Children ops_b ops_t rd t → (fs : List Field) (a : ℕ) → Clean (fields_ops ops_b b p a fs) → Stage a (fields_reading rd b p a fs whole) (own_bytes b p a fs) → Copied ops_b ops_t b t p q a fs
  unfolding Copied fields_ops fields_reading own_bytes
  copied below [] a c s = tt
  copied below (f ∷ fs) a c s =
      let z = further below a f (fields_reading rd b p (a + f.width) fs whole) (own_bytes b p (a + f.width) fs) (fields_ops ops_b b p (a + f.width) fs)
      (outside-before rd b p whole fs (a + f.width)) (act b (p + a) f) refl c s in
      (z.same, copied below fs (a + f.width) z.clean z.stage)

-- ---- the same fields

module _ (ops_b ops_t : ℕ → Kind → ℕ → List Op) (b t : List ℕ) (p q : ℕ) where
  agree-field : (a : ℕ) (f : Field) → Same ops_b ops_t b t p q a f.width (act b (p + a) f) → Plain f.rule (f.width ≡ 2 → word_at b (p + a) ≡ word_at t (q + a))
  unfolding Plain
  agree-field a f s = if-plain f.rule (λ h e.
      let kept = kept-part ops_b ops_t b t p q a f.width _ (plain-kept b (p + a) f h) s in
      rw (add-zero (p + a), add-zero (q + a)) at (same_word b t p q a 2 0 (omega arith) (rw e at kept)))
    where
      if-plain : {T : Type 0} (r : Rule) → (plain_rule r ≡ true → T) → Plain r T
      if-plain Any g = g refl
      if-plain (Only x) g = g refl
      if-plain (To k) g = tt
      if-plain (ToOrNull k) g = tt
      if-plain ToFeature g = tt

  copied-agree : (fs : List Field) (a : ℕ) → Copied ops_b ops_t b t p q a fs → Agree (λ i. word_at b (p + i)) (λ i. word_at t (q + i)) a fs
  unfolding Copied Agree
  copied-agree [] a c = tt
  copied-agree (f ∷ fs) a c = (agree-field a f c.0, copied-agree fs (a + f.width) c.1)

-- ---- a whole table

module _ (b t : List ℕ) where
  fields-again : (ops_b ops_t : ℕ → Kind → ℕ → List Op) (rd : ℕ → Kind → ℕ → Reading) → Children ops_b ops_t rd t → (p q : ℕ) (fs : List Field) → Clean (fields_ops ops_b b p 0 fs)
      → Shown t q (fields_reading rd b p 0 fs (own_bytes b p 0 fs)) → Copied ops_b ops_t b t p q 0 fs
  fields-again ops_b ops_t rd below p q fs c s =
      let whole = own_bytes b p 0 fs in
      let from : (i : ℕ) → 0 + i ≡ i = λ i. omega arith in
      copied ops_b ops_t rd b t p q whole (fields_reading rd b p 0 fs whole) (bytes-of rd b p whole fs 0) s.own below fs 0 c (record {
        outside = λ j h o. o;
        byte = λ i. ap (λ z. get_or whole z 0) (from i);
        long = omega arith;
        fields = s.fields;
        apart = s.apart;
      })

  table-again : (ops_b ops_t : ℕ → Kind → ℕ → List Op) (rd : ℕ → Kind → ℕ → Reading) → Children ops_b ops_t rd t → (k : Kind) (p q : ℕ) → Clean (fields_ops ops_b b p 0 (fields_at b k p))
      → Shown t q (fields_reading rd b p 0 (fields_at b k p) (own_bytes b p 0 (fields_at b k p)))
      → fields_ops ops_t t q 0 (fields_at t k q) ≡ fields_ops ops_b b p 0 (fields_at b k p)
  table-again ops_b ops_t rd below k p q c s =
      let fs = fields_at b k p in
      let same = fields-again ops_b ops_t rd below p q fs c s in
      let fields : fs ≡ fields_at t k q = settled _ _ k (copied-agree ops_b ops_t b t p q fs 0 same) in
      rw (← fields) (copied-ops ops_b ops_t b t p q fs false 0 (all-tags k _) (λ z. absurd (let x : ◌≡◌ {A = ℕ} 0 1 = cc in omega arith)) same)

  again_by : {ops_b : ℕ → Kind → ℕ → List Op} {rd : ℕ → Kind → ℕ → Reading} (d : ℕ) → Children ops_b (λ a. table_ops d t) rd t → (k : Kind) (p q : ℕ) → Clean (ops_by ops_b b k p)
      → Shown t q (reading_by rd b k p) → table_ops (suc d) t k q ≡ ops_by ops_b b k p
  unfolding table_ops Clean
  again_by {ops_b} {rd} d below k p q c s =
      ap (λ ops. begin ∷ (ops ++ (end ∷ []))) (table-again ops_b (λ a. table_ops d t) rd below k p q (clean-left (fields_ops ops_b b p 0 (fields_at b k p)) (end ∷ []) c) s)

-- a table that was read in any mode is read again as it stands
pub mode-again : (b t : List ℕ) (d : ℕ) (m : Mode) (k : Kind) (p q : ℕ) → Clean (mode_ops d b m k p) → Shown t q (mode_reading d b m k p) → table_ops d t k q ≡ mode_ops d b m k p
unfolding mode_ops mode_reading Clean
mode-again b t zero m k p q c s = absurd c
mode-again b t (suc d) m k p q c s =
    again_by (bytes_in b m p) t d (record { again = λ a j x y. mode-again b t d (child_mode b m p a j x) j (child_place m p x) y }) k (place_in m p) q c s

-- ---- the offsets of a table that was read have a width, since they are not zero

follow-some : (r : Rule) (h : Kind) (v : ℕ) (k : Kind) → by_rule r h v ≡ follow k → v ≡ 0 → ⊥
unfolding by_rule
follow-some Any h v k e z = let q : ◌≡◌ {A = ℕ} 0 1 = cc in omega arith
follow-some (Only x) h v k e z = go (eqb v x) e
  where
    go : (t : Bool) → pick t keep refuse ≡ follow k → ⊥
    go true e = let q : ◌≡◌ {A = ℕ} 0 1 = cc in omega arith
    go false e = let q : ◌≡◌ {A = ℕ} 0 1 = cc in omega arith
follow-some (To j) h v k e z = let q : ◌≡◌ {A = ℕ} 0 1 = (let f : refuse ≡ follow k = rw (eq-eqb v 0 z) at e in cc) in omega arith
follow-some (ToOrNull j) h v k e z = let q : ◌≡◌ {A = ℕ} 0 1 = (let f : keep ≡ follow k = rw (eq-eqb v 0 z) at e in cc) in omega arith
follow-some ToFeature h v k e z = let q : ◌≡◌ {A = ℕ} 0 1 = (let f : refuse ≡ follow k = rw (eq-eqb v 0 z) at e in cc) in omega arith

no_value : (b : List ℕ) (at w : ℕ) → w ≡ 0 → value_at b at w ≡ 0
unfolding read_bytes
no_value b at w z = let e : at + w - at ≡ 0 = omega arith in rw e

follow-wide : (b : List ℕ) (at : ℕ) (f : Field) (k : Kind) → act b at f ≡ follow k → 0 < f.width
follow-wide b at f k e = go f.width refl
  where
    room : at + f.width ≤ length b
    room = act-room b at f (λ r. let z : ◌≡◌ {A = ℕ} 0 1 = cc in omega arith)

    go : (w : ℕ) → f.width ≡ w → 0 < f.width
    go zero z = absurd (follow-some f.rule (feature_at b at) (value_at b at f.width) k (sym (act-rule b at f room) ∙ e) (no_value b at f.width z))
    go (suc w) z = omega arith

module _ (b : List ℕ) where
  wide_by : (rd : ℕ → Kind → ℕ → Reading) (p a : ℕ) (f : Field) (r : Reading) → ((a : ℕ) (k : Kind) (q : ℕ) → Wide (rd a k q)) → Wide r → (y : Act) → act b (p + a) f ≡ y
      → Wide (act_reading (rd a) b p a f.width y r)
  unfolding act_reading Wide
  wide_by rd p a f r below h keep e = h
  wide_by rd p a f r below h (follow k) e = (follow-wide b (p + a) f k e, below a k _, h)
  wide_by rd p a f r below h refuse e = h

  wide-fields : (rd : ℕ → Kind → ℕ → Reading) → ((a : ℕ) (k : Kind) (q : ℕ) → Wide (rd a k q)) → (p : ℕ) (whole : List ℕ) (fs : List Field) (a : ℕ) → Wide (fields_reading rd b p a fs whole)
  unfolding fields_reading Wide
  wide-fields rd below p whole [] a = tt
  wide-fields rd below p whole (f ∷ fs) a = wide_by rd p a f (fields_reading rd b p (a + f.width) fs whole) below (wide-fields rd below p whole fs (a + f.width)) (act b (p + a) f) refl

pub wide-mode : (d : ℕ) (b : List ℕ) (m : Mode) (k : Kind) (p : ℕ) → Wide (mode_reading d b m k p)
unfolding mode_reading Wide
wide-mode zero b m k p = tt
wide-mode (suc d) b m k p =
    let l = bytes_in b m p in
    let fs = fields_at l k (place_in m p) in
    wide-fields l _ (λ a j q. wide-mode d b (child_mode b m p a j q) j (child_place m p q)) (place_in m p) (own_bytes l (place_in m p) 0 fs) fs 0
