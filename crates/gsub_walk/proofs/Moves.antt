-- The moves of each mode, as the code makes them.
use mathlib.Core.Path.{◌≡◌, refl, sym, ap, subst, ◌∙◌}
use Prim.Native.Nat.{ℕ, ◌+◌, ◌*◌, ◌≤◌, ◌<◌, ◌^◌}
use mathlib.Core.List.{List, [], ◌∷◌}
use mathlib.Core.Bool.{Bool, true, false, true≢false, ◌&&◌}
use native.Mathlib.Nat.{add-zero}
use native.Mathlib.Omega.{arith}
use borrow.Author.Tests.{leb-true, le-leb}
use lib.Dec.{leb}
use lib.ListN.{length, get_or}
use Rattle.lists.specs.Lists.{pick, part}
use Rattle.big_endian.proofs.Laws.{capacity-rises}
use Rattle.big_endian.specs.BigEndian.{capacity, read_from}
use Rattle.gsub.specs.declared.Scope.{Scope}
use Rattle.gsub.specs.declared.Scope.TheVariants.{Single, Whole}
use Rattle.gsub.specs.declared.Kind.{Kind}
use Rattle.gsub.specs.declared.Kind.TheVariants.{Header, ScriptList, Script, LangSys, FeatureList, Feature, FeatureWith, FeatureParams, LookupList, Lookup, Extension, SingleSubst, MultipleSubst, Sequence, AlternateSubst, AlternateSet, LigatureSubst, LigatureSet, Ligature, SequenceContext, SequenceRuleSet, SequenceRule, ChainedSequenceContext, ChainedSequenceRuleSet, ChainedSequenceRule, ReverseChainSingleSubst, Coverage, ClassDef, FeatureVariations, ConditionSet, Condition, FeatureTableSubstitution}
use Rattle.gsub.specs.declared.Mode.{Mode}
use Rattle.gsub.specs.declared.Mode.TheVariants.{Plain, Last, Promoted, New}
use Rattle.gsub.specs.declared.Field.{Field}
use Rattle.gsub.specs.declared.Act.{Act}
use Rattle.gsub.specs.declared.Act.TheVariants.{Keep as keep, Follow as follow, Refuse as refuse}
use Rattle.gsub.specs.Tables.{uint16, is, word_at, formats, by_number, shape, fields_of, fields_at, laid, often, times}
use Rattle.gsub.specs.Ops.{value_at, by_rule, act, put}
use Rattle.gsub.specs.Meaning.{deepest}
use Rattle.gsub.specs.Promote.{extension_size, new_bytes, promotes, is_last, by_kind, child_mode}
use Rattle.gsub.proofs.Accepted.{act-room}
use Rattle.gsub.proofs.Changed.{changed, same_length, same-part, type-lies, type-bytes}
use Rattle.gsub.proofs.Again.{rule-same}
use Rattle.gsub.proofs.Tags.{no-tag}
use Rattle.gsub.proofs.Places.{From, Plain as PlainField}
use Rattle.gsub.proofs.Substitutes.{lookup-type}
use Rattle.gsub_rows.specs.Fields.{farthest, most_width, Narrow, Found, IsLookup, Fits}
use Rattle.std.specs.Prelude.{Some}
use Rattle.gsub_walk.specs.declared.walk.Frame.{Frame}
use Rattle.gsub_walk.specs.declared.walk.Walk.{Walk}
use Rattle.gsub_walk.specs.declared.walk.Move.TheVariants as Move
use Rattle.gsub_walk.specs.Rest.{bytes_of, place_of, fields_of as fields_in, FrameOk, Standing, advanced, entered, Goes, Stops, MovesBy, NextIs, AsIs}
use Rattle.gsub_walk.proofs.Values.{value-below}
use Rattle.gsub_walk.proofs.Moving.{next-ok, field-narrow, stop-stops, behind-stands, put-goes, deep-stops, begin-goes}

-- ---- a child's mode fits its kind

lookup-fits : (s : Scope) (t : Bool) → Fits (pick t Promoted Plain) (Lookup s)
unfolding Fits
lookup-fits s true = record { scope = s; same = refl }
lookup-fits s false = tt

kind_fits : (n : ℕ) (t : Scope → Bool) (k : Kind) → Fits (by_kind k (Last n) (λ s. pick (t s) Promoted Plain)) k
unfolding by_kind Fits
kind_fits n t (Header s) = tt
kind_fits n t ScriptList = tt
kind_fits n t Script = tt
kind_fits n t LangSys = tt
kind_fits n t (FeatureList s) = tt
kind_fits n t Feature = tt
kind_fits n t (FeatureWith p) = tt
kind_fits n t (FeatureParams p) = tt
kind_fits n t (LookupList s) = tt
kind_fits n t (Lookup s) = lookup-fits s (t s)
kind_fits n t (Extension s) = tt
kind_fits n t SingleSubst = tt
kind_fits n t MultipleSubst = tt
kind_fits n t Sequence = tt
kind_fits n t AlternateSubst = tt
kind_fits n t AlternateSet = tt
kind_fits n t LigatureSubst = tt
kind_fits n t LigatureSet = tt
kind_fits n t Ligature = tt
kind_fits n t SequenceContext = tt
kind_fits n t SequenceRuleSet = tt
kind_fits n t SequenceRule = tt
kind_fits n t ChainedSequenceContext = tt
kind_fits n t ChainedSequenceRuleSet = tt
kind_fits n t ChainedSequenceRule = tt
kind_fits n t ReverseChainSingleSubst = tt
kind_fits n t Coverage = tt
kind_fits n t ClassDef = tt
kind_fits n t FeatureVariations = tt
kind_fits n t ConditionSet = tt
kind_fits n t Condition = tt
kind_fits n t FeatureTableSubstitution = tt

child_fits : (b : List ℕ) → ((i : ℕ) → get_or b i 0 < 256) → (m : Mode) (p a : ℕ) (k : Kind) (q : ℕ) → Fits (child_mode b m p a k q) k
unfolding Fits
child_fits b bytes Plain p a k q = tt
child_fits b bytes (Last n) p a k q = kind_fits n (λ s. is_last n b p a && promotes s (word_at b q)) k
child_fits b bytes Promoted p a k q = omega (arith, bytes p, bytes (p + 1))
child_fits b bytes (New type) p a k q = tt

-- ---- a field that is read from the table itself

module _ {b : List ℕ} {f : Frame} (g : Field) where
  -- a Lookup's fields have nothing to do with tags
  pub as-promoted : f.mode ≡ Promoted → FrameOk f → Found (fields_in b f) f.index (Some g) → (f.index ≡ 0 → ⊥) → AsIs b f g
  unfolding Fits Found
  as-promoted e k x n =
      let l : IsLookup f.kind = rw e at k.fits in
      record {
        place_same = rw e;
        long_same = rw e (same_length b f.place);
        bytes_same = rw e (same-part b f.place (f.place + f.at) (f.place + f.at + g.width) (omega (arith, k.few)));
        child-same = λ q. rw e;
        rule-same = λ v. rule-same g.rule false _ _ v (no-tag l.scope (λ i. word_at (bytes_of b f) (place_of f + i)) f.index (rw l.same at x.0) (rw l.same at x.1)) (λ t. absurd (true≢false (sym t)));
      }

module _ {b : List ℕ} {w : Walk} {f : Frame} {g : Field} (x : NextIs b w f g) (y : AsIs b f g) (short : length b < 2 ^ 63) where
  abbrev at : ℕ
  at = f.place + f.at

  act-is : act (bytes_of b f) (place_of f + f.at) g ≡ act b at g
  unfolding act
  act-is = rw (y.rule-same, y.place_same, y.long_same, y.bytes_same)

  pub place-fits : f.place + f.at ≤ farthest
  place-fits = omega (arith, (next-ok x).near, y.place_same)

  module _ {a : Act} (i : a ≡ act b at g) where
    judged : {c : Act} → a ≡ c → act (bytes_of b f) (place_of f + f.at) g ≡ c
    judged h = act-is ∙ sym i ∙ h

    keep-room : a ≡ keep → at + g.width ≤ length b
    keep-room h = act-room b at g (λ r. let z : ◌≡◌ {A = ℕ} 0 1 = cc in omega arith)

    pub put-made : {r : Walk} → a ≡ keep → r ≡ advanced w f g.width → MovesBy b w (Move.Put at g.width) r
    unfolding MovesBy
    put-made h e =
        let room = keep-room h in
        let goes = put-goes x (omega (arith, y.place_same)) (judged h) in
        rw e (rw (y.place_same, y.bytes_same) at goes, room)

    pub refuse-made : a ≡ refuse → Stops b w at
    refuse-made h = rw y.place_same at (stop-stops x (judged h))

    module _ {k : Kind} (h : a ≡ follow k) where
      pub follow-room : at + g.width ≤ length b
      follow-room = act-room b at g (λ r. let z : ◌≡◌ {A = ℕ} 0 1 = cc in omega arith)

      near : place_of f + f.at + g.width ≤ farthest
      near = omega (arith, follow-room, y.place_same)

      pub enter-stands : {n : Walk} → w.depth < deepest → n ≡ advanced w f g.width → Standing n × (n.depth < deepest)
      enter-stands l e = rw e (behind-stands x.stands x.inside (next-ok x) (field-narrow x) near, l)

      module _ {v : ℕ} (q : v ≡ value_at b at g.width) where
        to_is : place_of f + value_at (bytes_of b f) (place_of f + f.at) g.width ≡ f.place + v
        to_is = rw (y.place_same, y.bytes_same, q)

        pub deep-made : deepest ≤ w.depth → Stops b w (f.place + v)
        deep-made l = subst (λ p. Stops b w p) (y.child-same _ ∙ to_is) (deep-stops x k (judged h) l)

        module _ (bytes : (i : ℕ) → get_or b i 0 < 256) where
          pub child-near : f.place + v ≤ farthest
          child-near = omega (arith, value-below b bytes at g.width follow-room, capacity-rises g.width most_width (field-narrow x).most, q, follow-room)

          pub begin-made : {m : Mode} {n r : Walk} → w.depth < deepest → m ≡ child_mode b f.mode f.place f.at k (f.place + v) → n ≡ advanced w f g.width → r ≡ entered n m k (f.place + v)
              → MovesBy b w Move.Begin r
          unfolding MovesBy
          begin-made {m} l t e d =
              let fits : Fits m k = rw t (child_fits b bytes f.mode f.place f.at k (f.place + v)) in
              rw (d, e) (begin-goes x k (judged h) near l (t ∙ ap (λ z. child_mode b f.mode f.place f.at k z) (sym to_is)) (sym (y.child-same _ ∙ to_is)) fits child-near)

-- ---- the type of a promoted Lookup

-- where the new Extension for type 7 has it
abbrev type_place : ℕ
type_place = 58

-- it is the first field
type-first : (b : List ℕ) (s : Scope) (p : ℕ) → p + 2 ≤ length b → get_or (fields_at (changed b p) (Lookup s) p) 0 uint16 ≡ is 7
unfolding fields_of formats by_number laid often times
type-first b s p h =
    let e : word_at (changed b p) (p + 0) ≡ 7 = ap (word_at (changed b p)) (add-zero p) ∙ type-lies b p h in
    ap (λ z. get_or (laid (λ i. word_at (changed b p) (p + i)) 0 (shape (Lookup s) z (word_at (changed b p) (p + 2)))) 0 uint16) e ∙ go s
  where
    go : (s : Scope) → get_or (laid (λ i. word_at (changed b p) (p + i)) 0 (shape (Lookup s) 7 (word_at (changed b p) (p + 2)))) 0 uint16 ≡ is 7
    go Single = refl
    go Whole = refl

-- of two bytes in any case
first_two : (fs : List Field) → From PlainField 0 fs → (get_or fs 0 uint16).width ≡ 2
unfolding From
first_two [] h = absurd h
first_two (f ∷ fs) h = h.0

first_field : (b : List ℕ) (f : Frame) (g : Field) (s : Scope) → f.mode ≡ Promoted → f.kind ≡ Lookup s → f.index ≡ 0 → get_or (fields_in b f) f.index uint16 ≡ g
    → get_or (fields_at (changed b f.place) (Lookup s) f.place) 0 uint16 ≡ g
first_field b f g s m k z h = rw (m, k, z) at h

module _ {b : List ℕ} {w : Walk} {f : Frame} {g : Field} (x : NextIs b w f g) (m : f.mode ≡ Promoted) (z : f.index ≡ 0) where
  is-lookup : IsLookup f.kind
  unfolding Fits
  is-lookup = rw m at (next-ok x).fits

  field_is : get_or (fields_at (changed b f.place) (Lookup is-lookup.scope) f.place) 0 uint16 ≡ g
  unfolding Found
  field_is = first_field b f g is-lookup.scope m is-lookup.same z x.found.1

  type-two : g.width ≡ 2
  type-two = ap (λ (t : Field). t.width) (sym field_is) ∙ first_two _ (lookup-type (λ i. word_at (changed b f.place) (f.place + i)) is-lookup.scope)

  type-is : f.place + 2 ≤ length b → is 7 ≡ g
  type-is h = sym (type-first b is-lookup.scope f.place h) ∙ field_is

  type_at : place_of f + f.at ≡ f.place
  type_at = rw (m, (next-ok x).first z) (add-zero f.place)

  module _ {inside : Bool} (i : inside ≡ leb (f.place + g.width) (length b)) where
    type-kept : f.place + 2 ≤ length b → act (bytes_of b f) f.place g ≡ keep
    unfolding act by_rule read_from
    type-kept h = rw (m, ← type-is h, same_length b f.place, le-leb (f.place + 2) (length b) h, type-bytes b f.place h)

    pub type-made : length b < 2 ^ 63 → inside ≡ true → {r : Walk} → r ≡ advanced w f g.width → MovesBy b w (Move.New type_place g.width) r
    unfolding MovesBy
    type-made short h e =
        let two = type-two in
        let room : f.place + 2 ≤ length b = omega (arith, two, leb-true (f.place + g.width) (length b) (sym i ∙ h)) in
        let goes = put-goes x (omega (arith, type_at, two)) (ap (λ p. act (bytes_of b f) p g) type_at ∙ type-kept room) in
        let same : part (place_of f + f.at) (place_of f + f.at + g.width) (bytes_of b f) ≡ part type_place (type_place + g.width) new_bytes = rw (type_at, two, m) (type-bytes b f.place room) in
        rw e (subst (λ vs. Goes b w (put vs) (advanced w f g.width)) same goes, omega arith)

    pub type-past : inside ≡ false → Stops b w f.place
    unfolding act
    type-past h = rw type_at at (stop-stops x (rw (type_at, m, same_length b f.place, sym i ∙ h)))

-- ---- a new Extension

module _ (f : Frame) (g : Field) {type : ℕ} (m : f.mode ≡ New type) where
  abbrev new_at : ℕ
  new_at = extension_size * type + f.at

  pub new-small : FrameOk f → type < capacity 2
  unfolding Fits
  new-small t = rw m at t.fits

  pub new-near : FrameOk f → new_at ≤ farthest
  new-near t = rw m at t.near

  module _ {a : Act} (i : a ≡ act new_bytes new_at g) where
    new-room : (a ≡ refuse → ⊥) → new_at + g.width ≤ length new_bytes
    new-room n = act-room new_bytes new_at g (λ r. n (i ∙ r))

    near_new : (a ≡ refuse → ⊥) → place_of f + f.at + g.width ≤ farthest
    near_new n = rw m (omega (arith, new-room n))

    pub new-enters : {k : Kind} {w n : Walk} → Standing w → 0 < w.depth → FrameOk f → Narrow g → a ≡ follow k → w.depth < deepest → n ≡ advanced w f g.width → Standing n × (n.depth < deepest)
    new-enters s o t u h l e = rw e (behind-stands s o t u (near_new (λ r. let z : ◌≡◌ {A = ℕ} 0 1 = cc in omega arith)), l)

    module _ {b : List ℕ} {w : Walk} (x : NextIs b w f g) where
      new-judged : {c : Act} → a ≡ c → act (bytes_of b f) (place_of f + f.at) g ≡ c
      new-judged h = rw m (sym i ∙ h)

      pub new-put : a ≡ keep → {r : Walk} → r ≡ advanced w f g.width → MovesBy b w (Move.New new_at g.width) r
      unfolding MovesBy
      new-put h e =
          let n : a ≡ refuse → ⊥ = λ r. let z : ◌≡◌ {A = ℕ} 0 1 = cc in omega arith in
          let same : part (place_of f + f.at) (place_of f + f.at + g.width) (bytes_of b f) ≡ part new_at (new_at + g.width) new_bytes = rw m in
          rw e (subst (λ vs. Goes b w (put vs) (advanced w f g.width)) same (put-goes x (near_new n) (new-judged h)), new-room n)

      pub new-stop : a ≡ refuse → Stops b w new_at
      new-stop h = rw m at (stop-stops x (new-judged h))

      module _ (k : Kind) (h : a ≡ follow k) where
        pub new_deep : deepest ≤ w.depth → Stops b w f.place
        new_deep l = subst (λ p. Stops b w p) (rw m) (deep-stops x k (new-judged h) l)

        pub new-begin : w.depth < deepest → {n r : Walk} → n ≡ advanced w f g.width → r ≡ entered n Plain k f.place → MovesBy b w Move.Begin r
        unfolding MovesBy Fits
        new-begin l e d = rw (d, e) (begin-goes x k (new-judged h) (near_new (λ r. let z : ◌≡◌ {A = ℕ} 0 1 = cc in omega arith)) l (rw m) (rw m) tt (next-ok x).begins)
