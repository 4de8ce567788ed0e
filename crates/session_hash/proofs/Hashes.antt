-- The hash by what is left to mix, of an object as runs of the stores, and of equal objects.
use mathlib.Core.Path.{◌≡◌, refl, sym, ap, ap₂, ◌∙◌}
use Prim.Native.Nat.{ℕ, suc, ◌+◌, ◌-◌, ◌*◌, ◌/◌, ◌%◌, ◌^◌, ◌≤◌, ◌<◌}
use mathlib.Core.List.{List, [], ◌∷◌}
use mathlib.Core.Bool.{true, ◌&&◌}
use native.Mathlib.Omega.{arith}
use borrow.Author.Tests.{eqb-true}
use lib.ListN.{length, take, drop, get_or, drop_of_length-le}
use lib.Seq.{get_or-take}
use lib.Dec.{eqb}
use Rattle.lists.specs.Lists.{part, same_list}
use Rattle.lists.proofs.Runs.{drop-first}
use Rattle.lists.proofs.Alike.{length_run}
use Rattle.lists.proofs.Same.{and_left, and_right, same-equal}
use Rattle.model_orders.specs.Object.{Slot, Link, Object, same_slot, same_link, same_object}
use Rattle.layout.specs.Words.{link_words, links_of}
use Rattle.session_find.specs.declared.Runs.{Runs}
use Rattle.session_find.specs.Runs.{HasRuns}
use Rattle.session_hash.specs.Hash.{mix, mixed, gathered, four_at, two_words, twined, words_of_all, hash_by, hash_of}

-- ---- what is left to mix

module _ (h i : ℕ) (s : List ℕ) where
  pub mixed-next : i < length s → mixed h (drop i s) ≡ mixed (mix h (get_or s i 0)) (drop (i + 1) s)
  unfolding mixed
  mixed-next k = rw (drop-first i s k)

  pub mixed-none : length s ≤ i → mixed h (drop i s) ≡ h
  unfolding mixed
  mixed-none k = rw (drop_of_length-le s {i = i} k)

gathered-short : (l : List ℕ) → length l < 4 → gathered l ≡ l
unfolding gathered
gathered-short [] h = refl
gathered-short (a ∷ []) h = refl
gathered-short (a ∷ b ∷ []) h = refl
gathered-short (a ∷ b ∷ c ∷ []) h = refl
gathered-short (a ∷ b ∷ c ∷ d ∷ l) h = absurd (omega arith)

module _ (h : ℕ) (w l rest : List ℕ) where
  pub fours-next : w ≡ take 4 l → rest ≡ drop 4 l → length rest + 4 ≡ length l → mixed h (gathered l) ≡ mixed (mix h (four_at 0 w)) (gathered rest)
  unfolding mixed gathered
  fours-next a b n = rw (a, b) (go l (omega (arith, n)))
    where
      go : (l : List ℕ) → 4 ≤ length l → mixed h (gathered l) ≡ mixed (mix h (four_at 0 (take 4 l))) (gathered (drop 4 l))
      go [] k = absurd (omega arith)
      go (a ∷ []) k = absurd (omega arith)
      go (a ∷ b ∷ []) k = absurd (omega arith)
      go (a ∷ b ∷ c ∷ []) k = absurd (omega arith)
      go (a ∷ b ∷ c ∷ d ∷ l) k = refl

-- fewer than four are left
pub fours-none : (h : ℕ) (l : List ℕ) → length l < 4 → mixed h (gathered l) ≡ mixed h l
fours-none h l k = ap (mixed h) (gathered-short l k)

-- ---- two words at a time

-- in the front as in the whole
fours : (k : ℕ) (l : List ℕ) → k + 4 ≤ two_words → four_at k l ≡ four_at k (take two_words l)
fours k l h =
    let at : (x : ℕ) → x < two_words → get_or (take two_words l) x 0 ≡ get_or l x 0 = λ x m. get_or-take two_words l x 0 m in
    rw (at k (omega arith), at (k + 1) (omega arith), at (k + 2) (omega arith), at (k + 3) (omega arith))

module _ (h g : ℕ) (l : List ℕ) where
  pub twined-next : (w rest : List ℕ) → w ≡ take two_words l → rest ≡ drop two_words l → length rest + two_words ≡ length l
      → twined (length l / two_words) h g l ≡ twined (length rest / two_words) (mix h (four_at 0 w)) (mix g (four_at 4 w)) rest
  unfolding twined
  twined-next w rest a b k =
      let n : length l / two_words ≡ suc (length rest / two_words) = omega (arith, k) in
      rw (n, a, b) (ap₂ (λ x y. twined (length (drop two_words l) / two_words) (mix h x) (mix g y) (drop two_words l)) (fours 0 l (omega arith)) (fours 4 l (omega arith)))

  -- fewer are left
  pub twined-none : length l < two_words → twined (length l / two_words) h g l ≡ mixed (mix h (g % 2 ^ 32)) (gathered l)
  unfolding twined
  twined-none k = let n : length l / two_words ≡ 0 = omega arith in rw n

-- ---- an object as runs of the stores

words_back : (k : ℕ) (ws : List ℕ) → length ws ≡ k * link_words → words_of_all (links_of ws) ≡ ws
unfolding words_of_all links_of
words_back k [] h = refl
words_back k (x ∷ []) h = absurd (omega arith)
words_back k (x ∷ y ∷ []) h = absurd (omega arith)
words_back k (x ∷ y ∷ z ∷ []) h = absurd (omega arith)
words_back k (x ∷ y ∷ z ∷ u ∷ ws) h = ap (λ (l : List ℕ). x ∷ y ∷ z ∷ u ∷ l) (words_back (k - 1) ws (omega arith))

pub hash-runs : {b w : List ℕ} {o : Object} {r : Runs} → HasRuns b w o r
    → hash_by (part r.from (r.from + r.size) b) (part r.at (r.at + r.words) w) ≡ hash_of o
unfolding hash_of
hash-runs {b} {w} {o} {r} x =
    rw x.object_is
    (ap (hash_by (part r.from (r.from + r.size) b))
    (sym (words_back x.count (part r.at (r.at + r.words) w) (length_run r.at r.words w x.words_in ∙ x.words_is))))

-- ---- equal objects

same-slot : (s t : Slot) → same_slot s t ≡ true → s ≡ t
same-slot s t e =
    let a = eqb s.at t.at in
    let b = eqb s.width t.width in
    let c = eqb s.inner t.inner in
    let f : (b && c) ≡ true = and_right a (b && c) e in
    let p = eqb-true s.at t.at (and_left a (b && c) e) in
    let q = eqb-true s.width t.width (and_left b c f) in
    let r = eqb-true s.inner t.inner (and_right b c f) in
    λ i. record { at = p i; width = q i; inner = r i }

same-link : (l m : Link) → same_link l m ≡ true → l ≡ m
same-link l m e =
    let a = same_slot l.slot m.slot in
    let b = eqb l.child m.child in
    let p = same-slot l.slot m.slot (and_left a b e) in
    let q = eqb-true l.child m.child (and_right a b e) in
    λ i. record { slot = p i; child = q i }

pub same-hash : (o p : Object) → same_object o p ≡ true → hash_of o ≡ hash_of p
unfolding hash_of
same-hash o p e =
    let s = same_list eqb o.bytes p.bytes in
    let t = same_list same_link o.links p.links in
    let a = same-equal eqb (λ x y h. eqb-true x y h) o.bytes p.bytes (and_left s t e) in
    let b = same-equal same_link same-link o.links p.links (and_right s t e) in
    ap₂ (λ (x : List ℕ) (y : List Link). hash_by x (words_of_all y)) a b
