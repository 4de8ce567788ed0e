-- What is judged: count and size first, then the text.
use mathlib.Core.Path.{◌≡◌, refl, sym, ap, ◌∙◌}
use mathlib.Core.List.{List}
use mathlib.Core.Bool.{Bool, true, false, ◌&&◌, and-true, false≢true}
use Prim.Native.Nat.{ℕ, ◌+◌, ◌*◌, ◌≤◌, ◌<◌}
use native.Mathlib.Omega.{arith}
use lib.Dec.{eqb, leb, ltb}
use lib.ListN.{length, take}
use borrow.Author.Tests.{le-leb, lt-leb, ltb-true, leb-true}
use Rattle.lists.specs.Lists.{pick, part, over, holds, same_list}
use Rattle.lists.proofs.Runs.{length_part}
use Rattle.lists.proofs.Same.{and_left, and_right}
use Rattle.std.specs.Bool.{then_some}
use Rattle.std.specs.Prelude.{Some, None, Ok, Err}
use Rattle.cable_judge.specs.declared.answers.NoFrame.TheVariants as NoFrame
use Rattle.cable_judge.specs.declared.judging.Judged.{Judged}
use Rattle.text_hex.proofs.Pairs.{length-bytes}
use Rattle.cable_frame.specs.Frame.{frame_size, most_frames, frame}
use Rattle.cable_compare.specs.Compare.{behind_data, data_from, Compares}
use Rattle.cable_judge.specs.Judge.{told_count, told_size, told_data, agrees, right_size, is_frame, is_awaited, outcome, verdict}
use Rattle.cable_judge.specs.Judged.{tells, told, weighed, Judges}

-- what right count and size say in numbers
pub record Told (n m count k : ℕ) (s : List ℕ) : Type 0 where
  pub below : n < m
  pub most : m ≤ most_frames
  pub agreed : agrees count m ≡ true
  pub sized : right_size n m k ≡ true
  pub least : 1 ≤ k
  pub size : k ≤ frame_size
  pub inside : data_from n m + k * 2 + behind_data ≤ length s

tells-split : (n m count k : ℕ) (s : List ℕ) → k ≡ told_size n m s → tells n m count k ≡ true → Told n m count k s
unfolding holds told_size
tells-split n m count k s z e =
    let a : ltb n m ≡ true = and_left (ltb n m) _ e in
    let e₁ = and_right (ltb n m) _ e in
    let b : leb m most_frames ≡ true = and_left (leb m most_frames) _ e₁ in
    let e₂ = and_right (leb m most_frames) _ e₁ in
    let e₃ = and_right (agrees count m) _ e₂ in
    let r : right_size n m k ≡ true = and_left (right_size n m k) true e₃ in
    let c : leb 1 k ≡ true = and_left (leb 1 k) _ r in
    let d : leb k frame_size ≡ true = and_left (leb k frame_size) _ (and_right (leb 1 k) _ r) in
    record {
      below = ltb-true n m a;
      most = leb-true m most_frames b;
      agreed = and_left (agrees count m) _ e₂;
      sized = r;
      least = leb-true 1 k c;
      size = leb-true k frame_size d;
      inside = omega (arith, leb-true 1 k c);
    }

and-five : (a b c d e : Bool) → (a && (b && (c && (d && (e && true))))) ≡ ((a && (b && (c && (d && true)))) && e)
and-five false b c d e = refl
and-five true false c d e = refl
and-five true true false d e = refl
and-five true true true false e = refl
and-five true true true true e = and-true e

module _ (n count : ℕ) (s : List ℕ) where
  abbrev M : ℕ
  M = told_count n s

  abbrev K : ℕ
  K = told_size n M s

  abbrev pub right : Bool
  right = tells n M count K

  abbrev pub same : Bool
  same = same_list eqb s (frame n M (told_data n M s))

  -- the awaited frame: right in count and size, and the same text
  pub awaited-split : is_awaited n count s ≡ (right && same)
  unfolding is_frame holds
  awaited-split = and-five (ltb n M) (leb M most_frames) (agrees count M) (right_size n M K) same

  pub right-facts : right ≡ true → Told n M count K s
  right-facts e = tells-split n M count K s refl e

  pub length-data : right ≡ true → length (told_data n M s) ≡ K
  unfolding told_data
  length-data e =
      let f : Told n M count K s = right-facts e in
      length-bytes (part (data_from n M) (data_from n M + K * 2) s) ∙ omega (arith, length_part (data_from n M) (data_from n M + K * 2) s (omega arith))

  -- what is weighed and found right
  pub record Weighs (w : Judged) : Type 0 where
    pub good : right ≡ true
    pub whole : w ≡ told n s
    pub facts : Told n w.count count w.size s

  pub weighs : (w : Judged) → Some w ≡ weighed n count s → Weighs w
  unfolding weighed
  weighs w e = by right refl e
    where
      by : (t : Bool) → right ≡ t → Some w ≡ pick t (Some (told n s)) None → Weighs w
      by true g h = let v : w ≡ told n s = cc in record { good = g; whole = v; facts = rw v (right-facts g) }
      by false g h = absurd (cc)

  not-awaited : (body : List ℕ) → is_awaited n count s ≡ false → Judges n count s None body
  not-awaited body a = record { answer = rw a; bytes = λ (k : is_awaited n count s ≡ true). absurd (false≢true (sym a ∙ k)) }

  judge-wrong : (body : List ℕ) → right ≡ false → Judges n count s None body
  judge-wrong body g = not-awaited body (awaited-split ∙ rw g)

  -- no frame has such a number
  pub judge-high : (body : List ℕ) → most_frames ≤ n → Judges n count s None body
  judge-high body h = by right refl
    where
      by : (t : Bool) → right ≡ t → Judges n count s None body
      by true g = let f : Told n M count K s = right-facts g in absurd (omega (arith, f.below, f.most))
      by false g = judge-wrong body g

  pub judge-untold : (body : List ℕ) → None ≡ weighed n count s → Judges n count s None body
  unfolding weighed
  judge-untold body e = by right refl e
    where
      by : (t : Bool) → right ≡ t → None ≡ pick t (Some (told n s)) None → Judges n count s None body
      by true g h = absurd (cc)
      by false g h = judge-wrong body g

  -- ---- the text, compared
  module _ (w : Judged) (h : Weighs w) (t : Bool) (x : List ℕ) (c : Compares n w.count w.size s t x) where
    text_same : t ≡ same
    unfolding told_data
    text_same = c.same ∙ rw h.whole

    pub judged : Judges n count s (then_some t w) x
    unfolding told_data
    judged = by t refl
      where
        by : (b : Bool) → t ≡ b → Judges n count s (then_some b w) x
        by true e =
            let a : is_awaited n count s ≡ true = awaited-split ∙ rw (h.good, sym text_same ∙ e) in
            let d = rw h.whole at (c.bytes e) in
            rw h.whole (record { answer = rw a; bytes = λ k. d })
        by false e = not-awaited x (awaited-split ∙ rw (h.good, sym text_same ∙ e))

  -- ---- each way through settling
  pub settle-bad : (out body : List ℕ) → Judges n count s None body → verdict n count out s ≡ outcome (Err NoFrame.NotAwaited) n count out
  unfolding verdict
  settle-bad out body h = by (is_awaited n count s) refl h.answer
    where
      by : (t : Bool) → is_awaited n count s ≡ t → None ≡ pick t (Some (told n s)) None → verdict n count out s ≡ outcome (Err NoFrame.NotAwaited) n count out
      by true g e = absurd (cc)
      by false g e = rw g

  module _ (out body : List ℕ) (j : Judged) (h : Judges n count s (Some j) body) where
    pub record Settles : Type 0 where
      pub good : is_awaited n count s ≡ true
      pub facts : Told n j.count count j.size s
      pub whole : j ≡ told n s

    pub settles : Settles
    settles = by (is_awaited n count s) refl h.answer
      where
        by : (t : Bool) → is_awaited n count s ≡ t → Some j ≡ pick t (Some (told n s)) None → Settles
        by true g e = let v : j ≡ told n s = cc in record { good = g; facts = rw v (right-facts (and_left right same (sym awaited-split ∙ g))); whole = v }
        by false g e = absurd (cc)

    pub settle-full : length out < n * frame_size + j.size → verdict n count out s ≡ outcome (Err NoFrame.OutputShort) n count out
    unfolding verdict
    settle-full r =
        let g : Settles = settles in
        let k : length out < n * frame_size + K = rw (ap (λ (x : Judged). x.size) g.whole) at r in
        rw (g.good, lt-leb (n * frame_size + K) (length out) k)

    pub settle-done : n * frame_size + j.size ≤ length out → verdict n count out s ≡ outcome (Ok j.size) (n + 1) j.count (over (n * frame_size) (take j.size body) out)
    unfolding verdict
    settle-done r =
        let g : Settles = settles in
        let k : n * frame_size + K ≤ length out = rw (ap (λ (x : Judged). x.size) g.whole) at r in
        rw (g.good, le-leb (n * frame_size + K) (length out) k, g.whole, h.bytes g.good)
