-- Any cutting of a text gives its stretches the same answers, and the output the same bytes.
use mathlib.Core.Path.{◌≡◌, refl, sym, ap, ◌∙◌}
use mathlib.Core.List.{List, [], ◌∷◌, ◌++◌}
use Prim.Native.Nat.{ℕ, ◌+◌, ◌-◌, ◌≤◌}
use native.Mathlib.Omega.{arith}
use lib.ListN.{length, take, drop, replicate, length-take, take-append-drop}
use lib.Seq.{drop-append-le, drop-length, take_all}
use borrow.Author.Tests.{le-ltb}
use Rattle.std.specs.Prelude.{Option, Some, None}
use Rattle.big_endian.specs.BigEndian.{read_from}
use Rattle.cable_scan.specs.Scan.{differs, stretches_on, stretches}
use Rattle.cable_judge.specs.Judge.{Outcome, verdict}
use Rattle.cable_head.specs.Feed.{len_at, line_at, awaited_at, count_at, held_at, held_size, head_need, number_at, len_of, held_of, head_with, scan_of, taken_of, stretch_with, verdict_with, Left, fed_on, fed_end, fed_by, feed_step}
use Rattle.cable.specs.Runs.{Fresh, Run, answered, feeds, told}
use Rattle.cable.proofs.Cuts.{On, cut_on, Ended, cut-end}
use Rattle.cable.proofs.Held.{with-length, line_read, awaited-read, count-read, held-read, take_again, verdict-held, Small, verdict-small, scan-small}

-- the stretch so far is p, of which the head holds the first 1077 bytes
pub record Holds (h p : List ℕ) : Type 0 where
  pub long : head_need ≤ length h
  pub text : held_of h ≡ take held_size p
  pub line : number_at line_at h ≤ differs
  pub small : Small (number_at awaited_at h) (number_at count_at h)

-- the stretches of a text that goes on with t, judged from what the head holds
abbrev told_of : List ℕ → List ℕ → List ℕ → List ℕ → Run
told_of h p out t = told (number_at awaited_at h) (number_at count_at h) out (stretches_on (number_at line_at h) p t)

-- a feed of u, with r left behind it, left f: the head then holds `after`, and what is told is the answer and what is told from there
pub record Steps (h p u r out : List ℕ) (f : Left) : Type 0 where
  pub after : List ℕ
  pub holds : Holds f.head after
  pub goes : answered f.answer (told_of f.head after f.out (drop f.taken u ++ r)) ≡ told_of h p out (u ++ r)
  pub most : f.taken ≤ length u

-- a head with s held says what was written into it
module _ (s : List ℕ) (line n c : ℕ) (h p : List ℕ) (full : head_need ≤ length h) (e : s ≡ take held_size p) (l : line ≤ differs) (m : Small n c) where
  abbrev written : List ℕ
  written = head_with s line n c h

  short : length s ≤ held_size
  short = omega (arith, ap length e, length-take held_size p)

  line-is : number_at line_at written ≡ line
  line-is = line_read s line n c h full short (omega arith) (omega (arith, m.awaited)) (omega (arith, m.count))

  awaited-is : number_at awaited_at written ≡ n
  awaited-is = awaited-read s line n c h full short (omega arith) (omega (arith, m.awaited)) (omega (arith, m.count))

  count-is : number_at count_at written ≡ c
  count-is = count-read s line n c h full short (omega arith) (omega (arith, m.awaited)) (omega (arith, m.count))

  pub written-holds : Holds written p
  written-holds =
      record {
        long = omega (arith, with-length s line n c h full short);
        text = held-read s line n c h full short (omega arith) (omega (arith, m.awaited)) (omega (arith, m.count)) ∙ e;
        line = omega (arith, line-is);
        small = record { awaited = omega (arith, awaited-is, m.awaited); count = omega (arith, count-is, m.count) };
      }

  pub written-told : (out t : List ℕ) → told_of written p out t ≡ told n c out (stretches_on line p t)
  written-told out t = rw (awaited-is, count-is, line-is)

module _ (h p u r out : List ℕ) (q : Holds h p) where
  abbrev n : ℕ
  n = number_at awaited_at h

  abbrev c : ℕ
  c = number_at count_at h

  held_more : (v : List ℕ) → stretch_with h v ≡ take held_size (p ++ v)
  held_more v = ap (λ (x : List ℕ). take held_size (x ++ v)) q.text ∙ take_again held_size p v

  step-on : (line : ℕ) → (scan_of h u).line ≡ Some line → Steps h p u r out (fed_on line h u out)
  step-on line e =
      let o : On 0 (number_at line_at h) line p u r = cut_on 0 (number_at line_at h) line p u r e in
      let k : (scan_of h u).taken ≡ length u = o.all ∙ omega arith in
      let w : taken_of h u ≡ u = take_all (scan_of h u).taken u (omega arith) in
      let l : line ≤ differs = scan-small 0 (number_at line_at h) line u q.line e in
      let f : stretch_with h (taken_of h u) ≡ take held_size (p ++ u) = held_more (taken_of h u) ∙ ap (λ (x : List ℕ). take held_size (p ++ x)) w in
      record {
        after = p ++ u;
        holds = written-holds (stretch_with h (taken_of h u)) line n c h (p ++ u) q.long f l q.small;
        goes =
            written-told (stretch_with h (taken_of h u)) line n c h (p ++ u) q.long f l q.small out (drop (scan_of h u).taken u ++ r)
            ∙ rw (k, drop-length u) (ap (told n c out) (sym o.on));
        most = omega arith;
      }

  step_end : (scan_of h u).line ≡ None → Steps h p u r out (fed_end h u out)
  unfolding told
  step_end e =
      let o : Ended 0 (number_at line_at h) p u r = cut-end 0 (number_at line_at h) p u r e in
      let j : ℕ = (scan_of h u).taken in
      let z : j - 0 ≡ j = omega arith in
      let w : Outcome = verdict_with h (take j u) out in
      let v : w ≡ verdict n c out (p ++ take j u) = ap (verdict n c out) (held_more (take j u)) ∙ verdict-held n c out (p ++ take j u) in
      let m : Small w.awaited w.count = verdict-small n c out (stretch_with h (take j u)) q.small in
      record {
        after = [];
        holds = written-holds [] 0 w.awaited w.count h [] q.long refl (omega arith) m;
        goes =
            ap (answered w.answer) (written-told [] 0 w.awaited w.count h [] q.long refl (omega arith) m w.out (drop j u ++ r))
            ∙ ap (λ (x : Outcome). answered x.answer (told x.awaited x.count x.out (stretches_on 0 [] (drop j u ++ r)))) v
            ∙ sym (ap (told n c out) (o.first ∙ ap (λ (k : ℕ). (p ++ take k u) ∷ stretches_on 0 [] (drop k u ++ r)) z));
        most = omega (arith, o.most);
      }

  pub step : Steps h p u r out (feed_step h u out)
  unfolding feed_step
  step = rw (le-ltb (length h) head_need q.long) (by (scan_of h u).line refl)
    where
      by : (t : Option ℕ) → (scan_of h u).line ≡ t → Steps h p u r out (fed_by t h u out)
      by None e = step_end e
      by (Some line) e = step-on line e

pub cut-run : (ns h p t out : List ℕ) → Holds h p → (feeds h out t ns).left ≡ [] → feeds h out t ns ≡ told_of h p out t
unfolding feeds told stretches_on
cut-run [] h p t out q e = rw e
cut-run (n ∷ ns) h p t out q e =
    let f : Left = feed_step h (take n t) out in
    let s = step h p (take n t) (drop n t) out q in
    let d : drop f.taken t ≡ drop f.taken (take n t) ++ drop n t =
    ap (drop f.taken) (sym (take-append-drop n t)) ∙ drop-append-le f.taken (take n t) (drop n t) s.most in
    ap (answered f.answer) (cut-run ns f.head s.after (drop f.taken t) f.out s.holds e)
    ∙ rw d (s.goes ∙ rw (take-append-drop n t))

module _ (h : List ℕ) (f : Fresh h) where
  split : h ≡ replicate held_at 0 ++ drop held_at h
  split = sym (take-append-drop held_at h) ∙ ap (λ (x : List ℕ). x ++ drop held_at h) f.null

  null-at : (k : ℕ) → number_at k (replicate held_at 0 ++ drop held_at h) ≡ 0 → number_at k h ≡ 0
  null-at k e = ap (number_at k) split ∙ e

  line-null : number_at line_at h ≡ 0
  unfolding read_from
  line-null = null-at line_at refl

  awaited-null : number_at awaited_at h ≡ 0
  unfolding read_from
  awaited-null = null-at awaited_at refl

  count-null : number_at count_at h ≡ 0
  unfolding read_from
  count-null = null-at count_at refl

  len-null : number_at len_at h ≡ 0
  unfolding read_from
  len-null = null-at len_at refl

  fresh_holds : Holds h []
  fresh_holds =
      let z : held_at + len_of h - held_at ≡ 0 = omega (arith, len-null) in
      record {
        long = f.long;
        text = rw z;
        line = omega (arith, line-null);
        small = record { awaited = omega (arith, awaited-null); count = omega (arith, count-null) };
      }

  -- from a fresh head with one output, a text fed in any cuts is told stretch by stretch
  pub any-cut : (ns t out : List ℕ) → (feeds h out t ns).left ≡ [] → feeds h out t ns ≡ told 0 0 out (stretches t)
  any-cut ns t out e = cut-run ns h [] t out fresh_holds e ∙ rw (awaited-null, count-null, line-null)

-- so two cuttings, each from a fresh head, give the same answers and the same output
pub same-cuts : (g h ns ms t out : List ℕ) → Fresh g → Fresh h → (feeds g out t ns).left ≡ [] → (feeds h out t ms).left ≡ [] → feeds g out t ns ≡ feeds h out t ms
same-cuts g h ns ms t out a b e f = any-cut g a ns t out e ∙ sym (any-cut h b ms t out f)
