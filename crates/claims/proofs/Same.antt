-- Same root, same bytes: packs on two stores that agree with histories, of roots that read the same, are told and leave the same.
use mathlib.Core.Path.{◌≡◌, refl, sym, ap, subst, ◌∙◌}
use Prim.Native.Nat.{ℕ, ◌≤◌, ◌<◌}
use mathlib.Core.List.{List}
use native.Mathlib.Omega.{arith}
use native.Mathlib.Decide.{dec_le}
use borrow.Author.Tests.{lt-ltb}
use lib.ListN.{length, take, length-map}
use Rattle.lists.proofs.Whole.{over-front}
use Rattle.answer.specs.declared.tally.Tally.{Tally}
use Rattle.answer.specs.declared.Overflow.{Overflow}
use Rattle.model_orders.specs.Graph.{graph_of}
use Rattle.model_orders.specs.Table.{placed, overflow}
use Rattle.model_orders.specs.Copies.{Arrangement, length_of}
use Rattle.model_orders.specs.Reading.{Reading, reading_at, readings}
use Rattle.model.specs.Judge.{Limits, verdict}
use Rattle.model.specs.Told.{Told}
use Rattle.model.specs.Session.{Session, content, arranged_in}
use Rattle.model.specs.History.{History, AllDifferent}
use Rattle.model_orders.proofs.Arrangements.{arranged-unresolved}
use Rattle.model_orders.proofs.Twins.{readings-count}
use Rattle.model_renaming.specs.Renaming.{SameEnd, tables, overflows, Different, ReadAlike}
use Rattle.model_renaming.proofs.Renaming.{all2-length}
use Rattle.model_renaming.proofs.SameReadings.{read_same}
use Rattle.layout.specs.Words.{limits_in, open_depth}
use Rattle.layout.specs.Decode.{decode}
use Rattle.work.specs.Areas.{work_need}
use Rattle.steps.specs.Runs.{Stores, pack, LentLeft, lent_step}
use Rattle.steps.proofs.Tallies.{tally-decode, count-decode, limits-decode}
use Rattle.claims.specs.Orders.{table_on, Admitted}
use Rattle.claims.specs.Demand.{Agree}
use Rattle.claims.specs.Same.{Granted, SameAnswer, packed, overflowed, SameBytes}
use Rattle.claims.proofs.Packs.{base, placed-laid, placed-count}
use Rattle.claims.proofs.Orders.{step_is, left-tests, placed-accepted, overflow-told}

-- ---- one pack, by how its look for an order ends

record Packed (t : List ℕ) (made many : ℕ) (l : LentLeft) : Type 0 where
  accepted : l.told.number ≡ 0
  long : l.told.length ≡ length t
  copies : l.told.copies ≡ made
  placed : l.told.placed ≡ many
  bytes : take l.told.length l.out ≡ t

module _ (s : Stores) (id copies : ℕ) (out work : List ℕ) where
  abbrev b : List ℕ
  b = s.bytes

  abbrev w : List ℕ
  w = s.words

  abbrev c : Arrangement
  c = arranged_in (decode b w) id copies

  abbrev left : LentLeft
  left = lent_step (pack id copies out work) s

  placed-packed : Admitted b w id copies out work → {o : List ℕ} → c.outcome ≡ placed o → (left.told.number ≡ 10 → ⊥)
      → Packed (table_on b w id copies out work c.grown o) (length c.grown.copies) (length o) left
  unfolding lent_step verdict
  placed-packed t {o} f n = go (dec_le (length_of c) (length out))
    where
      go : Dec (length_of c ≤ length out) → Packed (table_on b w id copies out work c.grown o) (length c.grown.copies) (length o) left
      go (yes m) =
          let known : id < length (decode b w).closed = omega (arith, t.known, count-decode b w) in
          let long = (placed-laid b w t.is_sound id copies known f).sum in
          let count = placed-count b w t.is_sound id copies known f in
          rw (step_is b w id copies out work, f, placed-accepted b w id copies out work o t m)
          record { accepted = refl; long = sym long; copies = refl; placed = sym count; bytes = rw (← long) (over-front _ out) }
      go (no m) = absurd (n (rw (step_is b w id copies out work, f, left-tests b w id copies out work (placed o) t, lt-ltb (length out) (length_of c) (omega (arith, m)))))

  overflow-packed : Admitted b w id copies out work → {u : Overflow} → c.outcome ≡ overflow u → (left.told.number ≡ 11) × (left.told.overflow ≡ u)
  overflow-packed t {u} f =
      let e = overflow-told b w id copies out work u (record { admitted = t; unfits = arranged-unresolved copies (graph_of (decode b w).closed) (length (decode b w).closed) id f }) in
      (ap (λ (x : Told). x.number) e, ap (λ (x : Told). x.overflow) e)

-- ---- stores that agree with a history

module _ {bytes words : ℕ} {s : Stores} {h : History} (k : Agree bytes words s h) where
  abbrev held : Session
  held = decode s.bytes s.words

  abbrev ρ : ℕ → Reading
  ρ i = reading_at (readings held.closed) i

  same-reading : (i : ℕ) → ρ i ≡ reading_at h.closed i
  same-reading i = ap (λ (x : History). reading_at x.closed i) k.objects

  same_count : length held.closed ≡ length h.closed
  same_count = sym (readings-count held.closed) ∙ ap (λ (x : History). length x.closed) k.objects

  same-limits : limits_in s.words ≡ h.limits
  same-limits = limits-decode s.bytes s.words ∙ ap (λ (x : History). x.limits) k.objects

  same-depth : open_depth s.words ≡ length h.opens
  same-depth =
      ap (λ (t : Tally). t.depth) (tally-decode s.bytes s.words k.is_sound)
      ∙ sym (length-map held.opens _)
      ∙ ap (λ (x : History). length x.opens) k.objects

  different : Different ρ (length held.closed)
  unfolding Different AllDifferent
  different i j a b e =
      let n = same_count in
      k.apart i j (omega arith) (omega arith) (sym (same-reading i) ∙ e ∙ same-reading j)

  admitted : {id copies : ℕ} (out : List ℕ) {work : List ℕ} {l : LentLeft} → Granted h id copies work l → Admitted s.bytes s.words id copies out work
  admitted {copies = copies} out {work} g =
      record {
        is_sound = k.is_sound;
        few = g.few;
        memory = subst (λ (m : Limits). work_need m.objects m.links copies ≤ length work) (sym same-limits) g.memory;
        none_open = same-depth ∙ ap length g.none_open;
        known = omega (arith, g.root, same_count, count-decode s.bytes s.words);
      }

-- packs of roots that read the same
module _ {bytes words bytes' words' : ℕ} {s s' : Stores} {h h' : History} (k : Agree bytes words s h) (k' : Agree bytes' words' s' h') where
  pub agree_same : (id id' copies : ℕ) (out out' work work' : List ℕ)
      → SameBytes h h' id id' copies work work' (lent_step (pack id copies out work) s) (lent_step (pack id' copies out' work') s')
  agree_same id id' copies out out' work work' g g' e =
      go (read_same (base s.bytes s.words k.is_sound id copies) (base s'.bytes s'.words k'.is_sound id' copies) (different k) (different k')
      (record { read = same-reading k id ∙ e ∙ sym (same-reading k' id'); low = omega (arith, g.root, same_count k); low' = omega (arith, g'.root, same_count k') }) copies)
    where
      go : SameEnd (ReadAlike (ρ k) (ρ k') (length (held k).closed) (length (held k').closed)) (content (held k)) (content (held k')) (arranged_in (held k) id copies) (arranged_in (held k') id' copies)
          → SameAnswer h h' (lent_step (pack id copies out work) s) (lent_step (pack id' copies out' work') s')
      go (tables f f' t m n) =
          let p = placed-packed s id copies out work (admitted k out g) f g.room in
          let q = placed-packed s' id' copies out' work' (admitted k' out' g') f' g'.room in
          packed record {
            accepted = p.accepted;
            accepted' = q.accepted;
            lengths = p.long ∙ ap length t ∙ sym q.long;
            copies = p.copies ∙ all2-length n ∙ sym q.copies;
            placed = p.placed ∙ m ∙ sym q.placed;
            bytes = p.bytes ∙ t ∙ sym q.bytes;
          }
      go (overflows {u = u} {v = v} f f' t n) =
          let p = overflow-packed s id copies out work (admitted k out g) f in
          let q = overflow-packed s' id' copies out' work' (admitted k' out' g') f' in
          overflowed record {
            told = p.0;
            told' = q.0;
            field = ap (λ (x : Overflow). x.field) p.1 ∙ t.field ∙ ap (λ (x : Overflow). x.field) (sym q.1);
            needed = ap (λ (x : Overflow). x.needed) p.1 ∙ t.needed ∙ ap (λ (x : Overflow). x.needed) (sym q.1);
            parent =
                ap (λ (x : Overflow). reading_at h.closed x.parent.0) p.1
                ∙ sym (same-reading k u.parent.0)
                ∙ t.parent.read
                ∙ same-reading k' v.parent.0
                ∙ ap (λ (x : Overflow). reading_at h'.closed x.parent.0) (sym q.1);
          }
