-- A table that is read, as it stands or in a mode, and packed is read again by the same ops and with the same reading.
use mathlib.Core.Path.{◌≡◌, sym, ap, ◌∙◌}
use Prim.Native.Nat.{ℕ, ◌<◌}
use mathlib.Core.List.{List}
use native.Mathlib.Omega.{arith}
use lib.ListN.{length, take}
use Rattle.lists.proofs.Whole.{over-front}
use Rattle.model_orders.specs.Reading.{Reading, reading_at, readings, Shows, Wide, Apart}
use Rattle.model_orders.proofs.Arrangements.{chosen-reads}
use Rattle.model.specs.Judge.{Limits}
use Rattle.model.specs.Session.{Needs}
use Rattle.model.specs.History.{History, history_of, begun}
use Rattle.model.specs.Told.{Told}
use Rattle.model.proofs.Closings.{known-equal}
use Rattle.layout.specs.Decode.{decode}
use Rattle.steps.specs.Steps.{limits_of}
use Rattle.steps.specs.Runs.{Stores, pack, lent_step, needs_with}
use Rattle.steps.specs.Mirrored.{by_history}
use Rattle.steps.proofs.Tallies.{count-decode}
use Rattle.claims.specs.Orders.{graph_in, table_on, Ordered}
use Rattle.claims.proofs.Packs.{base}
use Rattle.claims.proofs.Orders.{accepted-ordered}
use Rattle.gsub.specs.declared.Scope.{Scope}
use Rattle.gsub.specs.declared.Kind.TheVariants.{Header}
use Rattle.gsub.specs.declared.Mode.{Mode}
use Rattle.gsub.specs.Ops.{Op, table_ops, perform}
use Rattle.gsub.specs.Meaning.{deepest, gsub_reading}
use Rattle.gsub.specs.Promote.{mode_ops, mode_reading}
use Rattle.gsub.proofs.Accepted.{ReadsAs, mode-reads, table-reads}
use Rattle.gsub.proofs.Again.{Clean}
use Rattle.gsub.proofs.Round.{clean-done, Again, mode-read-again, read_again}
use Rattle.gsub_read.specs.Read.{ops_step}
use Rattle.gsub_read.proofs.Listed.{AcceptedRead, accepted-reads}
use Rattle.gsub_promote.specs.Search.{table_in}

-- ---- an accepted pack's table shows the root's reading, and no offset in it is 0

module _ (s : Stores) (id copies : ℕ) (out work : List ℕ) (z : (lent_step (pack id copies out work) s).told.number ≡ 0) where
  abbrev root_reading : Reading
  root_reading = reading_at (readings (decode s.bytes s.words).closed) id

  abbrev packed : List ℕ
  packed = table_in (lent_step (pack id copies out work) s)

  ordered : Ordered s.bytes s.words id copies out work
  ordered = accepted-ordered s.bytes s.words id copies out work z

  record ShownApart : Type 0 where
    shown : Shows packed 0 root_reading
    apart : Wide root_reading → Apart packed 0 root_reading

  shown-apart : ShownApart
  shown-apart =
      let o = ordered in
      let t = table_on s.bytes s.words id copies out work o.grown o.order in
      let known : id < length (decode s.bytes s.words).closed = omega (arith, o.admitted.known, count-decode s.bytes s.words) in
      let own = (chosen-reads copies (graph_in s.bytes s.words id copies out work) _ id (base s.bytes s.words o.admitted.is_sound id copies) known o.chosen).grew.root-own in
      let front : packed ≡ t = ap (λ (x : Told). take x.length (lent_step (pack id copies out work) s).out) o.told ∙ ap (take (length t)) o.written ∙ over-front t out in
      record { shown = rw front (rw own at o.laid.shown); apart = rw front (rw own at o.laid.apart) }

-- ---- ops that write a table which reads r, and is read again so

pub record Readable (scope : Scope) (ops : List Op) (r : Reading) : Type 0 where
  pub reads : (n : Needs) (bytes words : ℕ) → ReadsAs n bytes words ops r
  pub again : (n : Needs) (bytes words : ℕ) (h : History) (t : List ℕ) → (perform (by_history n bytes words) ops 0 h).number ≡ 0 → Shows t 0 r → (Wide r → Apart t 0 r) → Again scope n bytes words h ops r t

pub in-mode : (scope : Scope) (m : Mode) (b : List ℕ) → Readable scope (mode_ops deepest b m (Header scope) 0) (mode_reading deepest b m (Header scope) 0)
in-mode scope m b = record { reads = λ n bytes words. mode-reads n bytes words deepest b m (Header scope) 0; again = λ n bytes words h. mode-read-again scope n bytes words h m b }

pub as-it-stands : (scope : Scope) (b : List ℕ) → Readable scope (table_ops deepest b (Header scope) 0) (gsub_reading scope b)
as-it-stands scope b = record { reads = λ n bytes words. table-reads n bytes words deepest b (Header scope) 0; again = λ n bytes words h. read_again scope n bytes words h b }

-- ---- an accepted read by such ops

module _ {scope : Scope} {ops : List Op} {reading : Reading} (f : Readable scope ops reading) (objects links : ℕ) (s : Stores) (accepted : (ops_step ops objects links s).told.number ≡ 0) where
  abbrev after : Stores
  after = (ops_step ops objects links s).stores

  abbrev root : ℕ
  root = (ops_step ops objects links s).told.id

  abbrev no_work : Limits → ℕ → ℕ
  no_work m copies = 0

  held : AcceptedRead ops objects links s no_work reading
  held = accepted-reads ops objects links s no_work reading (f.reads (needs_with no_work) (length s.bytes) (length s.words)) accepted

  -- the root reads so
  pub root-reads : reading_at (readings (decode after.bytes after.words).closed) root ≡ reading
  root-reads =
      let r = held in
      let e = ap history_of r.stands.drawn.holds ∙ r.stands.mirrors.read in
      ap (λ (h : History). reading_at h.closed root) e ∙ sym (known-equal r.known)

  pub clean : Clean ops
  clean = clean-done (by_history (needs_with no_work) (length s.bytes) (length s.words)) ops 0 _ held.done-too

  -- of the table that an accepted pack of the root left
  pub packed-again : (copies : ℕ) (out work : List ℕ) → let l = lent_step (pack root copies out work) after in l.told.number ≡ 0
      → Again scope (needs_with no_work) (length s.bytes) (length s.words) (begun (limits_of objects links s.bytes)) ops reading (table_in l)
  packed-again copies out work z =
      let k = shown-apart after root copies out work z in
      f.again (needs_with no_work) (length s.bytes) (length s.words) (begun (limits_of objects links s.bytes)) (table_in (lent_step (pack root copies out work) after)) held.done-too (rw root-reads at k.shown) (rw root-reads at k.apart)
