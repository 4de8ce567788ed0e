-- A table that is read, packed and read again is read as before.
use mathlib.Core.Path.{◌≡◌, sym, ap, ◌∙◌}
use Prim.Native.Nat.{ℕ}
use mathlib.Core.List.{List}
use Rattle.model_orders.specs.Reading.{Reading, reading_at, readings}
use Rattle.layout.specs.Decode.{decode}
use Rattle.steps.specs.Runs.{Stores, pack, lent_step}
use Rattle.gsub.specs.declared.Scope.{Scope}
use Rattle.gsub.specs.Meaning.{gsub_reading}
use Rattle.gsub.specs.Substitute.{substitute}
use Rattle.gsub.proofs.Again.{Clean}
use Rattle.gsub.proofs.Substitutes.{substitute-read}
use Rattle.gsub_read.specs.Read.{ReadTold, ReadLeft, ops_step, read_step, gsub_ops}
use Rattle.gsub_read.proofs.Listed.{same-told}
use Rattle.gsub_promote.specs.Search.{table_in}
use Rattle.gsub_promote.proofs.Shown.{as-it-stands}
use Rattle.gsub_promote.proofs.Shown as shown
use Rattle.gsub_claims.specs.Again.{SameAgain}

module _ (scope : Scope) (b : List ℕ) (objects links : ℕ) (s : Stores) (accepted : (read_step scope b objects links s).told.number ≡ 0) where
  abbrev after : Stores
  after = (read_step scope b objects links s).stores

  abbrev root : ℕ
  root = (read_step scope b objects links s).told.id

  -- the root reads as the table
  pub root-reads : reading_at (readings (decode after.bytes after.words).closed) root ≡ gsub_reading scope b
  root-reads = shown.root-reads (as-it-stands scope b) objects links s accepted

  clean : Clean (gsub_ops scope b)
  clean = shown.clean (as-it-stands scope b) objects links s accepted

  -- t is the table that an accepted pack of the root left
  pub packed-again : (copies : ℕ) (out work : List ℕ) → let l = lent_step (pack root copies out work) after in l.told.number ≡ 0 → SameAgain scope b (table_in l) objects links s
  packed-again copies out work z =
      let a = shown.packed-again (as-it-stands scope b) objects links s accepted copies out work z in
      let t = table_in (lent_step (pack root copies out work) after) in
      let same : (r : Stores) → read_step scope t objects links r ≡ read_step scope b objects links r = λ r. ap (λ ops. ops_step ops objects links r) a.ops-same in
      record {
        accepted = λ r e f. ap (λ (x : ReadLeft). x.told.number) (same r) ∙ ap (λ (x : ReadTold). x.number) (same-told (gsub_ops scope b) objects links r s e f) ∙ accepted;
        read = same;
        reading = a.reading;
        substitutes = λ l g.
            substitute-read scope t (rw a.ops-same clean) l g ∙ ap (λ (r : Reading). substitute r l g) a.reading ∙ sym (substitute-read scope b clean l g);
      }
