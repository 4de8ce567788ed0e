-- docs/RULES.md, 8.1, 11.8, 14.6 and 15.8: one of the eight calls, a read, a batch or a promotion by its public function, and by its C function, of which only the contract is known.
use Rattle.std.specs.Prelude.{ℕ, List}
use Rattle.steps.specs.Runs.{Stores, stores}
use Rattle.claims.specs.Demand.{Made}
use Rattle.claims_program.specs.Chain.{Returned}
use Rattle.claims_program.specs.Program.{Called}
use Rattle.claims_program.specs.FromC.{CalledC}
use Rattle.capi_answer.specs.Numbers.{told_in_read}
use Rattle.capi_answer.specs.Batch.{told_in_batch}
use Rattle.capi_answer.specs.Promote.{told_in_promote}
use Rattle.gsub.specs.declared.Scope.{Scope}
use Rattle.gsub.specs.declared.Scope.TheVariants.{Single, Whole}
use Rattle.gsub_read.specs.Read.{ReadLeft, told_by_read, read_left}
use Rattle.gsub_promote.specs.Search.{PromoteLeft, promote_left}
use Rattle.gsub_promote.specs.Tried.{told_by_promote}
use Rattle.session_batch.specs.Batch.{batch_left}
use Rattle.batch.specs.Batch.{told_by_batch}
use Rattle.gsub_read.proofs.read_gsub.Kinds as read-kinds
use Rattle.gsub_read.proofs.read_gsub.Reads as read-reads
use Rattle.gsub_read.proofs.read_gsub_whole.Kinds as read-whole-kinds
use Rattle.gsub_read.proofs.read_gsub_whole.Reads as read-whole-reads
use Rattle.batch.proofs.batch.Kinds as batch-kinds
use Rattle.batch.proofs.batch.Reads as batch-reads
use Rattle.gsub_promote.proofs.promote_gsub.Kinds as promote-kinds
use Rattle.gsub_promote.proofs.promote_gsub.Reads as promote-reads
use Rattle.gsub_promote.proofs.promote_gsub_whole.Kinds as promote-whole-kinds
use Rattle.gsub_promote.proofs.promote_gsub_whole.Reads as promote-whole-reads
use Rattle.capi.proofs.scoterlime_read_gsub.Kinds as c-read-kinds
use Rattle.capi.proofs.scoterlime_read_gsub.Reads as c-read-reads
use Rattle.capi.proofs.scoterlime_read_gsub_whole.Kinds as c-read-whole-kinds
use Rattle.capi.proofs.scoterlime_read_gsub_whole.Reads as c-read-whole-reads
use Rattle.capi.proofs.scoterlime_batch.Kinds as c-batch-kinds
use Rattle.capi.proofs.scoterlime_batch.Reads as c-batch-reads
use Rattle.capi.proofs.scoterlime_promote_gsub.Kinds as c-promote-kinds
use Rattle.capi.proofs.scoterlime_promote_gsub.Reads as c-promote-reads
use Rattle.capi.proofs.scoterlime_promote_gsub_whole.Kinds as c-promote-whole-kinds
use Rattle.capi.proofs.scoterlime_promote_gsub_whole.Reads as c-promote-whole-reads
use Rattle.claims_lists.specs.Lists.{AnyMade, call, read, batch, promote}

abbrev read_made : Scope → List ℕ → ℕ → ℕ → ReadLeft → AnyMade
read_made scope b objects links l = read (record { scope = scope; table = b; objects = objects; links = links; left = l })

abbrev promote_made : Scope → List ℕ → ℕ → ℕ → List ℕ → List ℕ → PromoteLeft → AnyMade
promote_made scope b objects links out work l = promote (record { scope = scope; table = b; objects = objects; links = links; out = out; work = work; left = l })

-- on these stores
pub data MadeOn : Stores → AnyMade → Type 0 where
  by_call : {s : Stores} {m : Made} → Called s m → MadeOn s (call m)
  by_read : (f : Returned 3 read-kinds.ps read-kinds.r read-reads.Post)
      → MadeOn (stores f.args.0.now f.args.1.0.now)
      (read_made Single f.args.1.1.1.1.0.now f.args.1.1.0 f.args.1.1.1.0 (read_left (told_by_read f.result) f.exit.0.now f.exit.1.0.now))
  by-read-whole : (f : Returned 3 read-whole-kinds.ps read-whole-kinds.r read-whole-reads.Post)
      → MadeOn (stores f.args.0.now f.args.1.0.now)
      (read_made Whole f.args.1.1.1.1.0.now f.args.1.1.0 f.args.1.1.1.0 (read_left (told_by_read f.result) f.exit.0.now f.exit.1.0.now))
  by-batch : (f : Returned 6 batch-kinds.ps batch-kinds.r batch-reads.Post)
      → MadeOn (stores f.args.0.now f.args.1.0.now)
      (batch
      (record {
        calls = f.args.1.1.0.now;
        bytes = f.args.1.1.1.0.now;
        ids = f.args.1.1.1.1.0.now;
        work = f.args.1.1.1.1.1.0.now;
        left = batch_left (told_by_batch f.result) f.exit.0.now f.exit.1.0.now f.exit.1.1.1.1.0.now f.exit.1.1.1.1.1.0.now;
      }))
  by-promote : (f : Returned 5 promote-kinds.ps promote-kinds.r promote-reads.Post)
      → MadeOn (stores f.args.0.now f.args.1.0.now)
      (promote_made Single f.args.1.1.1.1.0.now f.args.1.1.0 f.args.1.1.1.0 f.args.1.1.1.1.1.0.now f.args.1.1.1.1.1.1.0.now
      (promote_left (told_by_promote f.result) (stores f.exit.0.now f.exit.1.0.now) f.exit.1.1.1.1.1.0.now f.exit.1.1.1.1.1.1.0.now))
  by-promote-whole : (f : Returned 5 promote-whole-kinds.ps promote-whole-kinds.r promote-whole-reads.Post)
      → MadeOn (stores f.args.0.now f.args.1.0.now)
      (promote_made Whole f.args.1.1.1.1.0.now f.args.1.1.0 f.args.1.1.1.0 f.args.1.1.1.1.1.0.now f.args.1.1.1.1.1.1.0.now
      (promote_left (told_by_promote f.result) (stores f.exit.0.now f.exit.1.0.now) f.exit.1.1.1.1.1.0.now f.exit.1.1.1.1.1.1.0.now))

pub data MadeOnC : Stores → AnyMade → Type 0 where
  c_call : {s : Stores} {m : Made} → CalledC s m → MadeOnC s (call m)
  c_read : (f : Returned 3 c-read-kinds.ps c-read-kinds.r c-read-reads.Post)
      → MadeOnC (stores f.args.0.now f.args.1.0.now)
      (read_made Single f.args.1.1.1.1.0.now f.args.1.1.0 f.args.1.1.1.0 (read_left (told_in_read f.result) f.exit.0.now f.exit.1.0.now))
  c-read-whole : (f : Returned 3 c-read-whole-kinds.ps c-read-whole-kinds.r c-read-whole-reads.Post)
      → MadeOnC (stores f.args.0.now f.args.1.0.now)
      (read_made Whole f.args.1.1.1.1.0.now f.args.1.1.0 f.args.1.1.1.0 (read_left (told_in_read f.result) f.exit.0.now f.exit.1.0.now))
  c-batch : (f : Returned 6 c-batch-kinds.ps c-batch-kinds.r c-batch-reads.Post)
      → MadeOnC (stores f.args.0.now f.args.1.0.now)
      (batch
      (record {
        calls = f.args.1.1.0.now;
        bytes = f.args.1.1.1.0.now;
        ids = f.args.1.1.1.1.0.now;
        work = f.args.1.1.1.1.1.0.now;
        left = batch_left (told_in_batch f.result) f.exit.0.now f.exit.1.0.now f.exit.1.1.1.1.0.now f.exit.1.1.1.1.1.0.now;
      }))
  c-promote : (f : Returned 5 c-promote-kinds.ps c-promote-kinds.r c-promote-reads.Post)
      → MadeOnC (stores f.args.0.now f.args.1.0.now)
      (promote_made Single f.args.1.1.1.1.0.now f.args.1.1.0 f.args.1.1.1.0 f.args.1.1.1.1.1.0.now f.args.1.1.1.1.1.1.0.now
      (promote_left (told_in_promote f.result) (stores f.exit.0.now f.exit.1.0.now) f.exit.1.1.1.1.1.0.now f.exit.1.1.1.1.1.1.0.now))
  c-promote-whole : (f : Returned 5 c-promote-whole-kinds.ps c-promote-whole-kinds.r c-promote-whole-reads.Post)
      → MadeOnC (stores f.args.0.now f.args.1.0.now)
      (promote_made Whole f.args.1.1.1.1.0.now f.args.1.1.0 f.args.1.1.1.0 f.args.1.1.1.1.1.0.now f.args.1.1.1.1.1.1.0.now
      (promote_left (told_in_promote f.result) (stores f.exit.0.now f.exit.1.0.now) f.exit.1.1.1.1.1.0.now f.exit.1.1.1.1.1.1.0.now))
