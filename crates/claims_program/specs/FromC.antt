-- docs/RULES.md, 8.1: a call of one of the eight C functions, of which only its own contract is known.
use Rattle.capi_answer.specs.Numbers.{told_in}
use Rattle.steps.specs.Runs.{start, open', put, link, close, drop, tally, Stores, stores, left, pack, pack_left}
use Rattle.claims.specs.Demand.{Made}
use Rattle.capi.proofs.scoterlime_start.Kinds as start-kinds
use Rattle.capi.proofs.scoterlime_start.Reads as start-reads
use Rattle.capi.proofs.scoterlime_open.Kinds as open-kinds
use Rattle.capi.proofs.scoterlime_open.Reads as open-reads
use Rattle.capi.proofs.scoterlime_put.Kinds as put-kinds
use Rattle.capi.proofs.scoterlime_put.Reads as put_reads
use Rattle.capi.proofs.scoterlime_link.Kinds as link-kinds
use Rattle.capi.proofs.scoterlime_link.Reads as link-reads
use Rattle.capi.proofs.scoterlime_close.Kinds as close-kinds
use Rattle.capi.proofs.scoterlime_close.Reads as close-reads
use Rattle.capi.proofs.scoterlime_drop.Kinds as drop-kinds
use Rattle.capi.proofs.scoterlime_drop.Reads as drop-reads
use Rattle.capi.proofs.scoterlime_tally.Kinds as tally-kinds
use Rattle.capi.proofs.scoterlime_tally.Reads as tally-reads
use Rattle.capi.proofs.scoterlime_pack.Kinds as pack-kinds
use Rattle.capi.proofs.scoterlime_pack.Reads as pack-reads
use Rattle.claims_program.specs.Chain.{Returned, made}

-- on these stores; a store that a function cannot write is left as it was
pub data CalledC : Stores → Made → Type 0 where
  c-start : (f : Returned 2 start-kinds.ps start-kinds.r start-reads.Post)
      → CalledC (stores f.args.0.now f.args.1.0.now) (made (start f.args.1.1.0 f.args.1.1.1.0) (left (told_in f.result) f.exit.0.now f.exit.1.0.now))
  c-open : (f : Returned 2 open-kinds.ps open-kinds.r open-reads.Post)
      → CalledC (stores f.args.0.now f.args.1.0.now) (made open' (left (told_in f.result) f.exit.0.now f.exit.1.0.now))
  c-put : (f : Returned 3 put-kinds.ps put-kinds.r put_reads.Post)
      → CalledC (stores f.args.0.now f.args.1.0.now) (made (put f.args.1.1.0.now) (left (told_in f.result) f.exit.0.now f.exit.1.0.now))
  c-link : (f : Returned 2 link-kinds.ps link-kinds.r link-reads.Post)
      → CalledC (stores f.args.0.now f.args.1.0.now) (made (link f.args.1.1.0 f.args.1.1.1.0 f.args.1.1.1.1.0) (left (told_in f.result) f.exit.0.now f.exit.1.0.now))
  c-close : (f : Returned 2 close-kinds.ps close-kinds.r close-reads.Post)
      → CalledC (stores f.args.0.now f.args.1.0.now) (made close (left (told_in f.result) f.exit.0.now f.exit.1.0.now))
  c-drop : (f : Returned 2 drop-kinds.ps drop-kinds.r drop-reads.Post)
      → CalledC (stores f.args.0.now f.args.1.0.now) (made drop (left (told_in f.result) f.exit.0.now f.exit.1.0.now))
  c-tally : (f : Returned 2 tally-kinds.ps tally-kinds.r tally-reads.Post)
      → CalledC (stores f.args.0.now f.args.1.0.now) (made tally (left (told_in f.result) f.args.0.now f.args.1.0.now))
  c-pack : (f : Returned 4 pack-kinds.ps pack-kinds.r pack-reads.Post)
      → CalledC (stores f.args.0.now f.args.1.0.now)
      (record {
        call = pack f.args.1.1.0 f.args.1.1.1.0 f.args.1.1.1.1.0.now f.args.1.1.1.1.1.0.now;
        left = pack_left (told_in f.result) (stores f.args.0.now f.args.1.0.now) f.exit.1.1.1.1.0.now f.exit.1.1.1.1.1.0.now;
      })
