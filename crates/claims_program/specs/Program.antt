-- docs/RULES.md, 8.1: a call of one of the eight public functions, of which only its own contract is known.
use Rattle.model.specs.Told.{told_by, told_by_close, told_by_pack}
use Rattle.steps.specs.Runs.{start, open', put, link, close, drop, tally, Stores, stores, left, pack, pack_left}
use Rattle.claims.specs.Demand.{Made}
use Rattle.session_start.proofs.start.Kinds as start-kinds
use Rattle.session_start.proofs.start.Reads as start-reads
use Rattle.session.proofs.open.Kinds as open-kinds
use Rattle.session.proofs.open.Reads as open-reads
use Rattle.session.proofs.put.Kinds as put-kinds
use Rattle.session.proofs.put.Reads as put_reads
use Rattle.session.proofs.link.Kinds as link-kinds
use Rattle.session.proofs.link.Reads as link-reads
use Rattle.session.proofs.close.Kinds as close-kinds
use Rattle.session.proofs.close.Reads as close-reads
use Rattle.session.proofs.drop.Kinds as drop-kinds
use Rattle.session.proofs.drop.Reads as drop-reads
use Rattle.session.proofs.tally.Kinds as tally-kinds
use Rattle.session.proofs.tally.Reads as tally-reads
use Rattle.pack.proofs.pack.Kinds as pack-kinds
use Rattle.pack.proofs.pack.Reads as pack-reads
use Rattle.claims_program.specs.Chain.{Returned, made}

-- on these stores; a store that a function cannot write is left as it was
pub data Called : Stores → Made → Type 0 where
  by-start : (f : Returned 2 start-kinds.ps start-kinds.r start-reads.Post)
      → Called (stores f.args.0.now f.args.1.0.now) (made (start f.args.1.1.0 f.args.1.1.1.0) (left (told_by f.result) f.exit.0.now f.exit.1.0.now))
  by-open : (f : Returned 2 open-kinds.ps open-kinds.r open-reads.Post)
      → Called (stores f.args.0.now f.args.1.0.now) (made open' (left (told_by f.result) f.args.0.now f.exit.1.0.now))
  by-put : (f : Returned 3 put-kinds.ps put-kinds.r put_reads.Post)
      → Called (stores f.args.0.now f.args.1.0.now) (made (put f.args.1.1.0.now) (left (told_by f.result) f.exit.0.now f.exit.1.0.now))
  by-link : (f : Returned 2 link-kinds.ps link-kinds.r link-reads.Post)
      → Called (stores f.args.0.now f.args.1.0.now) (made (link f.args.1.1.0 f.args.1.1.1.0.0 f.args.1.1.1.1.0) (left (told_by f.result) f.args.0.now f.exit.1.0.now))
  by-close : (f : Returned 2 close-kinds.ps close-kinds.r close-reads.Post)
      → Called (stores f.args.0.now f.args.1.0.now) (made close (left (told_by_close f.result) f.exit.0.now f.exit.1.0.now))
  by-drop : (f : Returned 2 drop-kinds.ps drop-kinds.r drop-reads.Post)
      → Called (stores f.args.0.now f.args.1.0.now) (made drop (left (told_by f.result) f.exit.0.now f.exit.1.0.now))
  by-tally : (f : Returned 2 tally-kinds.ps tally-kinds.r tally-reads.Post)
      → Called (stores f.args.0.now f.args.1.0.now) (made tally (left (told_by f.result) f.args.0.now f.args.1.0.now))
  by-pack : (f : Returned 4 pack-kinds.ps pack-kinds.r pack-reads.Post)
      → Called (stores f.args.0.now f.args.1.0.now)
      (record {
        call = pack f.args.1.1.0.0 f.args.1.1.1.0 f.args.1.1.1.1.0.now f.args.1.1.1.1.1.0.now;
        left = pack_left (told_by_pack f.result) (stores f.args.0.now f.args.1.0.now) f.exit.1.1.1.1.0.now f.exit.1.1.1.1.1.0.now;
      })
