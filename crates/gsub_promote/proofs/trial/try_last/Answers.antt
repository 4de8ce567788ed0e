-- The read is refused; or the pack is made.
use Rattle.std.specs.Prelude.{Ok, Err}
use Rattle.std.proofs.lemmas.Result.{err_from_is_err_and}
use Rattle.gsub_rows.specs.Fields.{Fits}
use Rattle.steps.specs.Runs.{stores}
use Rattle.gsub_promote.specs.Search.{lent}
use Rattle.gsub_promote.proofs.Trying.{tried-unread, read-sound, tried-packed}
use Rattle.gsub_promote.proofs.trial.try_last.Goals as goal

pub read_in-requires : goal.read_in-requires
unfolding Fits
read_in-requires c = tt

pub returns-in_err-read : goal.returns-in_err-read
returns-in_err-read c =
    let a = c.args in
    let p = err_from_is_err_and c.from_residual.result c.from_residual.ensures.1 in
    rw (p.1, p.2) (tried-unread _ a.table.now _ _ _ (lent (stores a.store.now a.records.now) a.out.now a.work.now) _ c.in_err-read.ensures)

pub pack_sound-requires : goal.pack_sound-requires
pack_sound-requires c =
    let a = c.args in
    read-sound _ a.table.now _ _ _ (lent (stores a.store.now a.records.now) a.out.now a.work.now) c.in_ok-read.ensures

pub returns-in-Ok : goal.returns-in-Ok
returns-in-Ok c =
    let a = c.args in
    tried-packed _ a.table.now _ _ _ (lent (stores a.store.now a.records.now) a.out.now a.work.now) c.in_ok-read.ensures (Ok _) c.in-Ok.ensures

pub returns-in-Err : goal.returns-in-Err
returns-in-Err c =
    let a = c.args in
    tried-packed _ a.table.now _ _ _ (lent (stores a.store.now a.records.now) a.out.now a.work.now) c.in_ok-read.ensures (Err _) c.in-Err.ensures
