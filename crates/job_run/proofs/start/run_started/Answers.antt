-- A start, the lines behind it, and the end.
use mathlib.Core.Path.{◌≡◌, refl, ap}
use borrow.Author.Rules.{rules}
use Rattle.std.specs.Prelude.{Ok, IsErr}
use Rattle.model.specs.Told.{told_by}
use Rattle.job_rules.specs.Job.{refused}
use Rattle.job_header.specs.Header.{links_line}
use Rattle.job_run.proofs.Whole.{store-fits, store-long, words-fit, started-within, refused-there, finishing, finished-there}
use Rattle.job_run.proofs.Starting.{not_started, start-stops, start-goes}
use Rattle.job_run.proofs.start.run_started.Goals as goal

pub slice_bounds-store-end : goal.slice_bounds-store-end
slice_bounds-store-end c = store-fits c.requires

pub slice_bounds-store-end-2 : goal.slice_bounds-store-end-2
slice_bounds-store-end-2 c = store-long c.requires

pub returns-in_err-map_err : goal.returns-in_err-map_err
returns-in_err-map_err c =
    let k = c.requires in
    let n = (told_by c.start.result).number in
    let v : IsErr c.start.result = search rules in
    let e : c.from_residual.result ≡ refused (told_by c.start.result).number links_line = search rules in
    rw e (refused-there k _ n (start-stops _ _ _ _ (words-fit k) (started-within k) c.start.ensures (not_started _ v)))

pub run_pieces-halt-requires : goal.run_pieces-halt-requires
run_pieces-halt-requires c =
    let k = c.requires in
    let e : c.start.result ≡ Ok c.in_ok-map_err.field-0 = search rules in
    let s = start-goes _ _ _ _ (words-fit k) (started-within k) c.start.ensures (ap (λ x. (told_by x).number) e) in
    (s.is_sound, k.0.short, k.0.inside, k.1.known, k.1.room)

pub finish-requires : goal.finish-requires
finish-requires c =
    let k = c.requires in
    let e : c.start.result ≡ Ok c.in_ok-map_err.field-0 = search rules in
    let s = start-goes _ _ _ _ (words-fit k) (started-within k) c.start.ensures (ap (λ x. (told_by x).number) e) in
    finishing k s c.run_pieces-halt.ensures refl

pub returns : goal.returns
returns c =
    let k = c.requires in
    let e : c.start.result ≡ Ok c.in_ok-map_err.field-0 = search rules in
    let s = start-goes _ _ _ _ (words-fit k) (started-within k) c.start.ensures (ap (λ x. (told_by x).number) e) in
    finished-there k s c.run_pieces-halt.ensures c.finish.ensures
