-- By what the last line led to.
use mathlib.Core.Path.{◌≡◌, ap}
use borrow.Author.Rules.{rules}
use Rattle.std.specs.Prelude.{Ok}
use Rattle.job_calls.specs.Leads.{is_on}
use Rattle.job_calls.specs.declared.line.Lead.TheVariants as Lead
use Rattle.job_finish.proofs.Ending.{finish-on, finish-stop, finish-packs}
use Rattle.job_finish.proofs.finish.Goals as goal

pub returns-in-Ok-On : goal.returns-in-Ok-On
returns-in-Ok-On c =
    let e : c.args.halt.lead ≡ Ok (Lead.On c.in-Ok-On.field-0-0) = search rules in
    rw c.into.ensures (finish-on c.args.text.now _ _ _ _ e (c.requires.over (ap is_on e)))

pub returns-in-Ok-Packs : goal.returns-in-Ok-Packs
returns-in-Ok-Packs c =
    let e : c.args.halt.lead ≡ Ok (Lead.Packs c.in-Ok-Packs.root) = search rules in
    finish-packs c.args.text.now _ _ _ _ e c.pack_root.ensures

pub returns-in-Err : goal.returns-in-Err
returns-in-Err c = rw c.into-in-Err.ensures (finish-stop c.args.text.now _ _ _ _ c.in-Err.is)
