-- By what the pack told, and by what is left of the text.
use mathlib.Core.Path.{◌≡◌, refl, sym, ap}
use borrow.Author.Rules.{rules}
use Rattle.std.specs.Prelude.{Ok, IsErr}
use Rattle.model.specs.Told.{told_by_pack}
use Rattle.job_rules.specs.Job.{refused}
use Rattle.job_finish.proofs.Ending.{packs-refused, not_packed, packs-more, packs-done}
use Rattle.job_finish.proofs.Packing.{packs-as}
use Rattle.job_finish.proofs.pack_root.Goals as goal

pub returns-in_err-packed : goal.returns-in_err-packed
returns-in_err-packed c =
    let d = c.args in
    let r = c.pack_sound-packing.result in
    let q = packs-as _ _ c.requires.is_sound _ _ _ c.requires.long c.pack_sound-packing.ensures in
    let v : IsErr c.pack_sound-packing.result = search rules in
    let e : c.from_residual.result ≡ refused (told_by_pack c.pack_sound-packing.result).number c.args.line = search rules in
    rw e (packs-refused d.text.now d.at d.line _ _ _ _ q _ refl (not_packed r v))

pub returns-then-at-text : goal.returns-then-at-text
returns-then-at-text c =
    let d = c.args in
    let q = packs-as _ _ c.requires.is_sound _ _ _ c.requires.long c.pack_sound-packing.ensures in
    let e : c.pack_sound-packing.result ≡ Ok c.in_ok-packed.packed = search rules in
    rw c.into.ensures (packs-more d.text.now d.at d.line _ _ _ _ q (ap (λ x. (told_by_pack x).number) e) c.if-at-text.true)

pub returns : goal.returns
returns c =
    let d = c.args in
    let q = packs-as _ _ c.requires.is_sound _ _ _ c.requires.long c.pack_sound-packing.ensures in
    let e : c.pack_sound-packing.result ≡ Ok c.in_ok-packed.packed = search rules in
    packs-done d.text.now d.at d.line _ _ _ _ q (ap (λ x. (told_by_pack x).number) e) c.if-at-text.false _ _ (ap (λ x. (told_by_pack x).length) (sym e)) (ap (λ x. (told_by_pack x).placed) (sym e))
