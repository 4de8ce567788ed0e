-- `write_object` meets its contract: fields filled inside bytes that stand at the front of the output are filled inside the bytes.
use mathlib.Core.Path.{◌∙◌}
use Rattle.model.proofs.Growth.{fields-room}
use Rattle.model_orders.proofs.Written.{filled-over}
use borrow.Author.Rules.{rules}
use Rattle.pack_write.proofs.write_object.Goals as goal

pub write_fields-requires : goal.write_fields-requires
write_fields-requires c =
    let pre = c.requires in
    (pre.0, fields-room 0 _ _ _ (search rules) pre.2)

pub returns : goal.returns
returns c =
    rw c.copy.ensures at c.write_fields.ensures ∙ filled-over _ _ _ _ c.requires.2
