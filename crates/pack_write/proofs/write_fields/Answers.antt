-- `write_fields` meets its contract: the fields left, filled into the bytes as they are, give what is promised.
use native.Mathlib.Omega.{arith}
use Rattle.pack_write.proofs.Fields.{field-inside, fields-next, fields-all}
use Rattle.pack_write.proofs.write_fields.Goals as goal

pub write-requires : goal.write-requires
write-requires c = field-inside c.requires.0 c.loop-t.invariant (omega arith) c.field_from-f.ensures

pub loop-t-preserved : goal.loop-t-preserved
loop-t-preserved c =
    fields-next c.requires.0 c.loop-t.invariant (omega arith) c.field_from-f.ensures c.offset_at-offset.ensures c.write.ensures

pub returns : goal.returns
returns c = fields-all c.requires.0 c.loop-t.invariant (omega arith)
