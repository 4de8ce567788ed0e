-- `write_fields` meets its contract: the fields left, filled into the bytes as they are, give what is promised.
use Rattle.pack_write.proofs.Fields.{Fields}
use Rattle.pack_write.proofs.write_fields.Given as goal

abbrev pub invariant-loop-t : goal.invariant-loop-t
invariant-loop-t l = Fields l.a l.n l.i l.t l.work l.initial.part l.part
