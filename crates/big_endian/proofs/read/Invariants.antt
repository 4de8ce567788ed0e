-- `read` meets its contract: the bytes left, read on from what was read so far, give the number; i bytes read are below the capacity of width i.
use mathlib.Core.Path.{◌≡◌}
use Prim.Native.Nat.{◌<◌}
use lib.ListN.{drop}
use Rattle.big_endian.specs.BigEndian.{capacity, read_from, read_big}
use Rattle.big_endian.proofs.read.Given as goal

abbrev pub invariant-loop-byte : goal.invariant-loop-byte
invariant-loop-byte l = (l.n < capacity l.byte-index) × (read_big l.byte-items ≡ read_from l.n (drop l.byte-index l.byte-items))
