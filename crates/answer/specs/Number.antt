-- docs/RULES.md, section 6: the number of each refusal, and the values that it comes with.
use Rattle.std.specs.Prelude.{ℕ}
use Rattle.answer.specs.declared.Overflow.{Overflow}
use Rattle.answer.specs.declared.PackedTable.{PackedTable}
use Rattle.answer.specs.declared.tally.Tally.{Tally}
use Rattle.answer.specs.declared.Refusal.{Refusal}

abbrev pub number : Refusal → ℕ
number Refusal.NothingOpen = 1
number Refusal.DepthFull = 2
number Refusal.BadField = 3
number Refusal.NotClosed = 4
number Refusal.EmptyObject = 5
number Refusal.StoreFull = 6
number Refusal.LinksFull = 7
number Refusal.ObjectsFull = 8
number Refusal.ObjectOpen = 9
number Refusal.OutputShort = 10
number (Refusal.Overflow o) = 11
number Refusal.Unsound = 12
number Refusal.OutOfRange = 13
number Refusal.Hopeless = 16

abbrev pub no_overflow : Overflow
no_overflow = record { parent = record { 0 = 0 }; field = 0; needed = 0 }

abbrev pub no_table : PackedTable
no_table = record { length = 0; copies = 0; placed = 0 }

-- only 11 names a link
abbrev pub named : Refusal → Overflow
named Refusal.NothingOpen = no_overflow
named Refusal.DepthFull = no_overflow
named Refusal.BadField = no_overflow
named Refusal.NotClosed = no_overflow
named Refusal.EmptyObject = no_overflow
named Refusal.StoreFull = no_overflow
named Refusal.LinksFull = no_overflow
named Refusal.ObjectsFull = no_overflow
named Refusal.ObjectOpen = no_overflow
named Refusal.OutputShort = no_overflow
named (Refusal.Overflow o) = o
named Refusal.Unsound = no_overflow
named Refusal.OutOfRange = no_overflow
named Refusal.Hopeless = no_overflow

abbrev pub no_tally : Tally
no_tally = record { bytes = 0; links = 0; objects = 0; depth = 0 }

-- 12 and 13 come with zeros, the others with the true tally
abbrev pub beside : Refusal → Tally → Tally
beside Refusal.NothingOpen t = t
beside Refusal.DepthFull t = t
beside Refusal.BadField t = t
beside Refusal.NotClosed t = t
beside Refusal.EmptyObject t = t
beside Refusal.StoreFull t = t
beside Refusal.LinksFull t = t
beside Refusal.ObjectsFull t = t
beside Refusal.ObjectOpen t = t
beside Refusal.OutputShort t = t
beside (Refusal.Overflow o) t = t
beside Refusal.Unsound t = no_tally
beside Refusal.OutOfRange t = no_tally
beside Refusal.Hopeless t = t
