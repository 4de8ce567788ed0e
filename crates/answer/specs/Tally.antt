-- docs/RULES.md, 3.6 to 3.8: how the counts change.
use Rattle.std.specs.Prelude.{ℕ, ◌+◌, ◌-◌}
use Rattle.answer.specs.declared.tally.Tally.{Tally}

abbrev pub opened : Tally → Tally
opened t = record { bytes = t.bytes; links = t.links; objects = t.objects; depth = t.depth + 1 }

abbrev pub grown : ℕ → ℕ → Tally → Tally
grown bytes links t = record { bytes = t.bytes + bytes; links = t.links + links; objects = t.objects; depth = t.depth }

abbrev pub added : Tally → Tally
added t = record { bytes = t.bytes; links = t.links; objects = t.objects + 1; depth = t.depth - 1 }

abbrev pub released : ℕ → ℕ → Tally → Tally
released bytes links t = record { bytes = t.bytes - bytes; links = t.links - links; objects = t.objects; depth = t.depth - 1 }
