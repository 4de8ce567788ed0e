-- docs/RULES.md, section 6: what calls answer with, under the names that their code has for it.
use Rattle.std.specs.Prelude.{Result}
use Rattle.answer.specs.declared.tally.Tally.{Tally}
use Rattle.answer.specs.declared.Refused.{Refused}
use Rattle.answer.specs.declared.Closed.{Closed}
use Rattle.answer.specs.declared.Packed.{Packed}

abbrev pub Answer : Type 0
Answer = Result Tally Refused

abbrev pub Closing : Type 0
Closing = Result Closed Refused

abbrev pub Packing : Type 0
Packing = Result Packed Refused
