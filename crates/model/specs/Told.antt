-- docs/RULES.md, 6.3: all that a call tells. What a call does not have is 0.
use Rattle.std.specs.Prelude.{ℕ, Ok, Err}
use Rattle.answer.specs.Number.{number, named, beside, no_overflow}
use Rattle.answer.specs.declared.tally.Tally.{Tally}
use Rattle.answer.specs.declared.Overflow.{Overflow}
use Rattle.answer.specs.declared.Refusal.{Refusal}
use Rattle.answer.specs.Answers.{Answer, Closing, Packing}

-- the number, the tally beside it, a close's id, a pack's length, copies and placed objects, and what refusal 11 names
pub record Told : Type 0 where
  pub number : ℕ
  pub tally : Tally
  pub id : ℕ
  pub length : ℕ
  pub copies : ℕ
  pub placed : ℕ
  pub overflow : Overflow

abbrev pub done : Tally → Told
done t = record { number = 0; tally = t; id = 0; length = 0; copies = 0; placed = 0; overflow = no_overflow }

abbrev pub done_close : ℕ → Tally → Told
done_close i t = record { number = 0; tally = t; id = i; length = 0; copies = 0; placed = 0; overflow = no_overflow }

abbrev pub done_pack : ℕ → ℕ → ℕ → Tally → Told
done_pack n copies placed t = record { number = 0; tally = t; id = 0; length = n; copies = copies; placed = placed; overflow = no_overflow }

abbrev pub refusal : Refusal → Tally → Told
refusal r t = record { number = number r; tally = beside r t; id = 0; length = 0; copies = 0; placed = 0; overflow = named r }

-- ---- what each case of an answer tells

abbrev pub refused_told : Refusal → Tally → Told
refused_told why t = record { number = number why; tally = t; id = 0; length = 0; copies = 0; placed = 0; overflow = named why }

abbrev pub told_by : Answer → Told
told_by (Ok t) = done t
told_by (Err r) = refused_told r.why r.tally

abbrev pub told_by_close : Closing → Told
told_by_close (Ok c) = done_close c.id.0 c.tally
told_by_close (Err r) = refused_told r.why r.tally

abbrev pub told_by_pack : Packing → Told
told_by_pack (Ok p) = done_pack p.table.length p.table.copies p.table.placed p.tally
told_by_pack (Err r) = refused_told r.why r.tally
