-- docs/RULES.md, 11.6: what a read and its moves answer with, under the names that their code has for it, and what a refusal tells.
use Rattle.std.specs.Prelude.{ℕ, Result}
use Rattle.answer.specs.Number.{number}
use Rattle.answer.specs.declared.ObjectId.{ObjectId}
use Rattle.gsub.specs.Ops.{bad_table}
use Rattle.gsub_read.specs.declared.answers.Read.{Read}
use Rattle.gsub_read.specs.declared.answers.Unread.{Unread}
use Rattle.gsub_read.specs.declared.answers.Unread.TheVariants.{BadTable, Refused}

abbrev pub ReadAnswer : Type 0
ReadAnswer = Result Read Unread

abbrev pub Performed : Type 0
Performed = Result ObjectId Unread

abbrev pub unread_number : Unread → ℕ
unread_number (BadTable p) = bad_table
unread_number (Refused why) = number why

-- only 15 has a place
abbrev pub unread_place : Unread → ℕ
unread_place (BadTable p) = p
unread_place (Refused why) = 0
