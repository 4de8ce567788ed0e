-- What the code's answers tell: of a trial, and of a promotion; under the names that their code has for it.
use Rattle.std.specs.Prelude.{◌≡◌, ℕ, false, eqb, Result, Ok, Err}
use Rattle.answer.specs.Number.{number, named, no_overflow}
use Rattle.answer.specs.declared.Overflow.{Overflow}
use Rattle.answer.specs.declared.Refusal.{Refusal}
use Rattle.steps.specs.Runs.{start, step_on}
use Rattle.gsub_read.specs.declared.answers.Unread.{Unread}
use Rattle.gsub_read.specs.declared.answers.Unread.TheVariants.{BadTable, Refused}
use Rattle.gsub_read.specs.Answers.{unread_number, unread_place}
use Rattle.gsub_promote.specs.declared.answers.Promoted.{Promoted}
use Rattle.gsub_promote.specs.Search.{Lent, Trial, left_by, overflows, PromoteTold, PromoteLeft, promote_left, done_promote, refused_promote, ended}

abbrev pub PromoteAnswer : Type 0
PromoteAnswer = Result Promoted Unread

abbrev pub Tried : Type 0
Tried = Result (Result Promoted Refusal) Unread

-- only 11 names a link
abbrev pub unread_overflow : Unread → Overflow
unread_overflow (BadTable p) = no_overflow
unread_overflow (Refused why) = named why

abbrev pub told_by_promote : PromoteAnswer → PromoteTold
told_by_promote (Ok p) = done_promote p.lookups p.root.0 p.length p.tally
told_by_promote (Err u) = refused_promote (unread_number u) (unread_overflow u) (unread_place u)

-- ---- a trial in memory x comes to r, and leaves y

-- with this answer, and the session as it stands in y
abbrev pub standing : PromoteAnswer → Lent → PromoteLeft
standing a y = promote_left (told_by_promote a) y.stores y.out y.work

-- and the session started anew
abbrev pub anew_with : ℕ → ℕ → PromoteAnswer → Lent → PromoteLeft
anew_with objects links a y = promote_left (told_by_promote a) (step_on (start objects links) y.stores).stores y.out y.work

unfoldable pub TriedBy : ℕ → ℕ → ℕ → Lent → Trial → Tried → Lent → Type 0
TriedBy objects links n x t (Err u) y = (overflows t ≡ false) × (standing (Err u) y ≡ ended objects links n x t)
TriedBy objects links n x t (Ok (Ok p)) y = (overflows t ≡ false) × (standing (Ok p) y ≡ ended objects links n x t)
TriedBy objects links n x t (Ok (Err why)) y = (overflows t ≡ eqb (number why) 11) × (y ≡ left_by t) × (anew_with objects links (Err (Refused why)) y ≡ ended objects links n x t)
