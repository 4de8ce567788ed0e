-- docs/RULES.md, 14.4 and 14.5: what the calls of a batch come to, and what is told.
use Rattle.std.specs.Prelude.{◌≡◌, true, ℕ, ◌≤◌, List, length, take, drop}
use Rattle.answer.specs.Number.{no_tally}
use Rattle.answer.specs.declared.Refusal.{Refusal}
use Rattle.layout.specs.Sound.{sound}
use Rattle.steps.specs.Mirrored.{by_stores}
use Rattle.session_batch.specs.Batch.{begun, carried, BatchTold}
use Rattle.session_batch_turn.specs.declared.Ending.TheVariants.{Refused}
use Rattle.session_batch_turn.specs.Turn.{Lent, end_number}
use Rattle.batch.specs.declared.Ran.{Ran}
use Rattle.batch.specs.declared.Batched.{Batched}

-- they leave the ids told at the front of the ids, and the words behind them as they were
pub record RanBy (calls bytes : List ℕ) (l : Lent) (r : Ran) (l' : Lent) : Type 0 where
  pub is : carried by_stores (length calls) (length l.ids) (begun calls bytes l.stores) ≡ record { number = end_number r.ending; state = l'.stores; ids = take r.told l'.ids; calls = r.calls }
  pub is_sound : sound l'.stores.bytes l'.stores.words ≡ true
  pub in_ids : r.told ≤ length l'.ids
  pub stands : drop r.told l'.ids ≡ drop r.told l.ids

abbrev pub told_by_batch : Batched → BatchTold
told_by_batch r = record { number = end_number r.ending; tally = r.tally; calls = r.calls; told = r.told }

abbrev pub refused_at : Refusal → Batched
refused_at why = record { ending = Refused why; tally = no_tally; calls = 0; told = 0 }
