-- docs/RULES.md, 5.8 and 6.5: pack as a function of the two stores, b (bytes) and w (record words), the output and the work memory: the answer, the output
-- and the work memory after it. The stores stand.
use Rattle.std.specs.Prelude.{ℕ, List, Bool, ◌||◌, length, replicate, eqb, Ok, Err}
use Rattle.lists.specs.Lists.{pick, over}
use Rattle.answer.specs.Number.{number, beside}
use Rattle.answer.specs.declared.Refusal.{Refusal}
use Rattle.answer.specs.declared.PackedTable.{PackedTable}
use Rattle.answer.specs.Answers.{Packing}
use Rattle.model_orders.specs.Copies.{Arrangement, length_of, placed_of}
use Rattle.model.specs.Judge.{Verdict, accepted, refused, judge_pack}
use Rattle.model.specs.Session.{arranged_in, table_in}
use Rattle.layout.specs.Words.{object_limit, link_limit}
use Rattle.layout.specs.Sound.{sound}
use Rattle.layout.specs.Decode.{decode}
use Rattle.steps.specs.Steps.{tally_in}
use Rattle.work.specs.Areas.{work_need}

pub record PackOut : Type 0 where
  pub answer : Packing
  pub out : List ℕ
  pub work : List ℕ

abbrev pub packed : Packing → List ℕ → List ℕ → PackOut
packed a out work = record { answer = a; out = out; work = work }

-- the work memory that is needed with so many copies allowed is zero
abbrev pub cleared : ℕ → List ℕ → List ℕ → List ℕ
cleared copies w work = over 0 (replicate (work_need (object_limit w) (link_limit w) copies) 0) work

-- of the refusals only 10 and 11 clear it
abbrev pub clears : Refusal → Bool
clears why = eqb (number why) 10 || eqb (number why) 11

abbrev pub settle_pack_step : Verdict → ℕ → List ℕ → List ℕ → List ℕ → List ℕ → PackOut → PackOut
settle_pack_step accepted copies b w out work done = done
settle_pack_step (refused why) copies b w out work done = packed (Err (record { why = why; tally = beside why (tally_in b w) })) out (pick (clears why) (cleared copies w work) work)

-- the table of an arrangement: its length, how many copies are in it, and how many objects
abbrev pub table_made : Arrangement → PackedTable
table_made c = record { length = length_of c; copies = length c.grown.copies; placed = placed_of c }

-- by a verdict, on this arrangement
abbrev pub pack_by : Verdict → Arrangement → ℕ → List ℕ → List ℕ → List ℕ → List ℕ → PackOut
pack_by v c copies b w out work =
    settle_pack_step v copies b w out work (packed (Ok (record { table = table_made c; tally = tally_in b w })) (over 0 (table_in (decode b w) c) out) (cleared copies w work))

unfoldable pub pack_step : ℕ → ℕ → List ℕ → List ℕ → List ℕ → List ℕ → PackOut
pack_step id copies b w out work =
    let c = arranged_in (decode b w) id copies in
    let need = work_need (object_limit w) (link_limit w) copies in
    pack_by (judge_pack (sound b w) (tally_in b w) id copies (length work) need (length out) (length_of c) c.outcome) c copies b w out work
