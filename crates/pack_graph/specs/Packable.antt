-- docs/RULES.md, 5.8: what the code of pack asks and promises between 4 and the clearing of the work memory.
use Rattle.std.specs.Prelude.{ℕ, ◌-◌, ◌≤◌, ◌<◌, ◌≡◌, List, [], ◌∷◌, ◌++◌, length, Ok, Err}
use Rattle.lists.specs.Lists.{over}
use Rattle.regions.specs.Region.{Kept}
use Rattle.answer.specs.declared.tally.Tally.{Tally}
use Rattle.answer.specs.declared.Refusal.TheVariants as Refusal
use Rattle.answer.specs.Answers.{Packing}
use Rattle.model_orders.specs.Copies.{length_of}
use Rattle.model.specs.Judge.{verdict, output_short, overflows}
use Rattle.model.specs.Session.{arranged_in}
use Rattle.layout.specs.Decode.{decode}
use Rattle.layout.specs.Known.{Read}
use Rattle.layout.specs.declared.state.State.{State}
use Rattle.steps.specs.Steps.{tally_in}
use Rattle.steps.specs.Pack.{packed, cleared, pack_by}
use Rattle.work.specs.declared.Areas.{Areas}
use Rattle.order_resolve.specs.declared.Arranged.{Arranged}
use Rattle.pack_copy.specs.Copy.{AreasFor}
use Rattle.pack_write.specs.Write.{Writing, table_for}

-- a pack to which 12, 13, 9 and 4 do not apply; as many copies are allowed as the areas have room for
pub record Packable (b w : List ℕ) (s : State) (t : Tally) (a : Areas) (root : ℕ) (m : List ℕ) : Type 0 where
  pub read : Read b w s
  pub tally : t ≡ tally_in b w
  pub areas : AreasFor w a
  pub known : root < s.closed
  pub long : a.end ≤ length m

-- an arrangement in which every offset fits, as r tells it: its nodes can be written, and are as many bytes as it has
pub record Fitting (b w : List ℕ) (s : State) (a : Areas) (r : Arranged) (m : List ℕ) : Type 0 where
  pub base : s.closed ≤ r.nodes
  pub writing : Writing b w s a r m

-- p was answered: without room nothing is written
pub record Written (b w : List ℕ) (s : State) (t : Tally) (a : Areas) (r : Arranged) (p : Packing) (out out' m : List ℕ) : Type 0 where
  pub short : length out < r.length → packed p out' m ≡ packed (Err (record { why = Refusal.OutputShort; tally = t })) out m
  pub room :
      r.length ≤ length out
      → packed p out' m ≡ packed (Ok (record { table = record { length = r.length; copies = r.nodes - s.closed; placed = r.placed }; tally = t })) (over 0 (table_for b w a s.closed r.nodes r.placed m) out) m

-- it told r by the tests left, and will have done what they ask once the needed work memory is cleared
pub record Answered (b w : List ℕ) (a : Areas) (root : ℕ) (r : Packing) (out out' m m' : List ℕ) : Type 0 where
  pub kept : Kept 0 a.end m m'
  pub told :
      let c = arranged_in (decode b w) root a.copies in
      packed r out' (cleared a.copies w m) ≡ pack_by (verdict (overflows c.outcome ++ (output_short (length out) (length_of c) ∷ []))) c a.copies b w out m
