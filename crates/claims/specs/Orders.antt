-- docs/RULES.md, section 7, of a pack on any stores, output and work memory: whose order's table it writes, when it tells 11 and with which link.
use Rattle.std.specs.Prelude.{ℕ, ◌≤◌, ◌<◌, ◌≡◌, List, true, length}
use Rattle.lists.specs.Lists.{over}
use Rattle.answer.specs.declared.Overflow.{Overflow}
use Rattle.model_orders.specs.Graph.{Graph, graph_of}
use Rattle.model_orders.specs.Reading.{reading_at, readings}
use Rattle.model_orders.specs.Table.{placed}
use Rattle.model_orders.specs.Copies.{Grown, table_by, Chosen, Unresolved}
use Rattle.model.specs.Judge.{most_copies}
use Rattle.model_orders.specs.Laid.{LaidOut}
use Rattle.model.specs.Told.{Told, done_pack}
use Rattle.model.specs.Session.{content}
use Rattle.layout.specs.Words.{object_limit, link_limit, closed_count, open_depth}
use Rattle.work.specs.Areas.{work_need}
use Rattle.layout.specs.Decode.{decode}
use Rattle.layout.specs.Sound.{sound}
use Rattle.steps.specs.Steps.{tally_in}
use Rattle.steps.specs.Runs.{stores, pack, lent_step}

module _ (b w : List ℕ) (id copies : ℕ) (out work : List ℕ) where
  -- the closed objects
  abbrev pub graph_in : Graph
  graph_in = graph_of (decode b w).closed

  abbrev pub table_on : Grown → List ℕ → List ℕ
  table_on z o = table_by (content (decode b w)) z (placed o)

  abbrev pub pack_told : Told
  pack_told = (lent_step (pack id copies out work) (stores b w)).told

  -- no test ranked before that of the orders applies
  pub record Admitted : Type 0 where
    pub is_sound : sound b w ≡ true
    pub few : copies ≤ most_copies
    pub memory : work_need (object_limit w) (link_limit w) copies ≤ length work
    pub none_open : open_depth w ≡ 0
    pub known : id < closed_count w

  -- an accepted pack: the graph with its copies and its order; the table in front of the output, the table's length, the copies and the order's length told; and what the
  -- table shows: each node its object's reading, each field leading to its child's or a copy's place, which lies later
  pub record Ordered : Type 0 where
    pub admitted : Admitted
    pub grown : Grown
    pub order : List ℕ
    pub chosen : Chosen copies graph_in (length (decode b w).closed) id grown order
    pub room : length (table_on grown order) ≤ length out
    pub told : pack_told ≡ done_pack (length (table_on grown order)) (length grown.copies) (length order) (tally_in b w)
    pub written : (lent_step (pack id copies out work) (stores b w)).out ≡ over 0 (table_on grown order) out
    pub laid :
        LaidOut grown.graph grown.line id (λ i. reading_at (readings (decode b w).closed) (grown.origin i)) order (table_on grown order)

  -- a pack that tells 11, with link v
  pub record Overflows (v : Overflow) : Type 0 where
    pub admitted : Admitted
    pub unfits : Unresolved copies graph_in (length (decode b w).closed) id v
