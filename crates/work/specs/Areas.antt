-- docs/LAYOUT.md, the work memory: where each of its arrays begins, for a number of nodes and a number of links.
use Rattle.std.specs.Prelude.{ℕ, ◌+◌, ◌*◌, ◌≤◌, ◌≡◌}
use Rattle.std.proofs.Common.{arith, mul-add, mul_comm}
use Rattle.model.specs.Judge.{most_work_need}
use Rattle.work.specs.Packed.{packed_words}
use Rattle.work.specs.declared.Areas.{Areas}

-- the graph: three words for each node, and the links' words
abbrev pub graph_words : ℕ → ℕ → ℕ
graph_words nodes links = nodes * 3 + links * packed_words

-- behind it eight areas of a word for each node, and one of a word for each copy. Some have several names, since one array is done with before another
-- begins there: the line and the order; the nodes that became ready and the places; and between two orders, where the spaces are found, two of an order's
abbrev pub areas_of : ℕ → ℕ → ℕ → Areas
areas_of nodes links copies =
    let g = graph_words nodes links in
    record {
      nodes = nodes;
      copies = copies;
      firsts = nodes;
      counts = nodes * 2;
      links = nodes * 3;
      keys = g;
      spots = g;
      waiting = g + nodes;
      arrived = g + nodes * 2;
      places = g + nodes * 2;
      bosses = g + nodes * 2;
      heap = g + nodes * 3;
      order = g + nodes * 4;
      line = g + nodes * 4;
      incoming = g + nodes * 5;
      distances = g + nodes * 6;
      spaces = g + nodes * 7;
      origins = g + nodes * 8;
      end = g + nodes * 8 + copies;
    }

-- a copy takes one node, and as many links as there may be
abbrev pub areas_for : ℕ → ℕ → ℕ → Areas
areas_for objects links copies = areas_of (objects + copies) (links * (copies + 1)) copies

-- how many words the work memory needs
abbrev pub work_need : ℕ → ℕ → ℕ → ℕ
work_need objects links copies = (areas_for objects links copies).end

pub work-bound : (objects links copies : ℕ) → work_need objects links copies ≤ most_work_need objects links copies
work-bound objects links copies = omega (arith, mul-add links copies 1, mul-add copies links 1, mul_comm links copies)

-- what is known of areas by numbers: each begins where the one before it ends
pub record Apart (a : Areas) : Type 0 where
  pub firsts : a.firsts ≡ a.nodes
  pub counts : a.counts ≡ a.firsts + a.nodes
  pub links : a.links ≡ a.counts + a.nodes
  pub keys : a.links ≤ a.keys
  pub spots : a.spots ≡ a.keys
  pub waiting : a.waiting ≡ a.keys + a.nodes
  pub arrived : a.arrived ≡ a.waiting + a.nodes
  pub places : a.places ≡ a.arrived
  pub bosses : a.bosses ≡ a.arrived
  pub heap : a.heap ≡ a.arrived + a.nodes
  pub order : a.order ≡ a.heap + a.nodes
  pub line : a.line ≡ a.order
  pub incoming : a.incoming ≡ a.order + a.nodes
  pub distances : a.distances ≡ a.incoming + a.nodes
  pub spaces : a.spaces ≡ a.distances + a.nodes
  pub origins : a.origins ≡ a.spaces + a.nodes
  pub end : a.end ≡ a.origins + a.copies

pub areas-apart : (nodes links copies : ℕ) → Apart (areas_of nodes links copies)
areas-apart nodes links copies =
    record {
      firsts = omega arith;
      counts = omega arith;
      links = omega arith;
      keys = omega arith;
      spots = omega arith;
      waiting = omega arith;
      arrived = omega arith;
      places = omega arith;
      bosses = omega arith;
      heap = omega arith;
      order = omega arith;
      line = omega arith;
      incoming = omega arith;
      distances = omega arith;
      spaces = omega arith;
      origins = omega arith;
      end = omega arith;
    }
