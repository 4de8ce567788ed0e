-- docs/RULES.md, section 9: cases 1 to 10, 16 to 20 and two more, on the abstract session, by one claim over a list of them; the ends of 3.1 and 3.2; 22 to 24, closes at the edge of what can be filled; and 6.1, for link, close and pack.
use Rattle.std.specs.Prelude.{ℕ, List, [], ◌∷◌, ◌++◌, map, Bool, true, false, ◌&&◌, eqb}
use Rattle.lists.specs.Lists.{same_list}
use Rattle.answer.specs.Number.{no_overflow}
use Rattle.answer.specs.declared.tally.Tally.{Tally}
use Rattle.model_orders.specs.Object.{new_slot}
use Rattle.model_orders.specs.Table.{placed, overflow}
use Rattle.model_orders.specs.ObjectCases.{Edge, edge, edge_hopeless, edges as objects}
use Rattle.model.specs.Judge.{Limits, Verdict, judge_start, judge_link, judge_close, judge_pack}
use Rattle.model.specs.Session.{Needs, Session, started, tally_of, SessionCall, start_call, open_call, put_call, link_call, close_call, drop_call, tally_call, step, pack, Call, session_call, pack_call, after_call}

-- from a fresh session: the number that each call tells, the id of each close, the four counts at the end, and all tables
pub record Case : Type 0 where
  pub limits : Limits
  pub calls : List Call
  pub numbers : List ℕ
  pub ids : List ℕ
  pub counts : List ℕ
  pub table : List ℕ

-- ---- what a list of calls tells

-- the needs of lent memory play no part here
abbrev no_needs : Needs
no_needs = record { records = λ m. 0; work = λ m copies. 0 }

unfoldable pub numbers_of : List Call → Session → List ℕ
numbers_of [] s = []
numbers_of (session_call c ∷ cs) s = (step no_needs c s).told.number ∷ numbers_of cs (step no_needs c s).after
numbers_of (pack_call id copies out work ∷ cs) s = (pack no_needs id copies out work s).told.number ∷ numbers_of cs s

abbrev pub ids_in : SessionCall → ℕ → List ℕ
ids_in (start_call m records) i = []
ids_in open_call i = []
ids_in (put_call vs) i = []
ids_in (link_call w id from) i = []
ids_in close_call i = i ∷ []
ids_in drop_call i = []
ids_in tally_call i = []

unfoldable pub ids_of : List Call → Session → List ℕ
ids_of [] s = []
ids_of (session_call c ∷ cs) s = ids_in c (step no_needs c s).told.id ++ ids_of cs (step no_needs c s).after
ids_of (pack_call id copies out work ∷ cs) s = ids_of cs s

unfoldable pub counts_of : List Call → Session → List ℕ
counts_of [] s = let t = tally_of s in t.bytes ∷ t.links ∷ t.objects ∷ t.depth ∷ []
counts_of (c ∷ cs) s = counts_of cs (after_call no_needs c s)

unfoldable pub tables_of : List Call → Session → List ℕ
tables_of [] s = []
tables_of (session_call c ∷ cs) s = tables_of cs (step no_needs c s).after
tables_of (pack_call id copies out work ∷ cs) s = (pack no_needs id copies out work s).table ++ tables_of cs s

unfoldable pub right : Case → Bool
right c =
    let s = started c.limits in
    same_list eqb (numbers_of c.calls s) c.numbers
    && (same_list eqb (ids_of c.calls s) c.ids
    && (same_list eqb (counts_of c.calls s) c.counts && same_list eqb (tables_of c.calls s) c.table))

unfoldable pub all_right : List Case → Bool
all_right [] = true
all_right (c ∷ cs) = right c && all_right cs

-- ---- the cases

abbrev limits_of : ℕ → ℕ → ℕ → Limits
limits_of p l b = record { objects = p; links = l; bytes = b }

abbrev opens : Call
opens = session_call open_call

abbrev puts : List ℕ → Call
puts vs = session_call (put_call vs)

abbrev links : ℕ → ℕ → Call
links w id = session_call (link_call w id 0)

-- with an inner start
abbrev links_from : ℕ → ℕ → ℕ → Call
links_from w id inner = session_call (link_call w id inner)

abbrev closes : Call
closes = session_call close_call

abbrev drops : Call
drops = session_call drop_call

abbrev tallies : Call
tallies = session_call tally_call

-- an object of these bytes and no link
abbrev leaf : List ℕ → List Call
leaf vs = opens ∷ puts vs ∷ closes ∷ []

abbrev header : List ℕ
header = 0x00 ∷ 0x01 ∷ 0x00 ∷ 0x02 ∷ []

-- HarfBuzz's graph, up to the last link
abbrev four : List Call
four =
    leaf (0x64 ∷ [])
    ++ (opens ∷ puts (0x62 ∷ []) ∷ links 2 0 ∷ closes ∷ [])
    ++ leaf (0x64 ∷ [])
    ++ (opens ∷ puts (0x63 ∷ []) ∷ links 2 0 ∷ closes ∷ [])
    ++ (opens ∷ puts (0x61 ∷ []) ∷ links 2 1 ∷ links 2 2 ∷ [])

abbrev pub cases : List Case
cases =
    record {
      limits = limits_of 8 8 64;
      calls = four ++ (closes ∷ pack_call 3 0 12 0 ∷ []);
      numbers = 0 ∷ 0 ∷ 0 ∷ 0 ∷ 0 ∷ 0 ∷ 0 ∷ 0 ∷ 0 ∷ 0 ∷ 0 ∷ 0 ∷ 0 ∷ 0 ∷ 0 ∷ 0 ∷ 0 ∷ 0 ∷ 0 ∷ 0 ∷ [];
      ids = 0 ∷ 1 ∷ 0 ∷ 2 ∷ 3 ∷ [];
      counts = 12 ∷ 4 ∷ 4 ∷ 0 ∷ [];
      table = 0x61 ∷ 0x00 ∷ 0x05 ∷ 0x00 ∷ 0x08 ∷ 0x62 ∷ 0x00 ∷ 0x06 ∷ 0x63 ∷ 0x00 ∷ 0x03 ∷ 0x64 ∷ [];
    }
    ∷ record {
      limits = limits_of 8 8 11;
      calls = four;
      numbers = 0 ∷ 0 ∷ 0 ∷ 0 ∷ 0 ∷ 0 ∷ 0 ∷ 0 ∷ 0 ∷ 0 ∷ 0 ∷ 0 ∷ 0 ∷ 0 ∷ 0 ∷ 0 ∷ 0 ∷ 6 ∷ [];
      ids = 0 ∷ 1 ∷ 0 ∷ 2 ∷ [];
      counts = 10 ∷ 3 ∷ 3 ∷ 1 ∷ [];
      table = [];
    }
    ∷ record {
      limits = limits_of 8 8 12;
      calls = four;
      numbers = 0 ∷ 0 ∷ 0 ∷ 0 ∷ 0 ∷ 0 ∷ 0 ∷ 0 ∷ 0 ∷ 0 ∷ 0 ∷ 0 ∷ 0 ∷ 0 ∷ 0 ∷ 0 ∷ 0 ∷ 0 ∷ [];
      ids = 0 ∷ 1 ∷ 0 ∷ 2 ∷ [];
      counts = 12 ∷ 4 ∷ 3 ∷ 1 ∷ [];
      table = [];
    }
    ∷ record {
      limits = limits_of 8 8 64;
      calls = leaf (0x78 ∷ []) ++ (opens ∷ links 2 0 ∷ links 2 0 ∷ closes ∷ pack_call 1 0 64 0 ∷ []);
      numbers = 0 ∷ 0 ∷ 0 ∷ 0 ∷ 0 ∷ 0 ∷ 0 ∷ 0 ∷ [];
      ids = 0 ∷ 1 ∷ [];
      counts = 5 ∷ 2 ∷ 2 ∷ 0 ∷ [];
      table = 0x00 ∷ 0x04 ∷ 0x00 ∷ 0x04 ∷ 0x78 ∷ [];
    }
    ∷ record {
      limits = limits_of 8 8 64;
      calls = leaf (0x78 ∷ []) ++ (opens ∷ links 4 0 ∷ closes ∷ pack_call 1 0 64 0 ∷ []);
      numbers = 0 ∷ 0 ∷ 0 ∷ 0 ∷ 0 ∷ 0 ∷ 0 ∷ [];
      ids = 0 ∷ 1 ∷ [];
      counts = 5 ∷ 1 ∷ 2 ∷ 0 ∷ [];
      table = 0x00 ∷ 0x00 ∷ 0x00 ∷ 0x04 ∷ 0x78 ∷ [];
    }
    ∷ record {
      limits = limits_of 8 8 64;
      calls = leaf (0x78 ∷ []) ++ (opens ∷ links 2 0 ∷ closes ∷ opens ∷ links 2 0 ∷ links 2 1 ∷ closes ∷ pack_call 2 0 64 0 ∷ []);
      numbers = 0 ∷ 0 ∷ 0 ∷ 0 ∷ 0 ∷ 0 ∷ 0 ∷ 0 ∷ 0 ∷ 0 ∷ 0 ∷ [];
      ids = 0 ∷ 1 ∷ 2 ∷ [];
      counts = 7 ∷ 3 ∷ 3 ∷ 0 ∷ [];
      table = 0x00 ∷ 0x06 ∷ 0x00 ∷ 0x04 ∷ 0x00 ∷ 0x02 ∷ 0x78 ∷ [];
    }
    ∷ record {
      limits = limits_of 8 8 64;
      calls = leaf (0x64 ∷ []) ++ leaf (0x65 ∷ []) ++ (pack_call 1 0 64 0 ∷ []);
      numbers = 0 ∷ 0 ∷ 0 ∷ 0 ∷ 0 ∷ 0 ∷ 0 ∷ [];
      ids = 0 ∷ 1 ∷ [];
      counts = 2 ∷ 0 ∷ 2 ∷ 0 ∷ [];
      table = 0x65 ∷ [];
    }
    ∷ record {
      limits = limits_of 1 8 64;
      calls = leaf (0x64 ∷ []) ++ leaf (0x64 ∷ []) ++ leaf (0x65 ∷ []);
      numbers = 0 ∷ 0 ∷ 0 ∷ 0 ∷ 0 ∷ 0 ∷ 0 ∷ 0 ∷ 8 ∷ [];
      ids = 0 ∷ 0 ∷ 0 ∷ [];
      counts = 2 ∷ 0 ∷ 1 ∷ 1 ∷ [];
      table = [];
    }
    ∷ record {
      limits = limits_of 8 8 64;
      calls = puts (0x64 ∷ []) ∷ links 2 0 ∷ closes ∷ drops ∷ opens ∷ closes ∷ [];
      numbers = 1 ∷ 1 ∷ 1 ∷ 1 ∷ 0 ∷ 5 ∷ [];
      ids = 0 ∷ 0 ∷ [];
      counts = 0 ∷ 0 ∷ 0 ∷ 1 ∷ [];
      table = [];
    }
    ∷ record {
      limits = limits_of 8 8 64;
      calls = opens ∷ puts (0x61 ∷ 0x62 ∷ 0x63 ∷ []) ∷ drops ∷ [];
      numbers = 0 ∷ 0 ∷ 0 ∷ [];
      ids = [];
      counts = 0 ∷ 0 ∷ 0 ∷ 0 ∷ [];
      table = [];
    }
    ∷ record {
      limits = limits_of 8 8 64;
      calls = tallies ∷ pack_call 0 0 64 0 ∷ [];
      numbers = 0 ∷ 4 ∷ [];
      ids = [];
      counts = 0 ∷ 0 ∷ 0 ∷ 0 ∷ [];
      table = [];
    }
    -- an all-zero child: a field left 0 would show it too, from the table's first byte
    ∷ record {
      limits = limits_of 8 8 64;
      calls = leaf (0x00 ∷ 0x00 ∷ []) ++ (opens ∷ links 2 0 ∷ closes ∷ pack_call 1 0 64 0 ∷ []);
      numbers = 0 ∷ 0 ∷ 0 ∷ 0 ∷ 0 ∷ 0 ∷ 0 ∷ [];
      ids = 0 ∷ 1 ∷ [];
      counts = 4 ∷ 1 ∷ 2 ∷ 0 ∷ [];
      table = 0x00 ∷ 0x02 ∷ 0x00 ∷ 0x00 ∷ [];
    }
    ∷ record {
      limits = limits_of 8 8 64;
      calls = leaf (0x78 ∷ []) ++ (opens ∷ links 3 0 ∷ closes ∷ pack_call 1 0 64 0 ∷ []);
      numbers = 0 ∷ 0 ∷ 0 ∷ 0 ∷ 0 ∷ 0 ∷ 0 ∷ [];
      ids = 0 ∷ 1 ∷ [];
      counts = 4 ∷ 1 ∷ 2 ∷ 0 ∷ [];
      table = 0x00 ∷ 0x00 ∷ 0x03 ∷ 0x78 ∷ [];
    }
    ∷ record {
      limits = limits_of 8 8 64;
      calls = leaf (0x78 ∷ []) ++ (opens ∷ links 3 0 ∷ links 2 0 ∷ closes ∷ pack_call 1 0 64 0 ∷ []);
      numbers = 0 ∷ 0 ∷ 0 ∷ 0 ∷ 0 ∷ 0 ∷ 0 ∷ 0 ∷ [];
      ids = 0 ∷ 1 ∷ [];
      counts = 6 ∷ 2 ∷ 2 ∷ 0 ∷ [];
      table = 0x00 ∷ 0x00 ∷ 0x05 ∷ 0x00 ∷ 0x05 ∷ 0x78 ∷ [];
    }
    -- offsets that count from behind a header, and one that does not
    ∷ record {
      limits = limits_of 8 8 64;
      calls = leaf (0x78 ∷ []) ++ (opens ∷ puts header ∷ links_from 2 0 4 ∷ closes ∷ pack_call 1 0 64 0 ∷ []);
      numbers = 0 ∷ 0 ∷ 0 ∷ 0 ∷ 0 ∷ 0 ∷ 0 ∷ 0 ∷ [];
      ids = 0 ∷ 1 ∷ [];
      counts = 7 ∷ 1 ∷ 2 ∷ 0 ∷ [];
      table = 0x00 ∷ 0x01 ∷ 0x00 ∷ 0x02 ∷ 0x00 ∷ 0x02 ∷ 0x78 ∷ [];
    }
    ∷ record {
      limits = limits_of 8 8 64;
      calls = leaf (0x78 ∷ []) ++ (opens ∷ puts header ∷ links_from 2 0 4 ∷ links 2 0 ∷ closes ∷ pack_call 1 0 64 0 ∷ []);
      numbers = 0 ∷ 0 ∷ 0 ∷ 0 ∷ 0 ∷ 0 ∷ 0 ∷ 0 ∷ 0 ∷ [];
      ids = 0 ∷ 1 ∷ [];
      counts = 9 ∷ 2 ∷ 2 ∷ 0 ∷ [];
      table = 0x00 ∷ 0x01 ∷ 0x00 ∷ 0x02 ∷ 0x00 ∷ 0x04 ∷ 0x00 ∷ 0x08 ∷ 0x78 ∷ [];
    }
    -- an inner start past the field is refused, one at the field is not; objects that differ in one alone are two
    ∷ record {
      limits = limits_of 8 8 64;
      calls =
          leaf (0x78 ∷ [])
          ++ (opens ∷ puts header ∷ links_from 2 0 5 ∷ links_from 2 0 4 ∷ closes ∷ [])
          ++ (opens ∷ puts header ∷ links_from 2 0 3 ∷ closes ∷ opens ∷ puts header ∷ links_from 2 0 4 ∷ closes ∷ []);
      numbers = 0 ∷ 0 ∷ 0 ∷ 0 ∷ 0 ∷ 3 ∷ 0 ∷ 0 ∷ 0 ∷ 0 ∷ 0 ∷ 0 ∷ 0 ∷ 0 ∷ 0 ∷ 0 ∷ [];
      ids = 0 ∷ 1 ∷ 2 ∷ 1 ∷ [];
      counts = 13 ∷ 2 ∷ 3 ∷ 0 ∷ [];
      table = [];
    }
    -- no other width
    ∷ record {
      limits = limits_of 8 8 64;
      calls = leaf (0x78 ∷ []) ++ (opens ∷ links 0 0 ∷ links 1 0 ∷ links 5 0 ∷ links 258 0 ∷ []);
      numbers = 0 ∷ 0 ∷ 0 ∷ 0 ∷ 3 ∷ 3 ∷ 3 ∷ 3 ∷ [];
      ids = 0 ∷ [];
      counts = 1 ∷ 0 ∷ 1 ∷ 1 ∷ [];
      table = [];
    }
    ∷ []

-- ---- the ends of the ranges: the least and the greatest limits, and one past each

abbrev pub ends : List Verdict
ends =
    judge_start (limits_of 1 0 1) 0 0
    ∷ judge_start (limits_of 16384 65536 16777216) 0 0
    ∷ judge_start (limits_of 0 0 1) 0 0
    ∷ judge_start (limits_of 1 0 0) 0 0
    ∷ judge_start (limits_of 16385 65536 16777216) 0 0
    ∷ judge_start (limits_of 16384 65537 16777216) 0 0
    ∷ judge_start (limits_of 16384 65536 16777217) 0 0
    ∷ []

-- ---- the edge of what can be filled

-- one closed object, and `depth` open ones
abbrev holding : ℕ → Tally
holding depth = record { bytes = 1; links = 0; objects = 1; depth = depth }

-- the close of a new object
abbrev closing : ℕ → Edge → Verdict
closing limit e = judge_close true (limits_of limit 1 e.size) (holding 1) e.size (edge_hopeless e) 1

-- the last two with the object limit reached
abbrev pub edges : List Verdict
edges = map (closing 2) objects ++ (closing 1 (edge 0 []) ∷ closing 1 (edge 65536 (new_slot 0 2 0 ∷ [])) ∷ [])

-- ---- several refusals at once, of a link, of a close and of a pack: in each line those of all the lines below it apply too

abbrev pub several : List (List Verdict)
several =
    (judge_link false (limits_of 1 0 1) (holding 0) (new_slot 0 5 0) 1
    ∷ judge_link true (limits_of 1 0 1) (holding 0) (new_slot 0 5 0) 1
    ∷ judge_link true (limits_of 1 0 1) (holding 1) (new_slot 0 5 0) 1
    ∷ judge_link true (limits_of 1 0 1) (holding 1) (new_slot 0 2 0) 1
    ∷ judge_link true (limits_of 1 0 1) (holding 1) (new_slot 0 2 0) 0
    ∷ judge_link true (limits_of 1 1 1) (holding 1) (new_slot 0 2 0) 0
    ∷ [])
    ∷ (judge_close false (limits_of 1 0 1) (holding 0) 0 true 1
    ∷ judge_close true (limits_of 1 0 1) (holding 0) 0 true 1
    ∷ judge_close true (limits_of 1 0 1) (holding 1) 0 true 1
    ∷ judge_close true (limits_of 1 0 1) (holding 1) 1 true 1
    ∷ judge_close true (limits_of 1 0 1) (holding 1) 1 false 1
    ∷ [])
    ∷ (judge_pack false (holding 1) 1 1025 0 1 0 1 (overflow no_overflow)
    ∷ judge_pack true (holding 1) 1 1025 1 1 0 1 (overflow no_overflow)
    ∷ judge_pack true (holding 1) 1 1024 0 1 0 1 (overflow no_overflow)
    ∷ judge_pack true (holding 1) 1 1024 1 1 0 1 (overflow no_overflow)
    ∷ judge_pack true (holding 0) 1 1024 1 1 0 1 (overflow no_overflow)
    ∷ judge_pack true (holding 0) 0 1024 1 1 0 1 (overflow no_overflow)
    ∷ judge_pack true (holding 0) 0 1024 1 1 0 1 (placed [])
    ∷ judge_pack true (holding 0) 0 1024 1 1 1 1 (placed [])
    ∷ [])
    ∷ []
