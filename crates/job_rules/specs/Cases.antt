-- docs/RULES.md, section 12: jobs that are packed, and jobs that are refused.
use Rattle.std.specs.Prelude.{ℕ, List, [], ◌∷◌, Bool, true, false, ◌&&◌, eqb, Ok, Err}
use Prim.Native.String.{String}
use Rattle.lists.specs.Lists.{same_list}
use Rattle.job_items.specs.Item.{codes}
use Rattle.job_rules.specs.Job.{Ending, packed, refused, job, most_bytes}

-- a job's text, its answer, and the table
pub record Case : Type 0 where
  pub text : String
  pub ending : Ending
  pub table : List ℕ

abbrev same : Ending → Ending → Bool
same (Ok p) (Ok q) = eqb p.length q.length && eqb p.placed q.placed
same (Ok p) (Err r) = false
same (Err r) (Ok p) = false
same (Err r) (Err q) = eqb r.number q.number && eqb r.line q.line

abbrev right : Case → Bool
right c = let e = job most_bytes (codes c.text) in same e.ending c.ending && same_list eqb e.table c.table

unfoldable pub all_right : List Case → Bool
all_right [] = true
all_right (c ∷ cs) = right c && all_right cs

abbrev packs : String → ℕ → ℕ → List ℕ → Case
packs text n k table = record { text = text; ending = packed n k; table = table }

abbrev refuses : String → ℕ → ℕ → List ℕ → Case
refuses text why line table = record { text = text; ending = refused why line; table = table }

abbrev pub cases : List Case
cases =
    -- four objects from five piece lines
    packs "bytes=64\nobjects=8\nlinks=8\npiece=64\npiece=62\nlink=2,0\npiece=64\npiece=63\nlink=2,2\npiece=61\nlink=2,1\nlink=2,3\nend=5\n" 12 4 (0x61 ∷ 0x00 ∷ 0x05 ∷ 0x00 ∷ 0x08 ∷ 0x62 ∷ 0x00 ∷ 0x06 ∷ 0x63 ∷ 0x00 ∷ 0x03 ∷ 0x64 ∷ [])
    -- an object that the root does not reach is not in the table
    ∷ packs "bytes=64\nobjects=8\nlinks=8\npiece=64\npiece=65\nend=2\n" 1 1 (0x65 ∷ [])
    -- a last piece that is a duplicate
    ∷ packs "bytes=64\nobjects=8\nlinks=8\npiece=64\npiece=65\npiece=64\nend=3\n" 1 1 (0x64 ∷ [])
    -- no text
    ∷ refuses "" 14 1 []
    -- a last line without its line feed
    ∷ refuses "bytes=64\nobjects=8\nlinks=8\npiece=64\nend=1" 14 5 []
    -- text after the end
    ∷ refuses "bytes=64\nobjects=8\nlinks=8\npiece=64\nend=1\n\n" 14 6 (0x64 ∷ [])
    -- an absent line
    ∷ refuses "bytes=64\nobjects=8\nlinks=8\npiece=64\n" 14 5 []
    -- a wrong key
    ∷ refuses "bytes=64\nlinks=8\nobjects=8\n" 14 2 []
    -- a leading zero
    ∷ refuses "bytes=064\nobjects=8\nlinks=8\n" 14 1 []
    -- ten digits
    ∷ refuses "bytes=1000000000\nobjects=8\nlinks=8\n" 14 1 []
    -- above the limits
    ∷ refuses "bytes=999999999\nobjects=8\nlinks=8\n" 13 3 []
    -- below the limits
    ∷ refuses "bytes=64\nobjects=0\nlinks=8\n" 13 3 []
    -- a number is told before limits
    ∷ refuses "bytes=99999\nobjects=8\nlinks=x\n" 14 3 []
    -- a link before any piece
    ∷ refuses "bytes=64\nobjects=8\nlinks=8\nlink=2,0\n" 14 4 []
    -- no piece
    ∷ refuses "bytes=64\nobjects=8\nlinks=8\nend=0\n" 14 4 []
    -- half a pair
    ∷ refuses "bytes=64\nobjects=8\nlinks=8\npiece=6\n" 14 4 []
    -- an uppercase digit
    ∷ refuses "bytes=64\nobjects=8\nlinks=8\npiece=6A\n" 14 4 []
    -- a wrong count, before the close of an empty piece
    ∷ refuses "bytes=64\nobjects=8\nlinks=8\npiece=\nend=2\n" 14 5 []
    -- an empty piece, at the line that closes it
    ∷ refuses "bytes=64\nobjects=8\nlinks=8\npiece=\npiece=64\nend=2\n" 5 5 []
    -- a piece that only its link gives bytes
    ∷ packs "bytes=64\nobjects=8\nlinks=8\npiece=64\npiece=\nlink=2,0\nend=2\n" 3 2 (0x00 ∷ 0x02 ∷ 0x64 ∷ [])
    -- its own number
    ∷ refuses "bytes=64\nobjects=8\nlinks=8\npiece=64\nlink=2,0\nend=1\n" 4 5 []
    -- its own number, with an object closed
    ∷ refuses "bytes=64\nobjects=8\nlinks=8\npiece=64\npiece=62\nlink=2,1\nend=2\n" 4 6 []
    -- a wrong width before a wrong number
    ∷ refuses "bytes=64\nobjects=8\nlinks=8\npiece=64\nlink=5,9\nend=1\n" 3 5 []
    -- no comma
    ∷ refuses "bytes=64\nobjects=8\nlinks=8\npiece=64\nlink=2\nend=1\n" 14 5 []
    -- no room for a link's field
    ∷ refuses "bytes=2\nobjects=8\nlinks=8\npiece=64\npiece=62\nlink=2,0\nend=2\n" 6 6 []
    -- no link left
    ∷ refuses "bytes=64\nobjects=8\nlinks=0\npiece=64\npiece=62\nlink=2,0\nend=2\n" 7 6 []
    -- no object left
    ∷ refuses "bytes=64\nobjects=1\nlinks=8\npiece=64\npiece=65\nend=2\n" 8 6 []
    ∷ []
