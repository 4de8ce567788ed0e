-- docs/RULES.md, section 11: small tables, counted by hand: what is told of each, whole or damaged, and what their lookup substitutes; and tables in which lookups are promoted.
use Rattle.std.specs.Prelude.{ℕ, List, [], ◌∷◌, ◌++◌, Bool, true, ◌&&◌, take, drop, set, eqb}
use Rattle.model.specs.Judge.{Limits}
use Rattle.model.specs.Session.{Needs}
use Rattle.model.specs.History.{History, begun}
use Rattle.steps.specs.Mirrored.{by_history}
use Rattle.gsub.specs.declared.Scope.{Scope}
use Rattle.gsub.specs.declared.Scope.TheVariants.{Whole}
use Rattle.gsub.specs.declared.Kind.TheVariants.{Header}
use Rattle.gsub.specs.Ops.{Outcome, table_ops, perform}
use Rattle.gsub.specs.Meaning.{deepest, gsub_reading}
use Rattle.gsub.specs.Substitute.{substitute, substitute_from}

-- ---- the tables, a line for each table in them

-- glyphs 5 and 9 go to 4 and 8, by a delta of 65,535; Script's two offsets lead to one LangSys
abbrev pub small : List ℕ
small =
    (0 ∷ 1 ∷ 0 ∷ 0 ∷ 0 ∷ 10 ∷ 0 ∷ 34 ∷ 0 ∷ 48 ∷ [])
    ++ (0 ∷ 1 ∷ 108 ∷ 97 ∷ 116 ∷ 110 ∷ 0 ∷ 8 ∷ [])
    ++ (0 ∷ 10 ∷ 0 ∷ 1 ∷ 84 ∷ 82 ∷ 75 ∷ 32 ∷ 0 ∷ 10 ∷ [])
    ++ (0 ∷ 0 ∷ 0 ∷ 0 ∷ 0 ∷ 0 ∷ [])
    ++ (0 ∷ 1 ∷ 115 ∷ 109 ∷ 99 ∷ 112 ∷ 0 ∷ 8 ∷ [])
    ++ (0 ∷ 0 ∷ 0 ∷ 1 ∷ 0 ∷ 0 ∷ [])
    ++ (0 ∷ 1 ∷ 0 ∷ 4 ∷ [])
    ++ (0 ∷ 1 ∷ 0 ∷ 0 ∷ 0 ∷ 1 ∷ 0 ∷ 8 ∷ [])
    ++ (0 ∷ 1 ∷ 0 ∷ 6 ∷ 255 ∷ 255 ∷ [])
    ++ (0 ∷ 1 ∷ 0 ∷ 2 ∷ 0 ∷ 5 ∷ 0 ∷ 9 ∷ [])

-- with a mark filtering set: glyphs 5 to 7 and 6 to 9 in ranges go to two substitutes from 20 on, then 5 and 30 go one up
abbrev pub ranges : List ℕ
ranges =
    take 52 small
    ++ (0 ∷ 1 ∷ 0 ∷ 16 ∷ 0 ∷ 2 ∷ 0 ∷ 12 ∷ 0 ∷ 38 ∷ 0 ∷ 3 ∷ [])
    ++ (0 ∷ 2 ∷ 0 ∷ 10 ∷ 0 ∷ 2 ∷ 0 ∷ 20 ∷ 0 ∷ 21 ∷ [])
    ++ (0 ∷ 2 ∷ 0 ∷ 2 ∷ 0 ∷ 5 ∷ 0 ∷ 7 ∷ 0 ∷ 0 ∷ 0 ∷ 6 ∷ 0 ∷ 9 ∷ 0 ∷ 0 ∷ [])
    ++ (0 ∷ 1 ∷ 0 ∷ 6 ∷ 0 ∷ 1 ∷ [])
    ++ (0 ∷ 1 ∷ 0 ∷ 2 ∷ 0 ∷ 5 ∷ 0 ∷ 30 ∷ [])

-- glyph 5 is covered twice
abbrev pub twice : List ℕ
twice =
    take 60 small
    ++ (0 ∷ 2 ∷ 0 ∷ 10 ∷ 0 ∷ 2 ∷ 0 ∷ 20 ∷ 0 ∷ 21 ∷ [])
    ++ (0 ∷ 1 ∷ 0 ∷ 2 ∷ 0 ∷ 5 ∷ 0 ∷ 5 ∷ [])

-- the small table's lookup as type 7, with an Extension before its subtable
abbrev pub extended : List ℕ
extended =
    set (take 60 small) 53 7
    ++ (0 ∷ 1 ∷ 0 ∷ 1 ∷ 0 ∷ 0 ∷ 0 ∷ 8 ∷ [])
    ++ drop 60 small

-- two offsets to one lookup of type 1 with a mark filtering set, then a lookup of type 7
abbrev pub listed : List ℕ
listed =
    take 48 small
    ++ (0 ∷ 3 ∷ 0 ∷ 8 ∷ 0 ∷ 8 ∷ 0 ∷ 18 ∷ [])
    ++ (0 ∷ 1 ∷ 0 ∷ 16 ∷ 0 ∷ 1 ∷ 0 ∷ 26 ∷ 0 ∷ 3 ∷ [])
    ++ (0 ∷ 7 ∷ 0 ∷ 0 ∷ 0 ∷ 1 ∷ 0 ∷ 8 ∷ [])
    ++ (0 ∷ 1 ∷ 0 ∷ 1 ∷ 0 ∷ 0 ∷ 0 ∷ 8 ∷ [])
    ++ drop 60 small

-- its last two promoted
abbrev pub listed2 : List ℕ
listed2 =
    take 48 small
    ++ (0 ∷ 3 ∷ 0 ∷ 8 ∷ 0 ∷ 18 ∷ 0 ∷ 28 ∷ [])
    ++ (0 ∷ 1 ∷ 0 ∷ 16 ∷ 0 ∷ 1 ∷ 0 ∷ 36 ∷ 0 ∷ 3 ∷ [])
    ++ (0 ∷ 7 ∷ 0 ∷ 16 ∷ 0 ∷ 1 ∷ 0 ∷ 18 ∷ 0 ∷ 3 ∷ [])
    ++ (0 ∷ 7 ∷ 0 ∷ 0 ∷ 0 ∷ 1 ∷ 0 ∷ 8 ∷ [])
    ++ (0 ∷ 1 ∷ 0 ∷ 1 ∷ 0 ∷ 0 ∷ 0 ∷ 8 ∷ [])
    ++ drop 60 small

-- ---- read on the history

abbrev no_needs : Needs
no_needs = record { records = λ m. 0; work = λ m copies. 0 }

unfoldable pub read_in : Scope → Limits → List ℕ → Outcome History
read_in s m b = perform (by_history no_needs 0 0) (table_ops deepest b (Header s) 0) 0 (begun m)

-- a table, the limits that it is read in, and the number and the place told
pub record Case : Type 0 where
  pub table : List ℕ
  pub limits : Limits
  pub number : ℕ
  pub place : ℕ

unfoldable pub told : Scope → Case → Bool
told s c = let o = read_in s c.limits c.table in eqb o.number c.number && eqb o.place c.place

unfoldable pub all_told : Scope → List Case → Bool
all_told s [] = true
all_told s (c ∷ cs) = told s c && all_told s cs

abbrev pub within : ℕ → ℕ → ℕ → List ℕ → ℕ → Case
within objects links bytes b n = record { table = b; limits = record { objects = objects; links = links; bytes = bytes }; number = n; place = 0 }

-- in limits wide enough
abbrev pub accepted : List ℕ → Case
accepted b = within 16 16 256 b 0

abbrev pub stops : List ℕ → ℕ → Case
stops b p = record { table = b; limits = record { objects = 16; links = 16; bytes = 256 }; number = 15; place = p }

-- the small table with another byte
abbrev pub but : ℕ → ℕ → List ℕ
but at v = set small at v

abbrev pub cases : List Case
cases =
    accepted small
    ∷ accepted ranges
    ∷ accepted twice
    ∷ accepted extended
    -- defaultLangSysOffset may be NULL
    ∷ accepted (but 19 0)
    -- cut: nothing, before the FeatureList, in the last glyph
    ∷ stops [] 0
    ∷ stops (take 34 small) 34
    ∷ stops (take 73 small) 72
    -- version 2.0, version 1.1
    ∷ stops (but 1 2) 0
    ∷ stops (but 3 1) 2
    -- lookup type 2
    ∷ stops (but 53 2) 52
    -- an Extension's format, and the lookup types 2 and 7 in it
    ∷ stops (set extended 61 2) 60
    ∷ stops (set extended 63 2) 62
    ∷ stops (set extended 63 7) 62
    -- its offset leads nowhere, and outside
    ∷ stops (set extended 67 0) 64
    ∷ stops (set extended 64 1) 16777284
    -- substFormat 3, coverageFormat 3
    ∷ stops (but 61 3) 60
    ∷ stops (but 67 3) 66
    -- lookupOrderOffset and featureParamsOffset must be NULL
    ∷ stops (but 29 1) 28
    ∷ stops (but 43 1) 42
    -- no other offset may
    ∷ stops (but 5 0) 4
    ∷ stops (but 7 0) 6
    ∷ stops (but 9 0) 8
    ∷ stops (but 17 0) 16
    ∷ stops (but 27 0) 26
    ∷ stops (but 41 0) 40
    ∷ stops (but 51 0) 50
    ∷ stops (but 59 0) 58
    ∷ stops (but 63 0) 62
    -- lookupListOffset leads outside
    ∷ stops (but 9 255) 255
    -- just room enough, and less: of bytes, of links, of objects
    ∷ within 10 10 74 small 0
    ∷ within 10 10 73 small 6
    ∷ within 10 9 74 small 7
    ∷ within 9 10 74 small 8
    ∷ within 12 12 104 ranges 0
    ∷ within 12 12 103 ranges 6
    ∷ within 11 11 82 extended 0
    ∷ within 11 11 81 extended 6
    ∷ []

-- ---- what a lookup substitutes, of the table's reading and of the table itself

pub record Substitution : Type 0 where
  pub table : List ℕ
  pub lookup : ℕ
  pub glyph : ℕ
  pub gives : ℕ

abbrev pub gives : List ℕ → ℕ → ℕ → Substitution
gives b g x = record { table = b; lookup = 0; glyph = g; gives = x }

unfoldable pub given : Substitution → Bool
given c = eqb (substitute (gsub_reading Whole c.table) c.lookup c.glyph) c.gives && eqb (substitute_from c.table c.lookup c.glyph) c.gives

unfoldable pub all_given : List Substitution → Bool
all_given [] = true
all_given (c ∷ cs) = given c && all_given cs

abbrev pub substitutions : List Substitution
substitutions =
    gives small 5 4
    ∷ gives small 9 8
    ∷ gives small 6 6
    -- no such lookup
    ∷ record { table = small; lookup = 1; glyph = 5; gives = 5 }
    -- the first subtable that covers, the first range
    ∷ gives ranges 5 20
    ∷ gives ranges 6 21
    -- past the substitutes
    ∷ gives ranges 7 7
    ∷ gives ranges 9 9
    -- the second subtable, none
    ∷ gives ranges 30 31
    ∷ gives ranges 10 10
    -- the first entry
    ∷ gives twice 5 20
    -- behind an Extension
    ∷ gives extended 5 4
    ∷ gives extended 6 6
    ∷ []
