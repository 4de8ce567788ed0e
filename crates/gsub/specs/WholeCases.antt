-- docs/RULES.md, section 16: a small table of each lookup type and format, of feature parameters and of feature variations, counted by hand; and the same damaged.
use Rattle.std.specs.Prelude.{ℕ, ◌-◌, List, [], ◌∷◌, ◌++◌, length, take, drop, set}
use Rattle.gsub.specs.Cases.{Case, small, within, accepted, stops, Substitution, gives}

-- the small table's lists, and one lookup of this type, whose subtable is the last part
abbrev of : ℕ → List ℕ → List ℕ
of type sub = set (take 60 small) 53 type ++ sub

-- glyphs 5 and 9 become two and one
abbrev pub multiple : List ℕ
multiple =
    of 2 (
    (0 ∷ 1 ∷ 0 ∷ 10 ∷ 0 ∷ 2 ∷ 0 ∷ 18 ∷ 0 ∷ 24 ∷ [])
    ++ (0 ∷ 1 ∷ 0 ∷ 2 ∷ 0 ∷ 5 ∷ 0 ∷ 9 ∷ [])
    ++ (0 ∷ 2 ∷ 0 ∷ 7 ∷ 0 ∷ 8 ∷ [])
    ++ (0 ∷ 1 ∷ 0 ∷ 11 ∷ []))

-- glyph 5 has three alternates
abbrev pub alternate : List ℕ
alternate =
    of 3 (
    (0 ∷ 1 ∷ 0 ∷ 8 ∷ 0 ∷ 1 ∷ 0 ∷ 18 ∷ [])
    ++ (0 ∷ 2 ∷ 0 ∷ 1 ∷ 0 ∷ 5 ∷ 0 ∷ 5 ∷ 0 ∷ 0 ∷ [])
    ++ (0 ∷ 3 ∷ 0 ∷ 20 ∷ 0 ∷ 21 ∷ 0 ∷ 22 ∷ []))

-- 5 7 8 and 5 6 are ligatures, and 5 alone
abbrev pub ligatures : List ℕ
ligatures =
    of 4 (
    (0 ∷ 1 ∷ 0 ∷ 8 ∷ 0 ∷ 1 ∷ 0 ∷ 14 ∷ [])
    ++ (0 ∷ 1 ∷ 0 ∷ 1 ∷ 0 ∷ 5 ∷ [])
    ++ (0 ∷ 3 ∷ 0 ∷ 8 ∷ 0 ∷ 16 ∷ 0 ∷ 22 ∷ [])
    ++ (0 ∷ 30 ∷ 0 ∷ 3 ∷ 0 ∷ 7 ∷ 0 ∷ 8 ∷ [])
    ++ (0 ∷ 31 ∷ 0 ∷ 2 ∷ 0 ∷ 6 ∷ [])
    ++ (0 ∷ 32 ∷ 0 ∷ 1 ∷ []))

-- the second glyph covered has no rules
abbrev pub context1 : List ℕ
context1 =
    of 5 (
    (0 ∷ 1 ∷ 0 ∷ 10 ∷ 0 ∷ 2 ∷ 0 ∷ 18 ∷ 0 ∷ 0 ∷ [])
    ++ (0 ∷ 1 ∷ 0 ∷ 2 ∷ 0 ∷ 5 ∷ 0 ∷ 9 ∷ [])
    ++ (0 ∷ 2 ∷ 0 ∷ 6 ∷ 0 ∷ 16 ∷ [])
    ++ (0 ∷ 2 ∷ 0 ∷ 1 ∷ 0 ∷ 6 ∷ 0 ∷ 0 ∷ 0 ∷ 0 ∷ [])
    ++ (0 ∷ 1 ∷ 0 ∷ 0 ∷ []))

-- rules of class 1 alone
abbrev pub context2 : List ℕ
context2 =
    of 5 (
    (0 ∷ 2 ∷ 0 ∷ 14 ∷ 0 ∷ 22 ∷ 0 ∷ 3 ∷ 0 ∷ 0 ∷ 0 ∷ 38 ∷ 0 ∷ 0 ∷ [])
    ++ (0 ∷ 1 ∷ 0 ∷ 2 ∷ 0 ∷ 5 ∷ 0 ∷ 6 ∷ [])
    ++ (0 ∷ 2 ∷ 0 ∷ 2 ∷ 0 ∷ 5 ∷ 0 ∷ 6 ∷ 0 ∷ 1 ∷ 0 ∷ 8 ∷ 0 ∷ 9 ∷ 0 ∷ 2 ∷ [])
    ++ (0 ∷ 1 ∷ 0 ∷ 4 ∷ [])
    ++ (0 ∷ 3 ∷ 0 ∷ 2 ∷ 0 ∷ 1 ∷ 0 ∷ 2 ∷ 0 ∷ 0 ∷ 0 ∷ 0 ∷ 0 ∷ 2 ∷ 0 ∷ 0 ∷ []))

-- two glyphs, one lookup
abbrev pub context3 : List ℕ
context3 =
    of 5 (
    (0 ∷ 3 ∷ 0 ∷ 2 ∷ 0 ∷ 1 ∷ 0 ∷ 14 ∷ 0 ∷ 20 ∷ 0 ∷ 1 ∷ 0 ∷ 0 ∷ [])
    ++ (0 ∷ 1 ∷ 0 ∷ 1 ∷ 0 ∷ 5 ∷ [])
    ++ (0 ∷ 2 ∷ 0 ∷ 1 ∷ 0 ∷ 6 ∷ 0 ∷ 9 ∷ 0 ∷ 0 ∷ []))

-- 5, between 3 4 and 6
abbrev pub chained1 : List ℕ
chained1 =
    of 6 (
    (0 ∷ 1 ∷ 0 ∷ 10 ∷ 0 ∷ 2 ∷ 0 ∷ 0 ∷ 0 ∷ 18 ∷ [])
    ++ (0 ∷ 1 ∷ 0 ∷ 2 ∷ 0 ∷ 5 ∷ 0 ∷ 9 ∷ [])
    ++ (0 ∷ 1 ∷ 0 ∷ 4 ∷ [])
    ++ (0 ∷ 2 ∷ 0 ∷ 4 ∷ 0 ∷ 3 ∷ 0 ∷ 3 ∷ 0 ∷ 6 ∷ 0 ∷ 7 ∷ 0 ∷ 1 ∷ 0 ∷ 8 ∷ 0 ∷ 2 ∷ 0 ∷ 0 ∷ 0 ∷ 0 ∷ 0 ∷ 2 ∷ 0 ∷ 0 ∷ []))

-- no backtrack classes
abbrev pub chained2 : List ℕ
chained2 =
    of 6 (
    (0 ∷ 2 ∷ 0 ∷ 16 ∷ 0 ∷ 0 ∷ 0 ∷ 24 ∷ 0 ∷ 36 ∷ 0 ∷ 2 ∷ 0 ∷ 0 ∷ 0 ∷ 52 ∷ [])
    ++ (0 ∷ 1 ∷ 0 ∷ 2 ∷ 0 ∷ 5 ∷ 0 ∷ 6 ∷ [])
    ++ (0 ∷ 1 ∷ 0 ∷ 5 ∷ 0 ∷ 3 ∷ 0 ∷ 1 ∷ 0 ∷ 2 ∷ 0 ∷ 1 ∷ [])
    ++ (0 ∷ 2 ∷ 0 ∷ 2 ∷ 0 ∷ 5 ∷ 0 ∷ 6 ∷ 0 ∷ 1 ∷ 0 ∷ 8 ∷ 0 ∷ 9 ∷ 0 ∷ 2 ∷ [])
    ++ (0 ∷ 1 ∷ 0 ∷ 4 ∷ [])
    ++ (0 ∷ 0 ∷ 0 ∷ 2 ∷ 0 ∷ 1 ∷ 0 ∷ 1 ∷ 0 ∷ 2 ∷ 0 ∷ 1 ∷ 0 ∷ 0 ∷ 0 ∷ 0 ∷ []))

-- one before, two, none behind
abbrev pub chained3 : List ℕ
chained3 =
    of 6 (
    (0 ∷ 3 ∷ 0 ∷ 1 ∷ 0 ∷ 20 ∷ 0 ∷ 2 ∷ 0 ∷ 26 ∷ 0 ∷ 32 ∷ 0 ∷ 0 ∷ 0 ∷ 1 ∷ 0 ∷ 1 ∷ 0 ∷ 0 ∷ [])
    ++ (0 ∷ 1 ∷ 0 ∷ 1 ∷ 0 ∷ 3 ∷ [])
    ++ (0 ∷ 1 ∷ 0 ∷ 1 ∷ 0 ∷ 5 ∷ [])
    ++ (0 ∷ 1 ∷ 0 ∷ 1 ∷ 0 ∷ 6 ∷ []))

-- 5 and 6 before 9
abbrev pub reverse : List ℕ
reverse =
    of 8 (
    (0 ∷ 1 ∷ 0 ∷ 16 ∷ 0 ∷ 0 ∷ 0 ∷ 1 ∷ 0 ∷ 24 ∷ 0 ∷ 2 ∷ 0 ∷ 15 ∷ 0 ∷ 16 ∷ [])
    ++ (0 ∷ 1 ∷ 0 ∷ 2 ∷ 0 ∷ 5 ∷ 0 ∷ 6 ∷ [])
    ++ (0 ∷ 2 ∷ 0 ∷ 1 ∷ 0 ∷ 9 ∷ 0 ∷ 9 ∷ 0 ∷ 0 ∷ []))

-- two components behind the first
abbrev ligature_sub : List ℕ
ligature_sub =
    (0 ∷ 1 ∷ 0 ∷ 8 ∷ 0 ∷ 1 ∷ 0 ∷ 14 ∷ [])
    ++ (0 ∷ 1 ∷ 0 ∷ 1 ∷ 0 ∷ 5 ∷ [])
    ++ (0 ∷ 1 ∷ 0 ∷ 4 ∷ [])
    ++ (0 ∷ 30 ∷ 0 ∷ 3 ∷ 0 ∷ 7 ∷ 0 ∷ 8 ∷ [])

abbrev pub ligated : List ℕ
ligated = of 4 ligature_sub

-- behind an Extension
abbrev pub ligated_behind : List ℕ
ligated_behind = of 7 ((0 ∷ 1 ∷ 0 ∷ 4 ∷ 0 ∷ 0 ∷ 0 ∷ 8 ∷ []) ++ ligature_sub)

-- the small table with feature 'ss01' or 'cv99' in place of 'smcp', and its parameters behind the others
abbrev tagged : ℕ → ℕ → ℕ → ℕ → List ℕ → List ℕ
tagged a b c d params = set (set (set (set (set small 36 a) 37 b) 38 c) 39 d) 43 32 ++ params

abbrev pub stylistic : List ℕ
stylistic = tagged 115 115 48 49 (0 ∷ 0 ∷ 1 ∷ 0 ∷ [])

abbrev pub character : List ℕ
character = tagged 99 118 57 57 ((0 ∷ 0 ∷ 1 ∷ 0 ∷ 1 ∷ 1 ∷ 1 ∷ 2 ∷ 0 ∷ 2 ∷ 1 ∷ 3 ∷ []) ++ (0 ∷ 2 ∷ 0 ∷ 1 ∷ 2 ∷ 1 ∷ 0 ∷ 0 ∷ []))

abbrev pub sized : List ℕ
sized = tagged 115 105 122 101 (0 ∷ 100 ∷ 0 ∷ 1 ∷ 1 ∷ 0 ∷ 0 ∷ 80 ∷ 0 ∷ 120 ∷ [])

-- version 1.1, its FeatureVariations at this place
abbrev varied : ℕ → List ℕ → List ℕ
varied at variations = (0 ∷ 1 ∷ 0 ∷ 1 ∷ 0 ∷ 14 ∷ 0 ∷ 38 ∷ 0 ∷ 52 ∷ 0 ∷ 0 ∷ 0 ∷ at ∷ []) ++ (drop 10 small ++ variations)

-- one record: where axis 0 lies in a range feature 0 has no lookups
abbrev pub variable : List ℕ
variable =
    varied 78 (
    (0 ∷ 1 ∷ 0 ∷ 0 ∷ 0 ∷ 0 ∷ 0 ∷ 1 ∷ 0 ∷ 0 ∷ 0 ∷ 16 ∷ 0 ∷ 0 ∷ 0 ∷ 30 ∷ [])
    ++ (0 ∷ 1 ∷ 0 ∷ 0 ∷ 0 ∷ 6 ∷ [])
    ++ (0 ∷ 1 ∷ 0 ∷ 0 ∷ 32 ∷ 0 ∷ 64 ∷ 0 ∷ [])
    ++ (0 ∷ 1 ∷ 0 ∷ 0 ∷ 0 ∷ 1 ∷ 0 ∷ 0 ∷ 0 ∷ 0 ∷ 0 ∷ 12 ∷ [])
    ++ (0 ∷ 0 ∷ 0 ∷ 0 ∷ []))

-- with room for the whole table alone: accepted; with a byte less room: refused; with its last byte cut: refused at its last field
abbrev each : List ℕ → ℕ → ℕ → List Case
each b objects links =
    within objects links (length b) b 0
    ∷ within objects links (length b - 1) b 6
    ∷ stops (take (length b - 1) b) (length b - 2)
    ∷ []

abbrev pub whole_cases : List Case
whole_cases =
    each small 10 10
    ++ each multiple 12 12
    ++ each alternate 11 11
    ++ each ligatures 14 14
    ++ each context1 13 13
    ++ each context2 13 13
    ++ each context3 11 11
    ++ each chained1 12 12
    ++ each chained2 14 14
    ++ each chained3 12 12
    ++ each reverse 11 11
    ++ each ligated_behind 13 13
    ++ each stylistic 11 11
    ++ each sized 11 11
    ++ each variable 15 15
    ++ (accepted character
    ∷ accepted (varied 0 [])
    -- lookup types 0 and 9
    ∷ stops (set small 53 0) 52
    ∷ stops (set small 53 9) 52
    -- an Extension for types 0, 7 and 9
    ∷ stops (set ligated_behind 63 0) 62
    ∷ stops (set ligated_behind 63 7) 62
    ∷ stops (set ligated_behind 63 9) 62
    -- a Ligature of no components has none behind the first, like one of one
    ∷ accepted (set ligated 81 0)
    ∷ accepted (set ligated 81 1)
    -- formats
    ∷ stops (set multiple 61 2) 60
    ∷ stops (set context1 61 4) 60
    ∷ stops (set chained2 61 4) 60
    ∷ stops (set context2 83 3) 82
    -- a Coverage, an input ClassDef, a LigatureSet and a rule may not be NULL
    ∷ stops (set chained2 63 0) 62
    ∷ stops (set chained2 67 0) 66
    ∷ stops (set ligated 67 0) 66
    ∷ stops (set context1 81 0) 80
    -- a lookahead ClassDef may
    ∷ accepted (set chained2 69 0)
    -- parameters of a feature that has none; a feature that may have them without
    ∷ stops (set stylistic 36 116) 42
    ∷ stops (tagged 115 115 50 49 (0 ∷ 0 ∷ 1 ∷ 0 ∷ [])) 42
    ∷ stops (tagged 99 118 48 48 (0 ∷ 0 ∷ 1 ∷ 0 ∷ [])) 42
    ∷ accepted (set stylistic 43 0)
    ∷ stops (set stylistic 75 1) 74
    -- a featureOffset may not be NULL, nor may those of variations; more than 65,535 of these
    ∷ stops (set stylistic 41 0) 40
    ∷ stops (set variable 89 0) 86
    ∷ stops (set variable 93 0) 90
    ∷ stops (set variable 83 1) 82
    ∷ stops (set variable 3 2) 2
    ∷ [])

-- ---- lookups of type 1 among others

-- the small table with a ligature lookup in front of its own
abbrev pub mixed : List ℕ
mixed =
    take 48 small
    ++ (0 ∷ 2 ∷ 0 ∷ 6 ∷ 0 ∷ 40 ∷ [])
    ++ (0 ∷ 4 ∷ 0 ∷ 0 ∷ 0 ∷ 1 ∷ 0 ∷ 8 ∷ [])
    ++ ligature_sub
    ++ drop 52 small

abbrev pub mixed_substitutions : List Substitution
mixed_substitutions =
    gives mixed 5 5
    ∷ record { table = mixed; lookup = 1; glyph = 5; gives = 4 }
    ∷ gives ligated_behind 5 5
    ∷ gives reverse 5 5
    ∷ []
