-- docs/RULES.md, 11.3 to 11.5: reading a table as the calls that it makes: fields are read, judged and put one by one, and each offset is followed as soon as it is read.
use Rattle.std.specs.Prelude.{ℕ, zero, suc, ◌+◌, ◌-◌, List, [], ◌∷◌, ◌++◌, length, eqb, leb}
use Rattle.lists.specs.Lists.{pick, part}
use Rattle.big_endian.specs.BigEndian.{read_big}
use Rattle.gsub.specs.declared.Kind.{Kind}
use Rattle.gsub.specs.declared.Rule.{Rule}
use Rattle.gsub.specs.declared.Rule.TheVariants.{Any, Only, To, ToOrNull, ToFeature}
use Rattle.gsub.specs.declared.Field.{Field}
pub use Rattle.gsub.specs.declared.Act.{Act}
pub use Rattle.gsub.specs.declared.Act.TheVariants.{Keep as keep, Follow as follow, Refuse as refuse}
use Rattle.gsub.specs.Tables.{word_at, fields_at}
use Rattle.gsub.specs.Features.{feature_by}
use Rattle.steps.specs.Runs.{StoreCall}
use Rattle.steps.specs.Runs as calls
use Rattle.steps.specs.Mirrored.{Step}

-- ---- one field

-- by the number v in it; `called` is the kind of Feature that the tag before it calls for
unfoldable pub by_rule : Rule → Kind → ℕ → Act
by_rule Any called v = keep
by_rule (Only x) called v = pick (eqb v x) keep refuse
by_rule (To k) called v = pick (eqb v 0) refuse (follow k)
by_rule (ToOrNull k) called v = pick (eqb v 0) keep (follow k)
by_rule ToFeature called v = pick (eqb v 0) refuse (follow called)

-- by the tag that stands in the four bytes before a place of the slice
abbrev pub feature_at : List ℕ → ℕ → Kind
feature_at b at = feature_by (word_at b (at - 4)) (word_at b (at - 2))

-- the number in a field of width w at a place of the slice
abbrev pub value_at : List ℕ → ℕ → ℕ → ℕ
value_at b at w = read_big (part at (at + w) b)

-- a read past the slice's end is refused before the number is judged
unfoldable pub act : List ℕ → ℕ → Field → Act
act b at f = pick (leb (at + f.width) (length b)) (by_rule f.rule (feature_at b at) (value_at b at f.width)) refuse

-- ---- what reading does: session calls, a link being to the object closed just before it; or refusal 15, with the field's place

abbrev pub bad_table : ℕ
bad_table = 15

pub data Op : Type 0 where
  begin : Op
  put : List ℕ → Op
  link : ℕ → Op
  end : Op
  stop : ℕ → Op

-- the field of width w at a of the table at p; `child` are a child's ops
unfoldable pub act_ops : (Kind → ℕ → List Op) → List ℕ → ℕ → ℕ → ℕ → Act → List Op
act_ops child b p a w keep = put (part (p + a) (p + a + w) b) ∷ []
act_ops child b p a w (follow k) = child k (p + value_at b (p + a) w) ++ (link w ∷ [])
act_ops child b p a w refuse = stop (p + a) ∷ []

-- a child's ops may hang on its offset's place a
unfoldable pub fields_ops : (ℕ → Kind → ℕ → List Op) → List ℕ → ℕ → ℕ → List Field → List Op
fields_ops child b p a [] = []
fields_ops child b p a (f ∷ fs) = act_ops (child a) b p a f.width (act b (p + a) f) ++ fields_ops child b p (a + f.width) fs

-- the table of kind k at p, given its children's ops
abbrev pub ops_by : (ℕ → Kind → ℕ → List Op) → List ℕ → Kind → ℕ → List Op
ops_by child b k p = begin ∷ (fields_ops child b p 0 (fields_at b k p) ++ (end ∷ []))

-- at most n tables deep
unfoldable pub table_ops : ℕ → List ℕ → Kind → ℕ → List Op
table_ops zero b k p = stop p ∷ []
table_ops (suc n) b k p = ops_by (λ a. table_ops n b) b k p

-- ---- the ops made, one call after the other, up to the first refusal

-- the number told, the root's id, refusal 15's place, and what is left
pub record Outcome (S : Type 0) : Type 0 where
  pub number : ℕ
  pub id : ℕ
  pub place : ℕ
  pub next : S

abbrev pub outcome : {S : Type 0} → ℕ → ℕ → ℕ → S → Outcome S
outcome n i p s = record { number = n; id = i; place = p; next = s }

-- a refused call ends it
abbrev pub go_on : {S : Type 0} → Step S → Outcome S → Outcome S
go_on t later = pick (eqb t.number 0) later (outcome t.number 0 0 t.next)

-- `i` is the id that the last close told
unfoldable pub perform : {S : Type 0} → (StoreCall → S → Step S) → List Op → ℕ → S → Outcome S
perform call [] i s = outcome 0 i 0 s
perform call (begin ∷ ops) i s = let t = call calls.open' s in go_on t (perform call ops i t.next)
perform call (put vs ∷ ops) i s = let t = call (calls.put vs) s in go_on t (perform call ops i t.next)
perform call (link w ∷ ops) i s = let t = call (calls.link w i 0) s in go_on t (perform call ops i t.next)
perform call (end ∷ ops) i s = let t = call calls.close s in go_on t (perform call ops t.id t.next)
perform call (stop p ∷ ops) i s = outcome bad_table 0 p s
