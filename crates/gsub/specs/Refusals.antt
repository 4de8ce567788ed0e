-- docs/RULES.md, 11.4 and 11.5: which tables a read comes to, why a field of one is refused, and how far a read gets.
use Rattle.std.specs.Prelude.{◌≡◌, ℕ, ◌+◌, ◌<◌, List, [], ◌∷◌, ◌++◌, Bool, ◌||◌, length, eqb}
use Rattle.answer.specs.Number.{number}
use Rattle.answer.specs.declared.Refusal.TheVariants as Refusal
use Rattle.steps.specs.Runs.{StoreCall}
use Rattle.steps.specs.Mirrored.{Step}
use Rattle.gsub.specs.declared.Scope.{Scope}
use Rattle.gsub.specs.declared.Kind.{Kind}
use Rattle.gsub.specs.declared.Kind.TheVariants.{Header}
use Rattle.gsub.specs.declared.Rule.TheVariants.{Only, To, ToFeature}
use Rattle.gsub.specs.declared.Field.{Field}
use Rattle.gsub.specs.Tables.{fields_at}
use Rattle.gsub.specs.Ops.{value_at, act, follow, bad_table, Op, perform}

-- why a field at a place of the slice is refused: it passes the end; it holds another number than it must; it leads to no table
pub data Bad (b : List ℕ) (at : ℕ) (f : Field) : Type 0 where
  passes : length b < at + f.width → Bad b at f
  another : (v : ℕ) → f.rule ≡ Only v → (value_at b at f.width ≡ v → ⊥) → Bad b at f
  null : (k : Kind) → f.rule ≡ To k → value_at b at f.width ≡ 0 → Bad b at f
  null-feature : f.rule ≡ ToFeature → value_at b at f.width ≡ 0 → Bad b at f

-- f is one of these fields, and a bytes stand before it
pub data FieldAt (f : Field) : ℕ → List Field → Type 0 where
  here : {fs : List Field} → FieldAt f 0 (f ∷ fs)
  there : {a : ℕ} {g : Field} {fs : List Field} → FieldAt f a fs → FieldAt f (g.width + a) (g ∷ fs)

-- the tables that offsets lead to, from the header at 0 on
pub data Met (s : Scope) (b : List ℕ) : Kind → ℕ → Type 0 where
  header : Met s b (Header s) 0
  child : {k j : Kind} {p a : ℕ} {f : Field} → Met s b k p → FieldAt f a (fields_at b k p) → act b (p + a) f ≡ follow j → Met s b j (p + value_at b (p + a) f.width)

-- a field of one of them is refused at this place
pub record BadAt (s : Scope) (b : List ℕ) (place : ℕ) : Type 0 where
  pub kind : Kind
  pub table : ℕ
  pub met : Met s b kind table
  pub at : ℕ
  pub field : Field
  pub stands : FieldAt field at (fields_at b kind table)
  pub place_is : place ≡ table + at
  pub bad : Bad b place field

-- the ops before this one are made, and none of them is refused
pub record Reaches {S : Type 0} (call : StoreCall → S → Step S) (ops : List Op) (i : ℕ) (s : S) (o : Op) : Type 0 where
  pub before : List Op
  pub behind : List Op
  pub whole : ops ≡ before ++ (o ∷ behind)
  pub made : (perform call before i s).number ≡ 0

-- and this one settles what is told
pub record Settles {S : Type 0} (call : StoreCall → S → Step S) (ops : List Op) (i : ℕ) (s : S) : Type 0 where
  pub refused : Op
  pub reaches : Reaches call ops i s refused
  pub settles : let t = perform call reaches.before i s in perform call ops i s ≡ perform call (refused ∷ []) t.id t.next

-- the numbers that the ops of a table can tell
unfoldable pub tellable : ℕ → Bool
tellable k =
    eqb k 0
    || (eqb k bad_table
    || (eqb k (number Refusal.StoreFull) || (eqb k (number Refusal.LinksFull) || (eqb k (number Refusal.ObjectsFull) || eqb k (number Refusal.Hopeless)))))
