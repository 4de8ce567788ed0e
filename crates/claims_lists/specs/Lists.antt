-- docs/RULES.md, section 8, 11.8, 14.6, 15.8 and 16.1: lists of all calls, in which a read, a batch and a promotion stand for several of the eight.
use Rattle.std.specs.Prelude.{ℕ, ◌≡◌, List, [], ◌∷◌, ◌++◌, map, eqb, length}
use Rattle.lists.specs.Lists.{pick, over}
use Rattle.model.specs.History.{History, begun}
use Rattle.steps.specs.Steps.{limits_of}
use Rattle.steps.specs.Runs.{start, Stores, LentCall, on_stores, pack, LentLeft, lent_step}
use Rattle.claims.specs.Demand.{needs, Made, run, stores_after, history_after, AllClaim}
use Rattle.gsub.specs.declared.Scope.{Scope}
use Rattle.gsub.specs.Promote.{trial_ops}
use Rattle.gsub_read.specs.Read.{ReadTold, ReadLeft, ops_expected, read_expected, read_calls}
use Rattle.gsub_promote.specs.Search.{Lent, lent, PromoteLeft, before, promote_calls}
use Rattle.session_batch.specs.Batch.{Batch, BatchLeft, batch_expected, batch_ids, batch_calls}

-- a read of either scope with its arguments, and what it told and left
pub record MadeRead : Type 0 where
  pub scope : Scope
  pub table : List ℕ
  pub objects : ℕ
  pub links : ℕ
  pub left : ReadLeft

-- a batch with its calls and bytes, the ids and the work memory that it was lent, and what it told and left
pub record MadeBatch : Type 0 where
  pub calls : List ℕ
  pub bytes : List ℕ
  pub ids : List ℕ
  pub work : List ℕ
  pub left : BatchLeft

-- a promotion of either scope with its arguments, the output and the work memory that it was lent, and what it told and left
pub record MadePromote : Type 0 where
  pub scope : Scope
  pub table : List ℕ
  pub objects : ℕ
  pub links : ℕ
  pub out : List ℕ
  pub work : List ℕ
  pub left : PromoteLeft

-- one of the eight calls, a read, a batch or a promotion
pub data AnyMade : Type 0 where
  call : Made → AnyMade
  read : MadeRead → AnyMade
  batch : MadeBatch → AnyMade
  promote : MadePromote → AnyMade

-- the stores that it left
abbrev pub left_by : AnyMade → Stores
left_by (call m) = m.left.stores
left_by (read r) = r.left.stores
left_by (batch b) = b.left.stores
left_by (promote p) = p.left.left.stores

-- each gets the stores as the one before left them; `made` says which there are on given stores
pub data RanAny (made : Stores → AnyMade → Type 0) : Stores → List AnyMade → Type 0 where
  none : {s : Stores} → RanAny made s []
  more : {s : Stores} {x : AnyMade} {xs : List AnyMade} → made s x → RanAny made (left_by x) xs → RanAny made s (x ∷ xs)

-- what of a batch the history is fed
abbrev pub arguments_of : MadeBatch → Batch
arguments_of b = record { calls = b.calls; bytes = b.bytes; room = length b.ids; work = length b.work }

-- the pack of an accepted promotion: its work memory is as the trials before it left it, of which the history is fed the length alone
abbrev pub pack_call_of : Stores → MadePromote → LentCall
pack_call_of s p = pack p.left.told.id 0 p.out (before p.scope p.table p.objects p.links (lent s p.out p.work) p.left.told.lookups).work

module _ (bytes words : ℕ) where
  -- the calls that it stands for on these stores, by its arguments, the stores' lengths and the history before it; of an accepted promotion those of the trial with as many lookups
  -- promoted as it told, and the pack
  abbrev pub stands_for : Stores → History → AnyMade → List LentCall
  stands_for s h (call m) = m.call ∷ []
  stands_for s h (read r) = map on_stores (read_calls needs bytes words r.scope r.table r.objects r.links)
  stands_for s h (batch b) = map on_stores (batch_calls needs bytes words (arguments_of b) h)
  stands_for s h (promote p) =
      map on_stores (promote_calls needs bytes words p.scope p.table p.objects p.links p.left.told) ++ pick (eqb p.left.told.number 0) (pack_call_of s p ∷ []) []

  -- these with what each left: of one of the eight, what it did leave
  abbrev pub made_by : History → AnyMade → Stores → List Made
  made_by h (call m) s = m ∷ []
  made_by h (read r) s = run (stands_for s h (read r)) s
  made_by h (batch b) s = run (stands_for s h (batch b)) s
  made_by h (promote p) s = run (stands_for s h (promote p)) s

  -- a list as one of the eight calls
  unfoldable pub as_calls : List AnyMade → Stores → History → List Made
  as_calls [] s h = []
  as_calls (x ∷ xs) s h = let ms = made_by h x s in ms ++ as_calls xs (stores_after ms s) (history_after bytes words ms h)

  -- what a promotion tells where it is accepted: what the history says of the trial's read, and what the pack tells and leaves
  pub record Promotes (p : MadePromote) (e : ReadTold) (l : LentLeft) : Type 0 where
    pub readable : e.number ≡ 0
    pub id-is : p.left.told.id ≡ e.id
    pub tally-is : p.left.told.tally ≡ e.tally
    pub packed : l.told.number ≡ 0
    pub length-is : p.left.told.length ≡ l.told.length
    pub output-is : p.left.left.out ≡ l.out

  -- a read, a batch and a promotion tell what the history says, and leave the stores as the calls that they stand for leave them
  unfoldable pub Right : AnyMade → Stores → History → Type 0
  Right (call m) s h = Unit {0}
  Right (read r) s h = (r.left.told ≡ read_expected needs bytes words r.scope r.table r.objects r.links) × (r.left.stores ≡ stores_after (made_by h (read r) s) s)
  Right (batch b) s h =
      (b.left.told ≡ batch_expected needs bytes words (arguments_of b) h)
      × (b.left.ids ≡ over 0 (batch_ids needs bytes words (arguments_of b) h) b.ids)
      × (b.left.stores ≡ stores_after (made_by h (batch b) s) s)
  Right (promote p) s h =
      (p.left.told.number ≡ 0 → Promotes p (ops_expected needs bytes words (trial_ops p.scope p.left.told.lookups p.table) p.objects p.links) (lent_step (pack_call_of s p) p.left.left.stores))
      × (p.left.left.stores ≡ stores_after (made_by h (promote p) s) s)

  unfoldable pub AllRight : List AnyMade → Stores → History → Type 0
  AllRight [] s h = Unit {0}
  AllRight (x ∷ xs) s h = Right x s h × AllRight xs (left_by x) (history_after bytes words (made_by h x s) h)

-- a batch starts no session
abbrev pub MayBegin : AnyMade → Type 0
MayBegin (call m) = Unit {0}
MayBegin (read r) = Unit {0}
MayBegin (batch b) = ⊥
MayBegin (promote p) = Unit {0}

-- every list that begins with an accepted start, a read's or a promotion's own included, whatever was held before: as a list of the eight calls it is as the history
-- says, and so is each read, batch and promotion
abbrev pub EveryAnyList : (Stores → AnyMade → Type 0) → Type 0
EveryAnyList made =
    (objects links : ℕ) (s : Stores) (earlier : History) (x : AnyMade) (xs : List AnyMade) (first : Made) (rest : List Made) → RanAny made s (x ∷ xs) → MayBegin x
    → let bytes = length s.bytes in
    let words = length s.words in
    as_calls bytes words (x ∷ xs) s earlier ≡ first ∷ rest → first.call ≡ on_stores (start objects links) → first.left.told.number ≡ 0
    → AllClaim bytes words rest first.left.stores (begun (limits_of objects links s.bytes)) × AllRight bytes words (x ∷ xs) s earlier
