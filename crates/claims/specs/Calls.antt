-- docs/RULES.md, section 6: what holds of each of the eight calls on any lent memory, sound or not.
use Rattle.std.specs.Prelude.{ℕ, ◌-◌, ◌≡◌, List, [], Bool, true, false, ◌||◌, length, take, drop, replicate, eqb}
use Rattle.lists.specs.Lists.{Exactly}
use Rattle.answer.specs.declared.Refusal.{Refusal}
use Rattle.model_orders.specs.Object.{hopeless_object}
use Rattle.model_orders.specs.Copies.{length_of}
use Rattle.model.specs.Session.{arranged_in}
use Rattle.model.specs.Judge.{Test, Tells, in_table, start_tests, open_tests, put_tests, link_tests, close_tests, drop_tests, tally_tests, pack_tests}
use Rattle.model.specs.Told.{refusal}
use Rattle.layout.specs.Words.{object_limit, link_limit, need, limits_in, top}
use Rattle.work.specs.Areas.{work_need}
use Rattle.layout.specs.Decode.{decode}
use Rattle.layout.specs.Sound.{sound}
use Rattle.steps.specs.Steps.{tally_in, limits_of, under, innermost_in, made_link, twin_in}
use Rattle.steps.specs.Runs.{StoreCall, start, open', put, link, close, drop as drop_call, tally, Stores, LentCall, on_stores, pack, LentLeft}

-- a call's tests, in their order
module _ (s : Stores) where
  abbrev b : List ℕ
  b = s.bytes

  abbrev w : List ℕ
  w = s.words

  unfoldable pub tests_of : LentCall → List Test
  tests_of (on_stores (start objects links)) = start_tests (limits_of objects links b) (need objects links) (length w)
  tests_of (on_stores open') = open_tests (sound b w) (tally_in b w)
  tests_of (on_stores (put vs)) = put_tests (sound b w) (limits_in w) (tally_in b w) (length vs)
  tests_of (on_stores (link width id inner)) = link_tests (sound b w) (limits_in w) (tally_in b w) (made_link width id inner w).slot id
  tests_of (on_stores close) = close_tests (sound b w) (limits_in w) (tally_in b w) (top w - under w) (hopeless_object (innermost_in b w)) (twin_in b w)
  tests_of (on_stores drop_call) = drop_tests (sound b w) (tally_in b w)
  tests_of (on_stores tally) = tally_tests (sound b w)
  tests_of (pack id copies out work) =
      let c = arranged_in (decode b w) id copies in
      pack_tests (sound b w) (tally_in b w) id copies (length work) (work_need (object_limit w) (link_limit w) copies) (length out) (length_of c) c.outcome

  -- how many words the record store needs, for the limits noted in the stores, and with so many copies allowed the work memory
  abbrev pub records_needed : ℕ
  records_needed = need (object_limit w) (link_limit w)

  abbrev pub work_needed : ℕ → ℕ
  work_needed copies = work_need (object_limit w) (link_limit w) copies

-- what a call is lent beside the stores
abbrev pub out_in : LentCall → List ℕ
out_in (on_stores c) = []
out_in (pack id copies out work) = out

abbrev pub work_in : LentCall → List ℕ
work_in (on_stores c) = []
work_in (pack id copies out work) = work

-- the copies that a call allows
abbrev pub copies_in : LentCall → ℕ
copies_in (on_stores c) = 0
copies_in (pack id copies out work) = copies

-- the numbers beside which a pack clears the needed work memory
abbrev pub clearing : ℕ → Bool
clearing k = eqb k 0 || (eqb k 10 || eqb k 11)

pub record Answers (s : Stores) (c : LentCall) (l : LentLeft) : Type 0 where
  -- each number exactly where its test is the first that applies
  pub exactly : (k : ℕ) → Exactly (l.told.number ≡ k) (Tells (tests_of s c) k)
  pub in_table : in_table l.told.number ≡ true
  -- a refusal tells no more than its number, the tally beside it, and the link that 11 names
  pub refused : (l.told.number ≡ 0 → ⊥) → (why : Refusal) × (l.told ≡ refusal why (tally_in s.bytes s.words))
  -- a refused call leaves both stores and the output as they were
  pub stores_stand : (l.told.number ≡ 0 → ⊥) → l.stores ≡ s
  pub out_stands : (l.told.number ≡ 0 → ⊥) → l.out ≡ out_in c
  -- words past the needs are never touched, whatever is told; a start's limits are those that it notes
  pub records_surplus : drop (records_needed l.stores) l.stores.words ≡ drop (records_needed l.stores) s.words
  pub work_surplus : drop (work_needed s (copies_in c)) l.work ≡ drop (work_needed s (copies_in c)) (work_in c)
  -- a pack's 0, 10 and 11 leave zeros in the needed work memory; every other number leaves it as it was
  pub work_cleared :
      (id copies : ℕ) (out work : List ℕ) → c ≡ pack id copies out work → clearing l.told.number ≡ true
      → take (work_needed s copies) l.work ≡ replicate (work_needed s copies) 0
  pub work_stands : clearing l.told.number ≡ false → l.work ≡ work_in c
