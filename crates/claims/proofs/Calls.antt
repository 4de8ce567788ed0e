-- What holds of each of the eight calls on any lent memory.
use Rattle.std.specs.Prelude.{Ok}
use mathlib.Core.Path.{◌≡◌, refl, sym, ap, ◌∙◌}
use Prim.Native.Nat.{ℕ}
use mathlib.Core.List.{List}
use mathlib.Core.Bool.{Bool, true, false}
use native.Mathlib.Omega.{arith}
use borrow.Author.Tests.{ne_eqb}
use lib.ListN.{take, drop, replicate, length-replicate}
use lib.Dec.{ltb}
use Rattle.lists.specs.Lists.{pick, Exactly}
use Rattle.lists.proofs.Whole.{over-front, over-rest}
use Rattle.answer.specs.Number.{number}
use Rattle.answer.specs.declared.Refusal.{Refusal}
use Rattle.answer.specs.declared.PackedTable.{PackedTable}
use Rattle.model.specs.Judge.{Verdict, accepted, refused, number_of, in_table, Tells, verdict}
use Rattle.model.specs.Told.{Told, refusal, told_by, told_by_close, told_by_pack}
use Rattle.model.proofs.Refusals.{told-exactly, told-listed}
use Rattle.model.proofs.Verdicts.{refused-number}
use Rattle.layout.specs.Words.{closed_count}
use Rattle.steps.specs.Steps.{Out, CloseOut, tally_in, settle_step, settle_close, twin_in, close_twin, close_new, start_step, open_step, put_step, link_step, drop_step, tally_step, close_step}
use Rattle.steps.specs.Pack.{PackOut, packed, cleared, settle_pack_step, pack_step}
use Rattle.steps.specs.Runs.{StoreCall, start, open', put, link, close, drop as drop', tally, Stores, Left, left_by, left_by_close, step_on, LentCall, on_stores, pack, lent_step}
use Rattle.claims.specs.Calls.{tests_of, work_needed, clearing, Answers}
use Rattle.claims.proofs.Surplus.{Surplus, accepted-surplus}

-- ---- by a verdict: its number is told, and a refused call leaves the stores

abbrev Refuses : Stores → Told → Type 0
Refuses s t = (t.number ≡ 0 → ⊥) → (why : Refusal) × (t ≡ refusal why (tally_in s.bytes s.words))

record Judged (s : Stores) (v : Verdict) (l : Left) : Type 0 where
  number_is : l.told.number ≡ number_of v
  refuses : Refuses s l.told
  stands : (l.told.number ≡ 0 → ⊥) → l.stores ≡ s

module _ (s : Stores) where
  abbrev b : List ℕ
  b = s.bytes

  abbrev w : List ℕ
  w = s.words

  settled : (v : Verdict) (o : Out) → (told_by o.answer).number ≡ 0 → Judged s v (left_by (settle_step v b w o))
  settled accepted o e = record { number_is = e; refuses = λ n. absurd (n e); stands = λ n. absurd (n e) }
  settled (refused why) o e = record { number_is = refl; refuses = λ n. (why, refl); stands = λ n. refl }

  settled-close : (v : Verdict) (o : CloseOut) → (told_by_close o.answer).number ≡ 0 → Judged s v (left_by_close (settle_close v b w o))
  settled-close accepted o e = record { number_is = e; refuses = λ n. absurd (n e); stands = λ n. absurd (n e) }
  settled-close (refused why) o e = record { number_is = refl; refuses = λ n. (why, refl); stands = λ n. refl }

  closed-done : (x : Bool) → (told_by_close (pick x (close_twin b w) (close_new b w)).answer).number ≡ 0
  closed-done true = refl
  closed-done false = refl

  judged : (c : StoreCall) → Judged s (verdict (tests_of s (on_stores c))) (step_on c s)
  unfolding tests_of step_on start_step open_step put_step link_step drop_step tally_step close_step
  judged (start objects links) = settled (verdict (tests_of s (on_stores (start objects links)))) _ refl
  judged open' = settled (verdict (tests_of s (on_stores open'))) _ refl
  judged (put vs) = settled (verdict (tests_of s (on_stores (put vs)))) _ refl
  judged (link width id inner) = settled (verdict (tests_of s (on_stores (link width id inner)))) _ refl
  judged close = settled-close (verdict (tests_of s (on_stores close))) _ (closed-done (ltb (twin_in b w) (closed_count w)))
  judged drop' = settled (verdict (tests_of s (on_stores drop'))) _ refl
  judged tally = settled (verdict (tests_of s (on_stores tally))) _ refl

-- ---- the number

module _ (s : Stores) (c : LentCall) {n : ℕ} (e : n ≡ number_of (verdict (tests_of s c))) where
  number-exactly : (k : ℕ) → Exactly (n ≡ k) (Tells (tests_of s c) k)
  number-exactly k = rw e (told-exactly (tests_of s c) k)

  number-listed : in_table n ≡ true
  number-listed = told-listed (tests_of s c) ((number-exactly n).only refl)

-- ---- the calls on the two stores

store-surplus : (s : Stores) (c : StoreCall) → Surplus s c
store-surplus s c = go (verdict (tests_of s (on_stores c))) refl
  where
    go : (v : Verdict) → verdict (tests_of s (on_stores c)) ≡ v → Surplus s c
    go accepted e = accepted-surplus s c e
    go (refused why) e = rw ((judged s c).stands (λ z. omega (arith, refused-number why, sym ((judged s c).number_is ∙ ap number_of e) ∙ z)))

store-answers : (s : Stores) (c : StoreCall) → Answers s (on_stores c) (lent_step (on_stores c) s)
unfolding lent_step
store-answers s c =
    let j = judged s c in
    let e = j.number_is in
    record {
      exactly = number-exactly s (on_stores c) e;
      in_table = number-listed s (on_stores c) e;
      refused = j.refuses;
      stores_stand = j.stands;
      out_stands = λ n. refl;
      records_surplus = store-surplus s c;
      work_surplus = refl;
      work_cleared = λ id copies out work f k. absurd (let z : ◌≡◌ {A = ℕ} 0 1 = cc in omega arith);
      work_stands = λ k. refl;
    }

-- ---- pack

module _ (s : Stores) (id copies : ℕ) (out work : List ℕ) where
  -- by a verdict: its number is told, and a refused one leaves the output
  record JudgedPack (v : Verdict) (o : PackOut) : Type 0 where
    number_is : (told_by_pack o.answer).number ≡ number_of v
    refuses : Refuses s (told_by_pack o.answer)
    out_stands : ((told_by_pack o.answer).number ≡ 0 → ⊥) → o.out ≡ out
    -- the work memory cleared, or as it was
    work_is : o.work ≡ pick (clearing (number_of v)) (cleared copies s.words work) work

  packed-by : (v : Verdict) (n : PackedTable) (t : List ℕ) → JudgedPack v (settle_pack_step v copies s.bytes s.words out work (packed (Ok (record { table = n; tally = tally_in s.bytes s.words })) t (cleared copies s.words work)))
  packed-by accepted n t = record { number_is = refl; refuses = λ n. absurd (n refl); out_stands = λ n. absurd (n refl); work_is = refl }
  packed-by (refused why) n t = record { number_is = refl; refuses = λ n. (why, refl); out_stands = λ n. refl; work_is = rw (ne_eqb (number why) 0 (λ z. omega (arith, refused-number why))) }

  judged-pack : JudgedPack (verdict (tests_of s (pack id copies out work))) (pack_step id copies s.bytes s.words out work)
  unfolding tests_of pack_step
  judged-pack = packed-by (verdict (tests_of s (pack id copies out work))) _ _

  abbrev n : ℕ
  n = work_needed s copies

  past : (x : Bool) → drop n (pick x (cleared copies s.words work) work) ≡ drop n work
  past true = rw (length-replicate {A = ℕ} n 0) at (over-rest (replicate n 0) work)
  past false = refl

  zeros : take n (cleared copies s.words work) ≡ replicate n 0
  zeros = rw (length-replicate {A = ℕ} n 0) at (over-front (replicate n 0) work)

  pack-answers : Answers s (pack id copies out work) (lent_step (pack id copies out work) s)
  unfolding lent_step
  pack-answers =
      let j = judged-pack in
      let e = j.number_is in
      record {
        exactly = number-exactly s (pack id copies out work) e;
        in_table = number-listed s (pack id copies out work) e;
        refused = j.refuses;
        stores_stand = λ n. refl;
        out_stands = j.out_stands;
        records_surplus = refl;
        work_surplus = rw j.work_is (past (clearing (number_of (verdict (tests_of s (pack id copies out work))))));
        work_cleared = λ _ d _ _ f k. let q : d ≡ copies = cc in rw (q, j.work_is, rw e at k) zeros;
        work_stands = λ k. rw (j.work_is, rw e at k);
      }

pub answers : (s : Stores) (c : LentCall) → Answers s c (lent_step c s)
answers s (on_stores c) = store-answers s c
answers s (pack id copies out work) = pack-answers s id copies out work
