-- A turn is the next call's step, whatever is done with the rest.
use Rattle.std.specs.Prelude.{Option, Some, None, Result, Ok, Err}
use mathlib.Core.Path.{◌≡◌, refl, sym, ap, subst, ◌∙◌}
use mathlib.Core.Bool.{true}
use Prim.Native.Nat.{ℕ, ◌+◌, ◌-◌, ◌≤◌, ◌<◌}
use mathlib.Core.List.{List, [], ◌∷◌, ◌++◌}
use native.Mathlib.Omega.{arith}
use native.Mathlib.Numerals.{add-one}
use borrow.Author.Tests.{ne_eqb}
use lib.Dec.{eqb}
use lib.ListN.{length, take, drop, set, length-set, length-take, length-drop}
use lib.Seq.{drop-drop, drop-set-lt, take-suc-set}
use Rattle.lists.specs.Lists.{pick, part}
use Rattle.lists.proofs.Runs.{part-rest}
use Rattle.answer.specs.Number.{number}
use Rattle.answer.specs.declared.ObjectId.{ObjectId}
use Rattle.answer.specs.declared.Refusal.{Refusal}
use Rattle.answer.specs.declared.tally.Tally.{Tally}
use Rattle.answer.specs.Answers.{Answer, Closing}
use Rattle.model.proofs.Verdicts.{refused-number}
use Rattle.steps.specs.Steps.{CloseOut, outcome, closing, close_step}
use Rattle.steps.specs.Runs.{StoreCall, close, Stores, Left, left_by, left_by_close, step_on}
use Rattle.steps.specs.Mirrored.{by_stores}
use Rattle.session_batch.specs.Calls.{says}
use Rattle.session_batch.specs.Batch.{Underway, Ended, ended, ids_after, onward, turn}
use Rattle.session_batch_words.specs.Next.{said_by, words_taken, bytes_taken, Says}
use Rattle.session_batch_words.specs.declared.Call.{Call}
use Rattle.session_batch_words.specs.declared.NoCall.{NoCall}
use Rattle.session_batch_calls.specs.Carried.{call_by, CallOk, CarriedBy}
use Rattle.session_indexed.specs.Close.{Keeping, Kept}
use Rattle.session_indexed.proofs.Stays.{quiet}
use Rattle.session_indexed.proofs.Keeps.{keeping-quiet, keeping-close}
use Rattle.session_batch_turn.specs.declared.Progress.{Progress}
use Rattle.session_batch_turn.specs.declared.Ending.{Ending}
use Rattle.session_batch_turn.specs.declared.Turn.{Turn}
use Rattle.session_batch_turn.specs.declared.Turn.TheVariants.{On, Over}
use Rattle.session_batch_turn.specs.Turn.{Lent, lent, underway, Inside, Ready, next_said, NextSays, end_number, Turned, after_call, CallTurned, after_close, ids_with, CloseTurned}

-- ---- the next call, as it is read

pub next-says : {calls bytes ids : List ℕ} {p : Progress} {n : Result (Option Call) NoCall} → Inside calls bytes ids p
    → Says (length ids) (take p.told ids) (length bytes - p.bytes) (part p.words (length calls) calls) n → NextSays calls bytes ids p n
next-says {calls} {bytes} {ids} {p} {n} k s =
    let r = subst (λ ws. Says (length ids) (take p.told ids) (length bytes - p.bytes) ws n) (part-rest p.words calls) s in
    record {
      is = r.is (drop p.bytes bytes) (length-drop p.bytes bytes);
      within = record { in_words = omega (arith, length-drop p.words calls); in_bytes = r.within.in_bytes; in_ids = omega (arith, length-take p.told ids) };
    }

-- ---- calls other than close

pub call_ok : (bytes : List ℕ) (n : Result (Option Call) NoCall) → bytes_taken n ≤ length bytes → CallOk bytes n
unfolding CallOk
call_ok bytes (Ok None) h = tt
call_ok bytes (Ok (Some Call.Open)) h = tt
call_ok bytes (Ok (Some (Call.Put n))) h = h
call_ok bytes (Ok (Some (Call.Link width id inner))) h = tt
call_ok bytes (Ok (Some Call.Close)) h = tt
call_ok bytes (Ok (Some Call.Drop)) h = tt
call_ok bytes (Err e) h = tt

call-quiet : (bytes : List ℕ) (n : Result (Option Call) NoCall) → quiet (call_by bytes n) ≡ true
unfolding call_by quiet
call-quiet bytes (Ok None) = refl
call-quiet bytes (Ok (Some Call.Open)) = refl
call-quiet bytes (Ok (Some (Call.Put n))) = refl
call-quiet bytes (Ok (Some (Call.Link width id inner))) = refl
call-quiet bytes (Ok (Some Call.Close)) = refl
call-quiet bytes (Ok (Some Call.Drop)) = refl
call-quiet bytes (Err e) = refl

-- they tell no id
call-ids : (bytes : List ℕ) (n : Result (Option Call) NoCall) (id : ℕ) (ids : List ℕ) → ids_after (call_by bytes n) id ids ≡ ids
unfolding call_by
call-ids bytes (Ok None) id ids = refl
call-ids bytes (Ok (Some Call.Open)) id ids = refl
call-ids bytes (Ok (Some (Call.Put n))) id ids = refl
call-ids bytes (Ok (Some (Call.Link width id inner))) i ids = refl
call-ids bytes (Ok (Some Call.Close)) id ids = refl
call-ids bytes (Ok (Some Call.Drop)) id ids = refl
call-ids bytes (Err e) id ids = refl

-- a call, and not close
pub record Other (n : Result (Option Call) NoCall) : Type 0 where
  pub call : Call
  pub is : n ≡ Ok (Some call)
  pub other : call ≡ Call.Close → ⊥

call-said : (bytes words : List ℕ) (n : Result (Option Call) NoCall) → Other n → said_by bytes words n ≡ says (call_by bytes n) (drop (words_taken n) words) (drop (bytes_taken n) bytes)
unfolding call_by
call-said bytes words n k = rw k.is (go k.call k.other)
  where
    go : (c : Call) → (c ≡ Call.Close → ⊥) → said_by bytes words (Ok (Some c)) ≡ says (call_by bytes (Ok (Some c))) (drop (words_taken (Ok (Some c))) words) (drop (bytes_taken (Ok (Some c))) bytes)
    go Call.Open h = refl
    go (Call.Put n) h = refl
    go (Call.Link width id inner) h = refl
    go Call.Close h = absurd (h refl)
    go Call.Drop h = refl

call-words : (n : Result (Option Call) NoCall) → Other n → 0 < words_taken n
call-words n k = rw k.is (go k.call)
  where
    go : (c : Call) → 0 < words_taken (Ok (Some c))
    go Call.Open = omega arith
    go (Call.Put n) = omega arith
    go (Call.Link width id inner) = omega arith
    go Call.Close = omega arith
    go Call.Drop = omega arith

-- ---- a call's answer

module _ {b w b' w' : List ℕ} (bytes : List ℕ) (n : Result (Option Call) NoCall) (p : Progress) {a : Answer} (c : CarriedBy (call_by (part p.bytes (length bytes) bytes) n) b w a b' w') where
  carried-rest : CarriedBy (call_by (drop p.bytes bytes) n) b w a b' w'
  carried-rest = subst (λ vs. CarriedBy (call_by vs n) b w a b' w') (part-rest p.bytes bytes) c

  pub call-done : {t : Tally} {ws bs : ℕ} → a ≡ Ok t → ws ≡ words_taken n → bs ≡ bytes_taken n
      → CallTurned b w bytes n p (On (record { words = p.words + ws; bytes = p.bytes + bs; told = p.told; calls = p.calls + 1 })) b' w'
  call-done e f g = record { answer = a; carried = carried-rest; is = rw (f, g) (sym (ap (λ x. after_call x n p) e)) }

  pub call-refused : {why : Refusal} {t : Tally} → a ≡ Err (record { why = why; tally = t }) → CallTurned b w bytes n p (Over (Ending.Refused why)) b' w'
  call-refused e = record { answer = a; carried = carried-rest; is = sym (ap (λ x. after_call x n p) e) }

module _ {buckets : ℕ} {l : Lent} {p : Progress} {b' w' m' : List ℕ} {a : Closing} (c : Kept l.stores.bytes l.stores.words b' w' m' buckets a) where
  pub close-done : {id : ObjectId} {t : Tally} → a ≡ Ok (record { id = id; tally = t })
      → CloseTurned buckets l p (On (record { words = p.words + 1; bytes = p.bytes; told = p.told + 1; calls = p.calls + 1 })) (lent b' w' (set l.ids p.told id.0) m')
  close-done e = record { closing = a; kept = c; is = sym (ap (λ x. after_close x p) e); ids = sym (ap (λ x. ids_with x p.told l.ids) e) }

  pub close-refused : {why : Refusal} {t : Tally} → a ≡ Err (record { why = why; tally = t }) → CloseTurned buckets l p (Over (Ending.Refused why)) (lent b' w' l.ids m')
  close-refused e = record { closing = a; kept = c; is = sym (ap (λ x. after_close x p) e); ids = sym (ap (λ x. ids_with x p.told l.ids) e) }

-- ---- by what the step left

module _ (rest : Underway Stores → Ended Stores) (u : Underway Stores) (c : StoreCall) (ws bs : List ℕ) where
  abbrev leading : Left → Ended Stores
  leading x = pick (eqb x.told.number 0) (rest (onward c (record { number = x.told.number; id = x.told.id; next = x.stores }) ws bs u)) (ended x.told.number x.stores u)

  by-step : {x : Left} → x ≡ step_on c u.state → turn by_stores rest u (says c ws bs) ≡ leading x
  by-step e = sym (ap leading e)

close-left : (s : Stores) {o : CloseOut} → o ≡ close_step s.bytes s.words → left_by_close o ≡ step_on close s
unfolding step_on
close-left s e = ap left_by_close e

-- its id behind those told
told_more : (ids : List ℕ) (told id : ℕ) → told < length ids → take told ids ++ (id ∷ []) ≡ take (told + 1) (set ids told id)
told_more ids told id h = rw add-one (sym (take-suc-set ids told id h))

module _ {calls bytes : List ℕ} {buckets : ℕ} {l : Lent} {p : Progress} (k : Ready calls bytes buckets l p) where
  abbrev u : Underway Stores
  u = underway calls bytes l p

  turned-over : (e : Ending) {s : Stores} {m : List ℕ} → ((rest : Underway Stores → Ended Stores) → turn by_stores rest u (next_said calls bytes l.ids p) ≡ ended (end_number e) s u)
      → Keeping s.bytes s.words m buckets → Turned calls bytes buckets l p (Over e) (record { stores = s; ids = l.ids; index = m })
  turned-over e h keeping = record {
    is = h;
    ready = record { inside = k.inside; keeping = keeping; counted = k.counted };
    more = omega arith;
    stands = refl;
    further = λ q f. absurd (let z : ◌≡◌ {A = ℕ} 0 1 = cc in omega arith);
  }

  turned_on : (q : Progress) {l' : Lent}
      → ((rest : Underway Stores → Ended Stores) → turn by_stores rest u (next_said calls bytes l.ids p) ≡ rest (underway calls bytes l' q))
      → Ready calls bytes buckets l' q → p.told ≤ q.told → drop q.told l'.ids ≡ drop q.told l.ids → p.words < q.words → Turned calls bytes buckets l p (On q) l'
  turned_on q h r m s f = record { is = h; ready = r; more = m; stands = s; further = λ x e. let z : q ≡ x = cc in subst (λ (y : Progress). p.words < y.words) z f }

  module _ {n : Result (Option Call) NoCall} (s : NextSays calls bytes l.ids p n) where
    -- ---- a call other than close

    module _ (k' : Other n) where
      abbrev c : StoreCall
      c = call_by (drop p.bytes bytes) n

      abbrev words_behind : List ℕ
      words_behind = drop (p.words + words_taken n) calls

      abbrev bytes_behind : List ℕ
      bytes_behind = drop (p.bytes + bytes_taken n) bytes

      says-call : next_said calls bytes l.ids p ≡ says c words_behind bytes_behind
      says-call = s.is ∙ call-said (drop p.bytes bytes) (drop p.words calls) n k' ∙ rw (drop-drop (words_taken n) p.words calls, drop-drop (bytes_taken n) p.bytes bytes)

      pub turned-call : {r : Turn} {b' w' : List ℕ} → CallTurned l.stores.bytes l.stores.words bytes n p r b' w' → Turned calls bytes buckets l p r (lent b' w' l.ids l.index)
      turned-call {r} {b'} {w'} x = subst (λ z. Turned calls bytes buckets l p z (lent b' w' l.ids l.index)) (sym x.is) (go x.answer x.carried.is)
        where
          keeping : (a : Answer) → left_by (outcome a b' w') ≡ step_on c l.stores → Keeping b' w' l.index buckets
          keeping a e = subst (λ (z : Left). Keeping z.stores.bytes z.stores.words l.index buckets) (sym e) (keeping-quiet k.keeping c (call-quiet _ n))

          by_call : (a : Answer) → left_by (outcome a b' w') ≡ step_on c l.stores → (rest : Underway Stores → Ended Stores) → turn by_stores rest u (next_said calls bytes l.ids p) ≡ leading rest u c words_behind bytes_behind (left_by (outcome a b' w'))
          by_call a e rest = ap (turn by_stores rest u) says-call ∙ by-step rest u c words_behind bytes_behind e

          go : (a : Answer) → left_by (outcome a b' w') ≡ step_on c l.stores → Turned calls bytes buckets l p (after_call a n p) (lent b' w' l.ids l.index)
          go (Ok t) e =
              turned_on _ (λ rest. by_call (Ok t) e rest ∙ rw (call-ids (drop p.bytes bytes) n 0 (take p.told l.ids)))
              (record {
                inside = record { in_words = omega (arith, s.within.in_words, k.inside.in_words); in_bytes = omega (arith, s.within.in_bytes, k.inside.in_bytes); in_ids = k.inside.in_ids };
                keeping = keeping (Ok t) e;
                counted = omega (arith, k.counted, call-words n k');
              })
              (omega arith) refl (omega (arith, call-words n k'))
          go (Err r) e =
              turned-over (Ending.Refused r.why) (λ rest. by_call (Err r) e rest ∙ rw (ne_eqb (number r.why) 0 (λ q. omega (arith, refused-number r.why)))) (keeping (Err r) e)

    -- ---- a close

    module _ (tag : n ≡ Ok (Some Call.Close)) where
      says-close : next_said calls bytes l.ids p ≡ says close (drop (p.words + 1) calls) (drop p.bytes bytes)
      says-close = s.is ∙ ap (said_by (drop p.bytes bytes) (drop p.words calls)) tag ∙ rw (drop-drop 1 p.words calls)

      word-left : 1 ≤ length calls - p.words
      word-left = rw tag at s.within.in_words

      id_left : 1 ≤ length l.ids - p.told
      id_left = rw tag at s.within.in_ids

      pub turned-close : {r : Turn} {l' : Lent} → CloseTurned buckets l p r l' → length l'.index ≡ length l.index → Turned calls bytes buckets l p r l'
      turned-close {r} {l'} x e =
          subst (λ z. Turned calls bytes buckets l p z l') (sym x.is) (subst (λ z. Turned calls bytes buckets l p (after_close x.closing p) (record { stores = l'.stores; ids = z; index = l'.index })) (sym x.ids) (go x.closing x.kept))
        where
          by-close : (a : Closing) → closing a l'.stores.bytes l'.stores.words ≡ close_step l.stores.bytes l.stores.words → (rest : Underway Stores → Ended Stores) → turn by_stores rest u (next_said calls bytes l.ids p)
              ≡ leading rest u close (drop (p.words + 1) calls) (drop p.bytes bytes) (left_by_close (closing a l'.stores.bytes l'.stores.words))
          by-close a f rest = ap (turn by_stores rest u) says-close ∙ by-step rest u close _ _ (close-left l.stores f)

          go : (a : Closing) → Kept l.stores.bytes l.stores.words l'.stores.bytes l'.stores.words l'.index buckets a
              → Turned calls bytes buckets l p (after_close a p) (record { stores = l'.stores; ids = ids_with a p.told l.ids; index = l'.index })
          go (Ok c) f =
              turned_on _ (λ rest. by-close (Ok c) f.step rest ∙ rw (told_more l.ids p.told c.id.0 (omega (arith, id_left))))
              (record {
                inside = record { in_words = omega (arith, word-left); in_bytes = k.inside.in_bytes; in_ids = omega (arith, id_left, length-set l.ids p.told c.id.0) };
                keeping = keeping-close k.keeping f e;
                counted = omega (arith, k.counted);
              })
              (omega arith) (drop-set-lt (p.told + 1) l.ids p.told c.id.0 (omega arith)) (omega arith)
          go (Err r) f =
              turned-over (Ending.Refused r.why) (λ rest. by-close (Err r) f.step rest ∙ rw (ne_eqb (number r.why) 0 (λ q. omega (arith, refused-number r.why)))) (keeping-close k.keeping f e)
