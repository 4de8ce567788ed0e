-- A job opens and closes its objects in turn, so that some numbers are never told.
use Rattle.std.specs.Prelude.{None, Option, Some}
use mathlib.Core.Path.{◌≡◌, refl, sym, ap, ◌∙◌}
use Prim.Native.Nat.{ℕ, suc, ◌+◌, ◌≤◌}
use mathlib.Core.List.{List, [], ◌∷◌, ◌++◌}
use mathlib.Core.Bool.{Bool, true, false, not, ◌&&◌, ◌||◌, or-false}
use native.Mathlib.Omega.{arith}
use borrow.Author.Tests.{ltb-false, leb-true, le-ltb, eq-eqb, ne_eqb}
use lib.Dec.{eqb, leb, ltb}
use lib.ListN.{length, replicate, length-append, length-replicate}
use Rattle.lists.specs.Lists.{pick, total, holds}
use Rattle.lists.proofs.Elements.{total-append}
use Rattle.lists.proofs.Same.{and_left, and_right}
use Rattle.text_hex.specs.Hex.{bytes_of}
use Rattle.answer.specs.Number.{number}
use Rattle.answer.specs.declared.Overflow.{Overflow}
use Rattle.answer.specs.declared.Refusal.{Refusal}
use Rattle.model_orders.specs.Object.{Object, size_of, no_object, with_bytes, with_link, new_slot, hopeless_object}
use Rattle.model_orders.specs.Graph.{Graph, graph_of}
use Rattle.model_orders.specs.Table.{Outcome, placed, overflow}
use Rattle.model_orders.specs.Distance.{kahn_order, distance_order}
use Rattle.model_orders.specs.Copies.{Grown, Arrangement, ungrown, try_order, resolve, arranged, length_of}
use Rattle.model.specs.Judge.{Limits, Test, Verdict, accepted, refused, verdict, start_tests, open_tests, put_tests, link_tests, close_tests, pack_tests}
use Rattle.model.specs.Told.{Told, done_close}
use Rattle.model.specs.Session.{Session, tally_of, started, with_opens, innermost, outer, on_innermost, twin, sealed, start_call, put_call, link_call, close_call, Left, leaves, settle_call, step, PackLeft, arranged_in, settle_pack}
use Rattle.model.specs.Session.{pack as pack_of}
use Rattle.model.proofs.Verdicts.{passes, refused-number}
use Rattle.model_orders.proofs.Always.{reached-held}
use Rattle.job_items.specs.Item.{codes, limit, pairs, item}
use Rattle.job_items.specs.declared.Item.{Item}
use Rattle.job_lines.specs.Lines.{cut}
use Rattle.job_rules.specs.Job.{most_text, Stage, bytes_due, objects_due, links_due, piece_due, writing, Turn, on, stop, packs, no_needs, call, most_bytes, in_job, out_of_range, starts, breach, given, inner_start, copies_allowed, writes, child_at, first_item, next_item, turn, Ended, refused_at, behind_end, finished, after, run, job}
use Rattle.job_rules.specs.Job.{accepted as goes_on}
use Rattle.job_claims.specs.Numbers.{among, may_tell, tells}
use Rattle.job_claims.proofs.Opening.{wrote}

-- ---- without copies the table has what the root reaches

tried : {w : Grown} (o : List ℕ) (us : List Overflow) (report : Overflow → Arrangement) → ((u : Overflow) → (report u).grown ≡ w) → (try_order w o us report).grown ≡ w
unfolding try_order
tried o [] report h = refl
tried o (u ∷ us) report h = h u

no_copies : (g : Graph) (n root : ℕ) → (arranged copies_allowed g n root).grown ≡ ungrown g n root
unfolding arranged resolve
no_copies g n root = tried (kahn_order g root) _ _ (λ u. tried (distance_order g root) _ _ (λ u. tried _ _ _ (λ u. refl)))

table-held : (a : Session) (root : ℕ) → length_of (arranged_in a root copies_allowed) ≤ total size_of a.closed
table-held a root = rw (no_copies (graph_of a.closed) (length a.closed) root) (reached-held a.closed root)

-- ---- the session of a job: within the byte store, with no object open or one

record Fits (a : Session) : Type 0 where
  limit : a.limits.bytes ≤ most_bytes
  held : total size_of a.opens + total size_of a.closed ≤ a.limits.bytes

record Idle (a : Session) : Type 0 where
  none : a.opens ≡ []
  fits : Fits a

record Busy (a : Session) : Type 0 where
  inner : Object
  one : a.opens ≡ inner ∷ []
  fits : Fits a

module _ (room : ℕ) where
  -- each test tells a number that a job may tell, or does not apply
  unfoldable may : List Test → Bool
  may [] = true
  may (t ∷ ts) = (may_tell room (number t.tells) || not t.applies) && may ts

  may-verdict : (ts : List Test) → may ts ≡ true → (why : Refusal) → verdict ts ≡ refused why → may_tell room (number why) ≡ true
  unfolding may verdict
  may-verdict [] h why e = absurd (let z : ◌≡◌ {A = ℕ} 0 1 = cc in omega arith)
  may-verdict (t ∷ ts) h why e = go t.applies h (may-verdict ts) e
    where
      go : (x : Bool) → ((may_tell room (number t.tells) || not x) && may ts) ≡ true → (may ts ≡ true → (why : Refusal) → verdict ts ≡ refused why → may_tell room (number why) ≡ true)
          → pick x (refused t.tells) (verdict ts) ≡ refused why → may_tell room (number why) ≡ true
      go true f r z =
          let k = may_tell room (number t.tells) in
          let q : t.tells ≡ why = cc in
          rw (← q) (sym (or-false k) ∙ and_left (k || false) (may ts) f)
      go false f r z = r (and_right (may_tell room (number t.tells) || true) (may ts) f) why z

  -- ---- a turn that tells no other number, now or later

  abbrev GoodAt : Stage → Type 0
  GoodAt bytes_due = Unit {0}
  GoodAt (objects_due b) = Unit {0}
  GoodAt (links_due b o) = Unit {0}
  GoodAt (piece_due a) = Idle a
  GoodAt (writing a ids) = Busy a

  abbrev Good : Turn → Type 0
  Good (on s) = GoodAt s
  Good (stop why) = may_tell room why ≡ true
  Good (packs a root) = Idle a

  -- a call, by its verdict
  settled : (ts : List Test) (a : Session) (l : Left) (next : Left → Turn) → l.told.number ≡ 0 → may ts ≡ true → (verdict ts ≡ accepted → Good (next l)) → Good (goes_on (settle_call (verdict ts) a l) next)
  settled ts a l next z h r = go (verdict ts) (may-verdict ts h) r
    where
      go : (v : Verdict) → ((why : Refusal) → v ≡ refused why → may_tell room (number why) ≡ true) → (v ≡ accepted → Good (next l)) → Good (goes_on (settle_call v a l) next)
      go accepted k r = rw (eq-eqb l.told.number 0 z) (r refl)
      go (refused why) k r = rw (ne_eqb (number why) 0 (λ e. omega (arith, refused-number why))) (k why refl)

  -- ---- the calls

  some-open : {a : Session} → Busy a → eqb (length a.opens) 0 ≡ false
  some-open {a} b = ne_eqb (length a.opens) 0 (λ e. let q = ap length b.one in omega arith)

  -- n bytes more in the open object
  grows : (f : Object → Object) (n : ℕ) → ((o : Object) → size_of (f o) ≡ size_of o + n) → (a : Session) → Busy a → (tally_of a).bytes + n ≤ a.limits.bytes → Busy (on_innermost f a)
  unfolding total
  grows f n size a b h = record {
    inner = f b.inner;
    one = rw b.one;
    fits = record { limit = b.fits.limit; held = rw b.one (omega (arith, size b.inner, rw b.one at h)) };
  }

  put-good : (vs ids : List ℕ) (a : Session) → Busy a → Good (call (put_call vs) a (wrote ids))
  unfolding step may among
  put-good vs ids a b =
      settled (put_tests true a.limits (tally_of a) (length vs)) a (leaves (on_innermost (with_bytes vs) a)) (wrote ids) refl (rw (some-open b))
      (λ e. grows (with_bytes vs) (length vs) (λ o. length-append o.bytes vs) a b (ltb-false _ _ (passes _ e 2)))

  writes-good : (vs ids : List ℕ) (a : Session) → Idle a → Good (writes vs ids a)
  unfolding step may among total
  writes-good vs ids a i =
      settled (open_tests true (tally_of a)) a (leaves (with_opens (no_object ∷ a.opens) a)) (λ o. call (put_call vs) o.after (wrote ids)) refl (rw i.none)
      (λ e. put-good vs ids (with_opens (no_object ∷ a.opens) a) (record { inner = no_object; one = rw i.none; fits = record { limit = i.fits.limit; held = omega (arith, i.fits.held) } }))

  link-good : (w id : ℕ) (ids : List ℕ) (a : Session) → Busy a → Good (call (link_call w id inner_start) a (wrote ids))
  unfolding step may among
  link-good w id ids a b =
      settled (link_tests true a.limits (tally_of a) (new_slot (size_of (innermost a.opens)) w inner_start) id) a (leaves (on_innermost (with_link w id inner_start) a)) (wrote ids) refl (rw (some-open b))
      (λ e. grows (with_link w id inner_start) w (λ o. length-append o.bytes (replicate w 0) ∙ ap (λ n. size_of o + n) (length-replicate w 0)) a b (ltb-false _ _ (passes _ e 5)))

  seals : (a : Session) → Busy a → Idle (sealed a)
  unfolding total
  seals a b = record { none = rw b.one; fits = record { limit = b.fits.limit; held = go (ltb (twin a) (length a.closed)) } }
    where
      go : (x : Bool) → total size_of (outer a.opens) + total size_of (pick x a.closed (a.closed ++ (innermost a.opens ∷ []))) ≤ a.limits.bytes
      go true = rw b.one (omega (arith, b.fits.held))
      go false = rw b.one (omega (arith, total-append size_of a.closed (b.inner ∷ []), rw b.one at b.fits.held))

  close-good : (a : Session) (next : Left → Turn) → Busy a → ((l : Left) → Idle l.after → Good (next l)) → Good (call close_call a next)
  unfolding step may among
  close-good a next b r =
      let o = innermost a.opens in
      settled (close_tests true a.limits (tally_of a) (size_of o) (hopeless_object o) (twin a)) a (record { told = done_close (twin a) (tally_of (sealed a)); after = sealed a }) next refl (rw (some-open b))
      (λ e. r _ (seals a b))

  start-good : (m : Limits) → Good (starts m)
  unfolding step may among total holds
  start-good m = go (holds (in_job m)) refl
    where
      go : (x : Bool) → holds (in_job m) ≡ x → Good (pick x (call (start_call m 0) (started m) (λ l. on (piece_due l.after))) (stop out_of_range))
      go true e =
          settled (start_tests m 0 0) (started m) (leaves (started m)) (λ l. on (piece_due l.after)) refl refl
          (λ z. record { none = refl; fits = record { limit = leb-true _ _ (and_left (leb m.bytes most_bytes) _ e); held = omega arith } })
      go false e = refl

  -- ---- the lines

  given-good : (x : Option ℕ) (next : ℕ → Turn) → ((k : ℕ) → Good (next k)) → Good (given x next)
  unfolding among
  given-good (Some k) next h = h k
  given-good None next h = refl

  first_good : (it : Option Item) (l : List ℕ) (a : Session) → Idle a → Good (first_item it l a)
  unfolding among
  first_good (Some Item.Piece) l a i = writes-good (bytes_of (pairs l)) [] a i
  first_good (Some (Item.Link w k)) l a i = refl
  first_good (Some (Item.End n)) l a i = refl
  first_good None l a i = refl

  end-good : (x : Bool) (a : Session) → Busy a → Good (pick x (call close_call a (λ c. packs c.after c.told.id)) (stop breach))
  unfolding among
  end-good true a b = close-good a (λ c. packs c.after c.told.id) b (λ l i. i)
  end-good false a b = refl

  next-good : (it : Option Item) (l : List ℕ) (a : Session) (ids : List ℕ) → Busy a → Good (next_item it l a ids)
  unfolding among
  next-good (Some Item.Piece) l a ids b =
      let vs = bytes_of (pairs l) in
      close-good a (λ c. writes vs (ids ++ (c.told.id ∷ [])) c.after) b (λ c i. writes-good vs _ c.after i)
  next-good (Some (Item.Link w k)) l a ids b = link-good w (child_at ids k) ids a b
  next-good (Some (Item.End n)) l a ids b = end-good (eqb n (suc (length ids))) a b
  next-good None l a ids b = refl

  turn-good : (l : List ℕ) (s : Stage) → GoodAt s → Good (turn l s)
  unfolding turn
  turn-good l bytes_due g = given-good (limit (codes "bytes=") l) (λ b. on (objects_due b)) (λ b. tt)
  turn-good l (objects_due b) g = given-good (limit (codes "objects=") l) (λ o. on (links_due b o)) (λ o. tt)
  turn-good l (links_due b o) g =
      given-good (limit (codes "links=") l) (λ k. starts (record { objects = o; links = k; bytes = b })) (λ k. start-good (record { objects = o; links = k; bytes = b }))
  turn-good l (piece_due a) g = first_good (item l) l a g
  turn-good l (writing a ids) g = next-good (item l) l a ids g

  -- ---- the pack

  short : (n : ℕ) → n ≤ most_bytes → (ltb room most_bytes || not (ltb room n)) ≡ true
  short n h = go (ltb room most_bytes) refl
    where
      go : (x : Bool) → ltb room most_bytes ≡ x → (x || not (ltb room n)) ≡ true
      go true e = refl
      go false e = let k = ltb-false room most_bytes e in rw (le-ltb room n (omega arith))

  pack-may : (a : Session) → Idle a → (root n : ℕ) → n ≤ most_bytes → (u : Outcome) → may (pack_tests true (tally_of a) root copies_allowed 0 0 room n u) ≡ true
  unfolding may among
  pack-may a i root n h (placed o) = rw (i.none, short n h)
  pack-may a i root n h (overflow u) = rw (i.none, short n h)

  behind-good : (n : ℕ) (ls : List (List ℕ)) (t : Told) → tells room (behind_end n ls t) ≡ true
  unfolding among
  behind-good n [] t = refl
  behind-good n (l ∷ ls) t = refl

  pack-good : (n : ℕ) (ls : List (List ℕ)) (a : Session) (root : ℕ) → Idle a → tells room (finished n ls (pack_of no_needs root copies_allowed room 0 a)).ending ≡ true
  unfolding pack_of
  pack-good n ls a root i =
      let c = arranged_in a root copies_allowed in
      let f = i.fits in
      go (pack_tests true (tally_of a) root copies_allowed 0 0 room (length_of c) c.outcome) _ refl
      (pack-may a i root (length_of c) (let h = f.held in let k = f.limit in omega (arith, table-held a root)) c.outcome)
    where
      go : (ts : List Test) (p : PackLeft) → p.told.number ≡ 0 → may ts ≡ true → tells room (finished n ls (settle_pack (verdict ts) a p)).ending ≡ true
      go ts p z h = by (verdict ts) (may-verdict ts h)
        where
          by : (v : Verdict) → ((why : Refusal) → v ≡ refused why → may_tell room (number why) ≡ true) → tells room (finished n ls (settle_pack v a p)).ending ≡ true
          by accepted k = rw (eq-eqb p.told.number 0 z) (behind-good n ls p.told)
          by (refused why) k = rw (ne_eqb (number why) 0 (λ e. omega (arith, refused-number why))) (k why refl)

  -- ---- the job

  after-good : (n : ℕ) (ls : List (List ℕ)) (t : Turn) (next : Stage → Ended) → Good t → ((s : Stage) → GoodAt s → tells room (next s).ending ≡ true) → tells room (after room n ls t next).ending ≡ true
  after-good n ls (on s) next g h = h s g
  after-good n ls (stop why) next g h = g
  after-good n ls (packs a root) next g h = pack-good n ls a root g

  run-good : (ls : List (List ℕ)) (n : ℕ) (t : Turn) → Good t → tells room (run room n ls t).ending ≡ true
  unfolding run among
  run-good [] n t g = after-good n [] t _ g (λ s k. refl)
  run-good (l ∷ ls) n t g = after-good n (l ∷ ls) t _ g (λ s k. run-good ls (n + 1) (turn l s) (turn-good l s k))

  pub job-tells : (text : List ℕ) → tells room (job room text).ending ≡ true
  unfolding job among
  job-tells text = go (ltb most_text (length text))
    where
      go : (x : Bool) → tells room (pick x (refused_at breach 1) (run room 0 (cut text) (on bytes_due))).ending ≡ true
      go true = refl
      go false = run-good (cut text) 0 (on bytes_due) tt
