-- A list of a job's calls, call by call: each but the last is accepted, the answer by what they tell is the job's, and so is the output.
use mathlib.Core.Path.{◌≡◌, refl, sym, ap, ap₂, ◌∙◌}
use Prim.Native.Nat.{ℕ, ◌<◌}
use mathlib.Core.List.{List, [], ◌∷◌, ◌++◌, map}
use mathlib.Core.Bool.{Bool, true, false}
use native.Mathlib.Omega.{arith}
use borrow.Author.Tests.{eqb-true, eqb-false, eq-eqb, ne_eqb}
use lib.Dec.{eqb}
use lib.ListN.{length}
use Rattle.lists.specs.Lists.{pick, over}
use Rattle.lists.proofs.Runs.{over_none}
use Rattle.model.specs.Judge.{Verdict, accepted, refused, judge_pack}
use Rattle.model_orders.specs.Copies.{length_of}
use Rattle.model.specs.Told.{Told}
use Rattle.model.specs.Session.{Session, tally_of, Left, PackLeft, arranged_in, settle_pack, step}
use Rattle.model.specs.Session.{pack as pack_of}
use Rattle.model_orders.proofs.Bags.{Zero, none, some, zero_or}
use Rattle.steps.specs.Pack.{pack_step}
use Rattle.steps.specs.Runs.{StoreCall, Stores, step_on, on_stores, lent_step, as_call}
use Rattle.claims.specs.Demand.{Made, run}
use Rattle.claims.proofs.Packs.{PackFollows, pack-follows}
use Rattle.job_rules.specs.Job.{Turn, stop, no_needs, call, copies_allowed, Ended, refused_at, behind_end, finished, Ending}
use Rattle.job_rules.specs.Job.{refused as refused_with}
use Rattle.job_rules.specs.Job.{run as job_run}
use Rattle.job_claims.specs.Calls.{JobCall, made, pack_made, calls_from, calls}
use Rattle.job_claims.specs.Claim.{says_from, answer_by, out_after, InTurn}
use Rattle.job_claims.proofs.Goes.{pack-enough, Held, Goes}

-- ---- a refused pack writes no table

refused-table : (room root copies : ℕ) (a : Session) → 0 < (pack_of no_needs root copies room 0 a).told.number → (pack_of no_needs root copies room 0 a).table ≡ []
unfolding pack_of
refused-table room root copies a =
    let c = arranged_in a root copies in
    go (judge_pack true (tally_of a) root copies 0 0 room (length_of c) c.outcome) _ refl
  where
    go : (v : Verdict) (p : PackLeft) → p.told.number ≡ 0 → 0 < (settle_pack v a p).told.number → (settle_pack v a p).table ≡ []
    go accepted p z h = absurd (omega arith)
    go (refused why) p z h = refl

-- ---- one call more

in-turn : (m : Made) (ms : List Made) → m.left.told.number ≡ 0 → InTurn ms → InTurn (m ∷ ms)
unfolding InTurn
in-turn m [] z t = tt
in-turn m (k ∷ ms) z t = (z, t)

abbrev told : Made → Told
told m = m.left.told

abbrev foretold : JobCall → Told
foretold c = c.told

abbrev at : ℕ → StoreCall → Told → JobCall
at n c t = record { line = n; call = on_stores c; told = t }

module _ (out work : List ℕ) where
  -- these calls, made on s, with what the text says where all are accepted
  pub record Right (rest : Told → Ending) (cs : List JobCall) (e : Ended) (s : Stores) : Type 0 where
    pub in_turn : InTurn (run (calls cs) s)
    pub tells : map told (run (calls cs) s) ≡ map foretold cs
    pub answers : (t : Told) → e.ending ≡ answer_by rest cs (run (calls cs) s) t
    pub table : over 0 e.table out ≡ out_after (run (calls cs) s) out

  pub right-none : (why n : ℕ) (s : Stores) → Right (λ t. refused_with why n) [] (refused_at why n) s
  unfolding run answer_by out_after InTurn
  right-none why n s = record { in_turn = tt; tells = refl; answers = λ t. refl; table = over_none 0 out }

  right-next : {rest : Told → Ending} {cs : List JobCall} {e : Ended} {s : Stores} (n : ℕ) (c : StoreCall) (t : Told) → (step_on c s).told ≡ t → t.number ≡ 0 → Right rest cs e (step_on c s).stores
      → Right rest (at n c t ∷ cs) e s
  unfolding run answer_by out_after lent_step
  right-next {s = s} n c t f z r =
      let e : (step_on c s).told.number ≡ 0 = ap (λ (x : Told). x.number) f ∙ z in
      record {
        in_turn = in-turn _ _ e r.in_turn;
        tells = ap₂ (λ (x : Told) (xs : List Told). x ∷ xs) f r.tells;
        answers = λ u. rw (eq-eqb (step_on c s).told.number 0 e) (r.answers (step_on c s).told);
        table = r.table;
      }

  right-last : {rest : Told → Ending} {s : Stores} (n : ℕ) (c : StoreCall) (t : Told) → (step_on c s).told ≡ t → (t.number ≡ 0 → ⊥) → Right rest (at n c t ∷ []) (refused_at t.number n) s
  unfolding run answer_by out_after InTurn lent_step
  right-last n c t f z = record { in_turn = tt; tells = ap (λ (x : Told). x ∷ []) f; answers = λ u. rw (f, ne_eqb t.number 0 z); table = over_none 0 out }

  pub right-pack : {s : Stores} {a : Session} (n : ℕ) (ls : List (List ℕ)) (root : ℕ) → Held work s a
      → Right (behind_end n ls) (pack_made out work n a root ∷ []) (finished n ls (pack_of no_needs root copies_allowed (length out) 0 a)) s
  unfolding run answer_by out_after InTurn lent_step
  right-pack {s} {a} n ls root h =
      let p : PackLeft = pack_of no_needs root copies_allowed (length out) 0 a in
      let f : PackFollows out (pack_step root copies_allowed s.bytes s.words out work) p =
      rw (pack-enough a root copies_allowed (length out) (length work) h.memory) at (pack-follows root copies_allowed s a out work h.drawn) in
      record {
        in_turn = tt;
        tells = ap (λ (x : Told). x ∷ []) f.told;
        answers = λ t. ap (λ (x : Told). pick (eqb x.number 0) (behind_end n ls x) (refused_with x.number n)) (sym f.told);
        table = go p f (refused-table (length out) root copies_allowed a) (zero_or p.told.number);
      }
    where
      go : (p : PackLeft) → PackFollows out (pack_step root copies_allowed s.bytes s.words out work) p → (0 < p.told.number → p.table ≡ []) → Zero p.told.number
          → over 0 p.table out ≡ (pack_step root copies_allowed s.bytes s.words out work).out
      go p f r (none z q) = sym (f.written z)
      go p f r (some z q) = ap (λ t. over 0 t out) (r z) ∙ over_none 0 out ∙ sym (f.untouched (λ e. omega arith))

  -- ---- the calls of line n, with all that follow its turn, where these lines are left

  abbrev pub Line : ℕ → List (List ℕ) → List JobCall → Turn → Stores → Type 0
  Line n ls cs t s = Right (says_from n ls t) (cs ++ calls_from out work n ls t) (job_run (length out) n ls t) s

  pub line-stop : (n : ℕ) (ls : List (List ℕ)) (why : ℕ) (s : Stores) → Line n ls [] (stop why) s
  unfolding says_from calls_from job_run
  line-stop n [] why s = right-none why n s
  line-stop n (l ∷ ls) why s = right-none why n s

  line-last : (n : ℕ) (ls : List (List ℕ)) (c : StoreCall) (s : Stores) (t : Told) → (step_on c s).told ≡ t → (t.number ≡ 0 → ⊥) → Line n ls (at n c t ∷ []) (stop t.number) s
  unfolding says_from calls_from job_run
  line-last n [] c s t f z = right-last n c t f z
  line-last n (l ∷ ls) c s t f z = right-last n c t f z

  pub line-call : (n : ℕ) (ls : List (List ℕ)) (c : StoreCall) (cs : List StoreCall) (a : Session) {s : Stores} (next : Left → Turn)
      → let l = step no_needs (as_call a.limits.bytes 0 c) a in Goes work c s l → (Held work (step_on c s).stores l.after → Line n ls (made n cs l.after) (next l) (step_on c s).stores)
      → Line n ls (made n (c ∷ cs) a) (call (as_call a.limits.bytes 0 c) a next) s
  unfolding made
  line-call n ls c cs a {s} next g r = go (step no_needs (as_call a.limits.bytes 0 c) a) g r _ refl
    where
      go : (l : Left) → Goes work c s l → (Held work (step_on c s).stores l.after → Line n ls (made n cs l.after) (next l) (step_on c s).stores)
          → (x : Bool) → eqb l.told.number 0 ≡ x → Line n ls (at n c l.told ∷ pick x (made n cs l.after) []) (pick x (next l) (stop l.told.number)) s
      go l g r true e = let z = eqb-true l.told.number 0 e in right-next n c l.told g.told z (r (g.held z))
      go l g r false e = line-last n ls c s l.told g.told (eqb-false l.told.number 0 e)
