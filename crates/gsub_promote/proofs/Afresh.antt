-- Each trial of a look starts as the first one did, and none but an accepted one writes to the output.
use mathlib.Core.Path.{◌≡◌, refl, sym, ◌∙◌}
use Prim.Native.Nat.{ℕ, zero, suc, ◌<◌}
use mathlib.Core.List.{List}
use mathlib.Core.Bool.{true, true≢false}
use native.Mathlib.Omega.{arith}
use borrow.Author.Tests.{eqb-true}
use lib.ListN.{length}
use lib.Dec.{eqb}
use Rattle.lists.proofs.Same.{and_left, and_right}
use Rattle.model_orders.specs.Copies.{Arrangement, length_of}
use Rattle.model.specs.Judge.{Verdict, accepted, refused, judge_pack}
use Rattle.model.specs.Told.{told_by_pack}
use Rattle.model.specs.Session.{arranged_in}
use Rattle.layout.specs.Words.{object_limit, link_limit}
use Rattle.layout.specs.Sound.{sound}
use Rattle.layout.specs.Decode.{decode}
use Rattle.work.specs.Areas.{work_need}
use Rattle.steps.specs.Steps.{tally_in}
use Rattle.steps.specs.Runs.{Stores, start, step_on, pack, lent_step}
use Rattle.steps.specs.Pack.{pack_by, pack_step}
use Rattle.gsub.specs.declared.Scope.{Scope}
use Rattle.gsub.specs.declared.Mode.TheVariants.{Last as last}
use Rattle.gsub.specs.Refusals.{tellable}
use Rattle.gsub.specs.Promote.{trial_ops}
use Rattle.gsub.proofs.Told.{tells-few}
use Rattle.gsub_read.specs.Read.{ops_step}
use Rattle.gsub_read.proofs.Fresh.{same_number, fresh}
use Rattle.gsub_read.proofs.Listed.{read-begun, read-tells}
use Rattle.gsub_promote.specs.Search.{Lent, Trial, trial, left_by, overflows, before, trial_at}

-- ---- a refused pack leaves the output

by-verdict : (v : Verdict) (c : Arrangement) (copies : ℕ) (b w out work : List ℕ) → ((told_by_pack (pack_by v c copies b w out work).answer).number ≡ 0 → ⊥) → (pack_by v c copies b w out work).out ≡ out
by-verdict accepted c copies b w out work n = absurd (n refl)
by-verdict (refused why) c copies b w out work n = refl

pack-kept : (id copies : ℕ) (s : Stores) (out work : List ℕ) → ((lent_step (pack id copies out work) s).told.number ≡ 0 → ⊥) → (lent_step (pack id copies out work) s).out ≡ out
unfolding lent_step pack_step
pack-kept id copies s out work n =
    let c = arranged_in (decode s.bytes s.words) id copies in
    let need = work_need (object_limit s.words) (link_limit s.words) copies in
    by-verdict (judge_pack (sound s.bytes s.words) (tally_in s.bytes s.words) id copies (length work) need (length out) (length_of c) c.outcome) c copies s.bytes s.words out work n

-- ---- a trial's read does not tell 11

pub read-never : (scope : Scope) (b : List ℕ) (objects links n : ℕ) (s : Stores) → (ops_step (trial_ops scope n b) objects links s).told.number ≡ 11 → ⊥
unfolding tellable
read-never scope b objects links n s e = true≢false (sym (rw e at (read-tells (trial_ops scope n b) objects links s (λ needs bytes words m. tells-few needs bytes words scope b (last n) m))))

-- ---- a trial whose pack is refused 11

pub over-read : (t : Trial) → overflows t ≡ true → t.read.told.number ≡ 0
over-read t e = eqb-true t.read.told.number 0 (and_left (eqb t.read.told.number 0) _ e)

pub over-pack : (t : Trial) → overflows t ≡ true → t.pack.told.number ≡ 11
over-pack t e = eqb-true t.pack.told.number 11 (and_right (eqb t.read.told.number 0) _ e)

module _ (scope : Scope) (b : List ℕ) (objects links : ℕ) (x : Lent) where
  -- a start in y is accepted, and leaves what it leaves in x
  pub record Afresh (y : Lent) : Type 0 where
    pub begins : (step_on (start objects links) y.stores).told.number ≡ 0
    pub same : (step_on (start objects links) y.stores).stores ≡ (step_on (start objects links) x.stores).stores
    pub same_bytes : length y.stores.bytes ≡ length x.stores.bytes
    pub same_words : length y.stores.words ≡ length x.stores.words
    pub output : y.out ≡ x.out

  -- a start after an accepted read of y
  pub anew : (n : ℕ) (y : Lent) → Afresh y → let s = (trial scope b objects links n y).read.stores in
      (trial scope b objects links n y).read.told.number ≡ 0 → (step_on (start objects links) s).stores ≡ (step_on (start objects links) x.stores).stores
  anew n y a e = fresh objects links y.stores a.begins _ (read-begun (trial_ops scope n b) objects links y.stores e) ∙ a.same

  afresh-next : (n : ℕ) (y : Lent) → Afresh y → overflows (trial scope b objects links n y) ≡ true → Afresh (left_by (trial scope b objects links n y))
  afresh-next n y a e =
      let t = trial scope b objects links n y in
      let k = read-begun (trial_ops scope n b) objects links y.stores (over-read t e) in
      record {
        begins = same_number objects links y.stores t.read.stores k.same_bytes k.same_words ∙ a.begins;
        same = anew n y a (over-read t e);
        same_bytes = k.same_bytes ∙ a.same_bytes;
        same_words = k.same_words ∙ a.same_words;
        output = pack-kept t.read.told.id 0 t.read.stores y.out y.work (λ z. omega (arith, over-pack t e)) ∙ a.output;
      }

  pub afresh-at : (step_on (start objects links) x.stores).told.number ≡ 0 → (n : ℕ) → ((i : ℕ) → i < n → overflows (trial_at scope b objects links x i) ≡ true) → Afresh (before scope b objects links x n)
  unfolding before
  afresh-at z zero h = record { begins = z; same = refl; same_bytes = refl; same_words = refl; output = refl }
  afresh-at z (suc n) h = afresh-next n (before scope b objects links x n) (afresh-at z n (λ i l. h i (omega arith))) (h n (omega arith))
