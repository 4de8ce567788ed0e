-- What a trial came to, by each way through the code.
use Rattle.std.specs.Prelude.{Ok, Err}
use mathlib.Core.Path.{◌≡◌, refl, sym, ap, subst, ◌∙◌}
use Prim.Native.Nat.{ℕ}
use mathlib.Core.List.{List}
use mathlib.Core.Bool.{true, false}
use native.Mathlib.Omega.{arith}
use borrow.Author.Tests.{ne_eqb}
use lib.Dec.{eqb}
use Rattle.answer.specs.Number.{number, named, no_overflow}
use Rattle.answer.specs.declared.Overflow.{Overflow}
use Rattle.answer.specs.declared.Refusal.{Refusal}
use Rattle.answer.specs.Answers.{Packing}
use Rattle.model.specs.Told.{told_by_pack}
use Rattle.model.proofs.Verdicts.{refused-number}
use Rattle.layout.specs.Sound.{sound}
use Rattle.steps.specs.Runs.{Stores, pack_left, left_by_pack, lent_step}
use Rattle.steps.specs.Pack.{PackOut, packed, pack_step}
use Rattle.gsub.specs.declared.Scope.{Scope}
use Rattle.gsub.specs.Promote.{trial_ops}
use Rattle.gsub_read.specs.declared.answers.Read.{Read}
use Rattle.gsub_read.specs.declared.answers.Unread.{Unread}
use Rattle.gsub_read.specs.declared.answers.Unread.TheVariants.{BadTable, Refused}
use Rattle.gsub_read.specs.Answers.{ReadAnswer, unread_number}
use Rattle.gsub_read.specs.Read.{ReadLeft, read_left, told_by_read, ops_step}
use Rattle.gsub_read.proofs.Listed.{read-begun}
use Rattle.gsub_promote.specs.Search.{Lent, lent, Trial, pack_of, trial}
use Rattle.gsub_promote.proofs.Afresh.{read-never}
use Rattle.gsub_promote.specs.Tried.{Tried, TriedBy}

-- a refusal is 11, with its link, or names none
data Naming (why : Refusal) : Type 0 where
  link : (o : Overflow) → why ≡ Refusal.Overflow o → Naming why
  none : eqb (number why) 11 ≡ false → named why ≡ no_overflow → Naming why

naming : (why : Refusal) → Naming why
naming Refusal.NothingOpen = none refl refl
naming Refusal.DepthFull = none refl refl
naming Refusal.BadField = none refl refl
naming Refusal.NotClosed = none refl refl
naming Refusal.EmptyObject = none refl refl
naming Refusal.StoreFull = none refl refl
naming Refusal.LinksFull = none refl refl
naming Refusal.ObjectsFull = none refl refl
naming Refusal.ObjectOpen = none refl refl
naming Refusal.OutputShort = none refl refl
naming (Refusal.Overflow o) = link o refl
naming Refusal.Unsound = none refl refl
naming Refusal.OutOfRange = none refl refl
naming Refusal.Hopeless = none refl refl

named_none : (why : Refusal) → (number why ≡ 11 → ⊥) → named why ≡ no_overflow
named_none why n = go (naming why)
  where
    go : Naming why → named why ≡ no_overflow
    go (link o e) = absurd (n (ap number e))
    go (none e f) = f

pub no_11 : (why : Refusal) → ((o : Overflow) → why ≡ Refusal.Overflow o → ⊥) → eqb (number why) 11 ≡ false
no_11 why n = go (naming why)
  where
    go : Naming why → eqb (number why) 11 ≡ false
    go (link o e) = absurd (n o e)
    go (none e f) = e

-- the trial of a read that told and left this
abbrev after : ReadLeft → Lent → Trial
after r x = record { read = r; pack = pack_of r x }

-- what the pack of an accepted read came to
abbrev came : ℕ → Read → Packing → Tried
came n r (Ok p) = Ok (Ok (record { lookups = n; root = r.root; length = p.table.length; tally = r.tally }))
came n r (Err e) = Ok (Err e.why)

module _ (objects links n : ℕ) (x : Lent) where
  -- ---- the read is refused

  unread-tried : (u : Unread) (s : Stores) → (unread_number u ≡ 11 → ⊥) → TriedBy objects links n x (after (read_left (told_by_read (Err u)) s.bytes s.words) x) (Err u) (lent s x.out x.work)
  unfolding TriedBy
  unread-tried (BadTable p) s n = (refl, refl)
  unread-tried (Refused why) s n =
      let z : eqb (number why) 0 ≡ _ = ne_eqb (number why) 0 (λ q. omega (arith, refused-number why)) in
      (rw z, rw (z, named_none why n))

  -- ---- the pack is made

  packed-tried : (r : Read) (p : Packing) (s : Stores) (out work : List ℕ)
      → TriedBy objects links n x (record { read = read_left (told_by_read (Ok r)) s.bytes s.words; pack = pack_left (told_by_pack p) s out work }) (came n r p) (lent s out work)
  unfolding TriedBy
  packed-tried r (Ok p) s out work = (refl, refl)
  packed-tried r (Err e) s out work = (refl, refl, rw (ne_eqb (number e.why) 0 (λ q. omega (arith, refused-number e.why))))

module _ (scope : Scope) (b : List ℕ) (objects links n : ℕ) (x : Lent) where
  abbrev ReadBy : ReadAnswer → Stores → Type 0
  ReadBy a s = read_left (told_by_read a) s.bytes s.words ≡ ops_step (trial_ops scope n b) objects links x.stores

  pub tried-unread : (u : Unread) {s : Stores} → ReadBy (Err u) s → TriedBy objects links n x (trial scope b objects links n x) (Err u) (lent s x.out x.work)
  tried-unread u {s} e =
      let never : unread_number u ≡ 11 → ⊥ = λ z. read-never scope b objects links n x.stores (ap (λ (r : ReadLeft). r.told.number) (sym e) ∙ z) in
      subst (λ r. TriedBy objects links n x (after r x) (Err u) (lent s x.out x.work)) e (unread-tried objects links n x u s never)

  module _ {r : Read} {s : Stores} (e : ReadBy (Ok r) s) where
    pub read-sound : sound s.bytes s.words ≡ true
    read-sound =
        let told : (ops_step (trial_ops scope n b) objects links x.stores).told.number ≡ 0 = ap (λ (l : ReadLeft). l.told.number) (sym e) in
        subst (λ (l : ReadLeft). sound l.stores.bytes l.stores.words ≡ true) (sym e) (read-begun (trial_ops scope n b) objects links x.stores told).is_sound

    pub tried-packed : (p : Packing) {out work : List ℕ} → packed p out work ≡ pack_step r.root.0 0 s.bytes s.words x.out x.work → TriedBy objects links n x (trial scope b objects links n x) (came n r p) (lent s out work)
    unfolding lent_step
    tried-packed p {out} {work} q =
        subst (λ l. TriedBy objects links n x (after l x) (came n r p) (lent s out work)) e
        (subst (λ (o : PackOut). TriedBy objects links n x (record { read = read_left (told_by_read (Ok r)) s.bytes s.words; pack = left_by_pack s o }) (came n r p) (lent s out work)) q
        (packed-tried objects links n x r p s out work))
