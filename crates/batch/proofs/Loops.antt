-- The loop over the turns of a batch: what is left, done from where it stands, is the whole.
use mathlib.Core.Path.{◌≡◌, refl, sym, ap, subst, ◌∙◌}
use Prim.Native.Nat.{ℕ, zero, suc, ◌+◌, ◌-◌, ◌≤◌, ◌<◌}
use mathlib.Core.List.{List}
use native.Mathlib.Omega.{arith}
use lib.ListN.{length, drop, length-drop}
use lib.Seq.{drop-drop}
use Rattle.steps.specs.Runs.{Stores}
use Rattle.steps.specs.Mirrored.{by_stores}
use Rattle.session_batch.specs.Calls.{said}
use Rattle.session_batch.specs.Batch.{Underway, begun, turn, carried}
use Rattle.session_batch_words.proofs.Nexts.{none-says}
use Rattle.session_indexed.specs.Close.{Keeping}
use Rattle.session_batch_turn.specs.declared.Progress.{Progress}
use Rattle.session_batch_turn.specs.declared.Ending.{Ending}
use Rattle.session_batch_turn.specs.declared.Turn.{Turn}
use Rattle.session_batch_turn.specs.declared.Turn.TheVariants.{On, Over}
use Rattle.session_batch_turn.specs.Turn.{Lent, underway, Ready, Turned}
use Rattle.batch.specs.Batch.{RanBy}

-- ---- where n turns are allowed, and no more words are left, m are allowed behind the next one

record Turns (n room : ℕ) (u : Underway Stores) : Type 0 where
  m : ℕ
  is : carried by_stores n room u ≡ turn by_stores (carried by_stores m room) u (said room u.ids u.bytes u.words)
  enough : n ≤ m + 1

turns : (n room : ℕ) (u : Underway Stores) → length u.words ≤ n → Turns n room u
unfolding carried
turns zero room u h = record { m = 0; is = sym (ap (turn by_stores (carried by_stores 0 room) u) (none-says room u.ids u.bytes u.words (omega arith))); enough = omega arith }
turns (suc m) room u h = record { m = m; is = refl; enough = omega arith }

-- ---- the loop

-- every lent slice is as long as it was
pub record SameLengths (l₀ l : Lent) : Type 0 where
  pub bytes : length l.stores.bytes ≡ length l₀.stores.bytes
  pub words : length l.stores.words ≡ length l₀.stores.words
  pub ids : length l.ids ≡ length l₀.ids
  pub index : length l.index ≡ length l₀.index

-- at p, with the memory as in l: the whole is what is left, and n turns are enough for that
pub record Going (calls bytes : List ℕ) (buckets : ℕ) (l₀ l : Lent) (p : Progress) : Type 0 where
  pub n : ℕ
  pub same : carried by_stores (length calls) (length l₀.ids) (begun calls bytes l₀.stores) ≡ carried by_stores n (length l.ids) (underway calls bytes l p)
  pub enough : length calls - p.words ≤ n
  pub ready : Ready calls bytes buckets l p
  pub stands : drop p.told l.ids ≡ drop p.told l₀.ids
  pub lengths : SameLengths l₀ l

pub going-none : (calls bytes : List ℕ) {buckets : ℕ} {l : Lent} → Keeping l.stores.bytes l.stores.words l.index buckets → Going calls bytes buckets l l (record { words = 0; bytes = 0; told = 0; calls = 0 })
going-none calls bytes k = record {
  n = length calls;
  same = refl;
  enough = omega arith;
  ready = record { inside = record { in_words = omega arith; in_bytes = omega arith; in_ids = omega arith }; keeping = k; counted = omega arith };
  stands = refl;
  lengths = record { bytes = refl; words = refl; ids = refl; index = refl };
}

-- what stands from a place on stands from a later one on
stands-later : (a b : ℕ) (l m : List ℕ) → a ≤ b → drop a l ≡ drop a m → drop b l ≡ drop b m
stands-later a b l m h e =
    let z : a + (b - a) ≡ b = omega arith in
    rw z at (sym (drop-drop (b - a) a l) ∙ ap (drop (b - a)) e ∙ drop-drop (b - a) a m)

module _ {calls bytes : List ℕ} {buckets : ℕ} {l₀ l l' : Lent} {p : Progress} (g : Going calls bytes buckets l₀ l p) {r : Turn} (t : Turned calls bytes buckets l p r l') where
  one : Turns g.n (length l.ids) (underway calls bytes l p)
  one = turns g.n (length l.ids) (underway calls bytes l p) (omega (arith, g.enough, length-drop p.words calls))

  module _ (q : Progress) (e : r ≡ On q) where
    led : Turned calls bytes buckets l p (On q) l'
    led = subst (λ z. Turned calls bytes buckets l p z l') e t

    pub going_less : length calls - q.words < length calls - p.words
    going_less = omega (arith, led.further q refl, led.ready.inside.in_words)

    pub going_on : SameLengths l l' → Going calls bytes buckets l₀ l' q
    going_on k = record {
      n = one.m;
      same = g.same ∙ one.is ∙ led.is (carried by_stores one.m (length l.ids)) ∙ ap (λ room. carried by_stores one.m room (underway calls bytes l' q)) (sym k.ids);
      enough = omega (arith, going_less, g.enough, one.enough);
      ready = led.ready;
      stands = led.stands ∙ stands-later p.told q.told l.ids l₀.ids led.more g.stands;
      lengths = record { bytes = k.bytes ∙ g.lengths.bytes; words = k.words ∙ g.lengths.words; ids = k.ids ∙ g.lengths.ids; index = k.index ∙ g.lengths.index };
    }

  pub gone : (e : Ending) → r ≡ Over e → RanBy calls bytes l₀ (record { ending = e; calls = p.calls; told = p.told }) l'
  gone e f =
      let x = subst (λ z. Turned calls bytes buckets l p z l') f t in
      record {
        is = g.same ∙ one.is ∙ x.is (carried by_stores one.m (length l.ids));
        is_sound = x.ready.keeping.is_sound;
        in_ids = x.ready.inside.in_ids;
        stands = x.stands ∙ g.stands;
      }
