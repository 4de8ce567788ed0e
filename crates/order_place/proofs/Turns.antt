-- One turn of placing, by counters: the links of the next node taken off make ready what the model's order makes ready.
use mathlib.Core.Path.{◌≡◌, refl, sym, ◌∙◌}
use Prim.Native.Nat.{ℕ, suc, ◌+◌, ◌-◌, ◌≤◌, ◌<◌}
use mathlib.Core.List.{List, [], ◌∷◌, ◌++◌, append_assoc, append-nil}
use native.Mathlib.Omega.{arith}
use native.Mathlib.Decide.{dec_le}
use lib.ListN.{length, get_or, set, get_or-eq_default}
use lib.Seq.{get_or-set_same, get_or-set_other}
use lib.Dec.{eqb}
use borrow.Author.Tests.{eq-eqb, ne_eqb}
use Rattle.lists.specs.Lists.{pick}
use Rattle.model_orders.specs.Bag.{count, without, zeros_of, last_once, least}
use Rattle.model_orders.specs.Object.{Link}
use Rattle.model_orders.specs.Graph.{Graph, kids, kids_of, waits, Rooted}
use Rattle.model_orders.specs.Order.{order_from, order_of}
use Rattle.model_orders.proofs.Bags.{Same, same, other, same_or, Zero, none, some, zero_or, one_same, length_without, least-in}
use Rattle.model_orders.proofs.Waits.{waits-without}
use Rattle.model_orders.proofs.Orders.{Inv, next-free, next-inv, rooted-inv}
use Rattle.order_release.specs.Release.{Arrivals, released, released_all}

-- ---- a placed node's links taken off

-- a counter above 0 is one of the list's
in-range : (cs : List ℕ) (k : ℕ) → 0 < get_or cs k 0 → k < length cs
in-range cs k h = go (dec_le (length cs) k)
  where
    go : Dec (length cs ≤ k) → k < length cs
    go (yes e) = absurd (omega (arith, get_or-eq_default cs 0 e))
    go (no e) = omega arith

-- the counters are w and the fields to come
abbrev Counts : (ℕ → ℕ) → List ℕ → List ℕ → Type 0
Counts w ks cs = (c : ℕ) → get_or cs c 0 ≡ w c + count c ks

one_less : (w : ℕ → ℕ) (k : ℕ) (ks cs : List ℕ) → Counts w (k ∷ ks) cs → Counts w ks (set cs k (get_or cs k 0 - 1))
unfolding count
one_less w k ks cs h c = go (same_or c k)
  where
    go : Same c k → get_or (set cs k (get_or cs k 0 - 1)) c 0 ≡ w c + count c ks
    go (same e _ _) = rw e (omega (arith, get_or-set_same cs k (get_or cs k 0 - 1) 0 (in-range cs k (omega (arith, h k, one_same k))), h k, one_same k))
    go (other n _ o) = omega (arith, get_or-set_other cs k c (get_or cs k 0 - 1) 0 n, h c)

-- a child comes to 0 at its last field
ready-last : (w : ℕ → ℕ) (k n : ℕ) (ks ready : List ℕ) → n ≡ w k + 1 + count k ks
    → pick (eqb n 1) (ready ++ (k ∷ [])) ready ++ zeros_of w (last_once ks) ≡ ready ++ zeros_of w (last_once (k ∷ ks))
unfolding last_once zeros_of
ready-last w k n ks ready e = go (zero_or (w k)) (zero_or (count k ks))
  where
    go : Zero (w k) → Zero (count k ks)
        → pick (eqb n 1) (ready ++ (k ∷ [])) ready ++ zeros_of w (last_once ks) ≡ ready ++ zeros_of w (pick (eqb (count k ks) 0) (k ∷ last_once ks) (last_once ks))
    go (none a b) (none c d) = rw (eq-eqb n 1 (omega arith), d, zeros_of, b, append_assoc)
    go (some a b) (none c d) = rw (ne_eqb n 1 (λ z. omega arith), d, zeros_of, b)
    go z (some c d) = rw (ne_eqb n 1 (λ z. omega arith), d)

-- its fields are off the counters, and its children that nothing else leads to have arrived
record Releases (w : ℕ → ℕ) (ks : List ℕ) (s t : Arrivals) : Type 0 where
  counts : (c : ℕ) → get_or t.counts c 0 ≡ w c
  arrived : t.arrived ≡ s.arrived ++ zeros_of w (last_once ks)

releases : (w : ℕ → ℕ) (ls : List Link) (s : Arrivals) → Counts w (kids_of ls) s.counts → Releases w (kids_of ls) s (released_all ls s)
unfolding released_all kids_of last_once zeros_of count
releases w [] s h = record { counts = λ c. omega (arith, h c); arrived = sym (append-nil s.arrived) }
releases w (l ∷ ls) s h =
    let k = l.child in
    let ks = kids_of ls in
    let r = releases w ls (released k s) (one_less w k ks s.counts h) in
    record { counts = r.counts; arrived = r.arrived ∙ ready-last w k (get_or s.counts k 0) ks s.arrived (omega (arith, h k, one_same k)) }

-- ---- turns

-- between two turns: `placed` are placed, of those left `ready` are ready, the longest ready first, and what comes is the order by the keys
pub record Turn (key : ℕ → ℕ) (g : Graph) (nodes : List ℕ) (root : ℕ) (counts placed left ready : List ℕ) : Type 0 where
  pub inv : Inv g left ready
  pub waits : (c : ℕ) → get_or counts c 0 ≡ waits g left c
  pub rest : placed ++ order_from key g (length left) left ready ≡ order_of key g nodes root

pub turn-first : (key : ℕ → ℕ) {g : Graph} {nodes : List ℕ} {root : ℕ} (cs : List ℕ) → Rooted g nodes root → ((c : ℕ) → get_or cs c 0 ≡ waits g nodes c)
    → Turn key g nodes root cs [] nodes (root ∷ [])
turn-first key {g} {nodes} {root} cs r h = record { inv = rooted-inv g nodes root r; waits = h; rest = refl }

pub turn_last : {key : ℕ → ℕ} {g : Graph} {nodes : List ℕ} {root : ℕ} {cs o left : List ℕ} → Turn key g nodes root cs o left [] → o ≡ order_of key g nodes root
unfolding order_from
turn_last {key} {g} {nodes} {root} {o = o} {left = left} t = go left t.rest
  where
    go : (l : List ℕ) → o ++ order_from key g (length l) l [] ≡ order_of key g nodes root → o ≡ order_of key g nodes root
    go [] e = rw (append-nil o) at e
    go (x ∷ l) e = rw (append-nil o) at e

module _ {key : ℕ → ℕ} {g : Graph} {root : ℕ} {nodes cs o left rs : List ℕ} {r : ℕ} (t : Turn key g nodes root cs o left (r ∷ rs)) where
  abbrev x : ℕ
  x = least key r rs

  -- those that the placing of x makes ready
  abbrev pub new : List ℕ
  new = zeros_of (waits g (without x left)) (last_once (kids g x))

  free : (waits g left x ≡ 0) × (0 < count x left)
  free = next-free g left (r ∷ rs) t.inv x (least-in key r rs)

  taken-off : (arrived : List ℕ) → Releases (waits g (without x left)) (kids g x) (record { counts = cs; arrived = arrived }) (released_all (g.links x) (record { counts = cs; arrived = arrived }))
  taken-off arrived =
      releases (waits g (without x left)) (g.links x) (record { counts = cs; arrived = arrived }) (λ c. omega (arith, t.waits c, waits-without g x c left free.1))

  pub turn-arrived : (arrived : List ℕ) → (released_all (g.links x) (record { counts = cs; arrived = arrived })).arrived ≡ arrived ++ new
  turn-arrived arrived = (taken-off arrived).arrived

  pub turn-next : (arrived : List ℕ)
      → Turn key g nodes root (released_all (g.links x) (record { counts = cs; arrived = arrived })).counts (o ++ (x ∷ [])) (without x left) (without x (r ∷ rs) ++ new)
  unfolding order_from
  turn-next arrived =
      let e : length left ≡ suc (length (without x left)) = omega (arith, length_without x left free.1) in
      record {
        inv = next-inv g left (r ∷ rs) t.inv x (least-in key r rs);
        waits = (taken-off arrived).counts;
        rest = append_assoc o (x ∷ []) (order_from key g (length (without x left)) (without x left) (without x (r ∷ rs) ++ new)) ∙ rw e at t.rest;
      }
