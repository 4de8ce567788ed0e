-- The line found from the root down has what the root reaches, and the counts are how many fields of those lead to each node.
use mathlib.Core.Path.{◌≡◌, refl, sym, ◌∙◌}
use Prim.Native.Nat.{ℕ, zero, suc, ◌+◌, ◌≤◌, ◌<◌}
use mathlib.Core.List.{List, [], ◌∷◌, ◌++◌, append_assoc, append-nil}
use native.Mathlib.Omega.{arith}
use native.Mathlib.Numerals.{add-one}
use lib.ListN.{length, get_or, set, replicate, length-set, length-replicate}
use lib.Seq.{get_or-set_same, get_or-set_other}
use Rattle.lists.specs.Lists.{total}
use Rattle.model_orders.specs.Bag.{one, count}
use Rattle.model_orders.specs.Object.{Link}
use Rattle.model_orders.specs.Graph.{Graph, kids, kids_of, waits, reached, reach_down, Ranked, Acyclic}
use Rattle.model_orders.proofs.Bags.{Same, same, other, same_or, Zero, none, some, zero_or, one_same, count-append}
use Rattle.order_survey.specs.Survey.{Lined, counted_all, joined, lined, unlined}

counted-long : (ls : List Link) (cs : List ℕ) → length (counted_all ls cs) ≡ length cs
unfolding counted_all
counted-long [] cs = refl
counted-long (l ∷ ls) cs = counted-long ls _ ∙ length-set cs l.child _

-- one field
pub counted-one : (cs : List ℕ) (x c : ℕ) → x < length cs → get_or (set cs x (get_or cs x 0 + 1)) c 0 ≡ one c x + get_or cs c 0
counted-one cs x c h = go (same_or c x)
  where
    go : Same c x → get_or (set cs x (get_or cs x 0 + 1)) c 0 ≡ one c x + get_or cs c 0
    go (same e _ o) = rw (o, e) (get_or-set_same cs x _ 0 h ∙ omega arith)
    go (other n _ o) = rw o (get_or-set_other cs x c _ 0 n ∙ omega arith)

-- the fields of one node
pub counted-at : (ls : List Link) (cs : List ℕ) → ((c : ℕ) → 0 < count c (kids_of ls) → c < length cs) → (c : ℕ)
    → get_or (counted_all ls cs) c 0 ≡ count c (kids_of ls) + get_or cs c 0
unfolding counted_all kids_of count
counted-at [] cs h c = omega arith
counted-at (l ∷ ls) cs h c =
    omega (
      arith,
      counted-at ls (set cs l.child (get_or cs l.child 0 + 1)) (λ c k. rw length-set (h c (omega arith))) c,
      counted-one cs l.child c (h l.child (omega (arith, one_same l.child))),
    )

-- m counts how often each node is led to at first: each that it reaches joins the line
record Down (g : Graph) (n : ℕ) (m : List ℕ) (s t : Lined) : Type 0 where
  line : t.line ≡ s.line ++ reach_down g n m
  incoming : (c : ℕ) → get_or t.incoming c 0 ≡ count c m + waits g (reach_down g n m) c

lined-down : (g : Graph) → Acyclic g → (n : ℕ) (m : List ℕ) (s : Lined) → n ≤ length s.incoming → ((c : ℕ) → get_or s.incoming c 0 ≡ count c m)
    → Down g n m s (lined g n s)
unfolding lined reach_down waits total Ranked
lined-down g y zero m s h r = record { line = sym (append-nil s.line); incoming = λ c. omega (arith, r c) }
lined-down g y (suc i) m s h r =
    go (zero_or (count i m)) (lined-down g y i m s (omega arith) r)
    (lined-down g y i (kids g i ++ m) (joined g i s) (omega (arith, counted-long (g.links i) s.incoming))
    (λ c. omega (arith, r c, count-append c (kids g i) m, counted-at (g.links i) s.incoming (λ x b. omega (arith, y i x b)) c)))
  where
    go : Zero (count i m) → Down g i m s (lined g i s) → Down g i (kids g i ++ m) (joined g i s) (lined g i (joined g i s)) → Down g (suc i) m s (lined g (suc i) s)
    go (none a b) u v = rw (r i, b) record { line = rw b u.line; incoming = λ c. rw b (u.incoming c) }
    go (some a b) u v = rw (r i, b) record {
      line = rw b (v.line ∙ append_assoc s.line (i ∷ []) (reach_down g i (kids g i ++ m)));
      incoming = λ c. rw b (omega (arith, v.incoming c, count-append c (kids g i) m));
    }

-- ---- from the root

get_or-zeros : (n c : ℕ) → ◌≡◌ {A = ℕ} (get_or (replicate n 0) c 0) 0
get_or-zeros zero c = refl
get_or-zeros (suc n) zero = refl
get_or-zeros (suc n) (suc c) = get_or-zeros n c

module _ (g : Graph) (y : Acyclic g) (nodes root : ℕ) (h : root < nodes) where
  begun : (c : ℕ) → get_or (unlined nodes root).incoming c 0 ≡ count c (root ∷ [])
  unfolding count
  begun c = go (same_or c root)
    where
      go : Same c root → get_or (set (replicate nodes 0) root 1) c 0 ≡ one c root + 0
      go (same e _ o) = rw (o, e) (get_or-set_same {A = ℕ} (replicate nodes 0) root 1 0 (rw length-replicate h))
      go (other n _ o) = rw o (get_or-set_other {A = ℕ} (replicate nodes 0) root c 1 0 n ∙ get_or-zeros nodes c)

  down : Down g (suc root) (root ∷ []) (unlined nodes root) (lined g (root + 1) (unlined nodes root))
  down = rw (add-one root) (lined-down g y (suc root) (root ∷ []) (unlined nodes root) (rw (length-set, length-replicate) h) begun)

  pub line-reached : (lined g (root + 1) (unlined nodes root)).line ≡ reached g root
  unfolding reached
  line-reached = down.line

  -- the root counts once more
  pub incoming-waits : (c : ℕ) → get_or (lined g (root + 1) (unlined nodes root)).incoming c 0 ≡ one c root + waits g (reached g root) c
  unfolding reached count
  incoming-waits c = omega (arith, down.incoming c)
