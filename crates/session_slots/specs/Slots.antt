-- docs/RULES.md, 2.5: the ids of a session's closed objects in slots, for the look for an equal one: each in the first free slot from that of its object's hash on, where one of
-- the first so many is free. A slot that holds an id has the id + 1, and 0 is in a free one.
use Rattle.std.specs.Prelude.{◌≡◌, false, ℕ, zero, suc, ◌+◌, ◌%◌, ◌≤◌, ◌<◌, List, length, get_or, set, eqb}
use Rattle.lists.specs.Lists.{pick}
use Rattle.model_orders.specs.Object.{Object, object_at, same_object}
use Rattle.session_hash.specs.Hash.{hash_limit, mix, hash_of, bucket_of}

abbrev pub slots : ℕ
slots = 24576

abbrev pub probes : ℕ
probes = 32

-- id i is met on the way of n slots from `at` on, or all of them are taken
pub record Placed (n : ℕ) (m : List ℕ) (at i : ℕ) : Type 0 where
  pub steps : ℕ
  pub most : steps ≤ n
  pub taken : (e : ℕ) → e < steps → 0 < get_or m (at + e) 0
  pub held : steps < n → get_or m (at + steps) 0 ≡ i + 1

-- the slot of a hash: mixed once more, since the hashes of objects that differ little lie close together
unfoldable pub slot_from : ℕ → ℕ
slot_from h = bucket_of slots (mix (h % hash_limit) 0)

abbrev pub slot_of : Object → ℕ
slot_of o = slot_from (hash_of o)

-- the slots of a list of objects, no two of which are the same
pub record Slotted (os : List Object) (m : List ℕ) : Type 0 where
  pub long : length m ≡ slots + probes
  pub placed : (i : ℕ) → i < length os → Placed probes m (slot_of (object_at os i)) i
  pub single : (i j : ℕ) → i < j → j < length os → same_object (object_at os j) (object_at os i) ≡ false

-- one id more: in the first of n slots from `at` on that is free
unfoldable pub added : ℕ → ℕ → ℕ → List ℕ → List ℕ
added zero at id m = m
added (suc n) at id m = pick (eqb (get_or m at 0) 0) (set m at (id + 1)) (added n (at + 1) id m)
