-- docs/RULES.md, 2.5: an index of objects, for the look for an equal one: a chain of ids for each bucket, in rising order. A word that leads to an id is the id + 1, and 0 leads to none.
-- For each bucket an entry of two words, where its chain begins and where it ends; behind them one for each id, the next id in its chain and the hash.
use Rattle.std.specs.Prelude.{◌≡◌, ℕ, ◌+◌, ◌-◌, ◌*◌, ◌≤◌, ◌<◌, List, length, get_or, set, eqb}
use Rattle.lists.specs.Lists.{pick}
use Rattle.model_orders.specs.Object.{Object, object_at}
use Rattle.session_hash.specs.Hash.{hash_of, bucket_of}

abbrev pub entry_words : ℕ
entry_words = 2

abbrev pub head_at : ℕ → ℕ
head_at k = k * entry_words

abbrev pub tail_at : ℕ → ℕ
tail_at k = k * entry_words + 1

abbrev pub next_at : ℕ → ℕ → ℕ
next_at buckets i = buckets * entry_words + i * entry_words

abbrev pub hash_at : ℕ → ℕ → ℕ
hash_at buckets i = buckets * entry_words + i * entry_words + 1

-- how many words an index of so many buckets and objects needs
abbrev pub index_need : ℕ → ℕ → ℕ
index_need buckets objects = buckets * entry_words + objects * entry_words

-- ---- chains of the ids below c, each in the chain of its key

-- x leads to the first id from i on whose key is k
pub data Leads (key : ℕ → ℕ) (c k i x : ℕ) : Type 0 where
  none : x ≡ 0 → ((j : ℕ) → i ≤ j → j < c → key j ≡ k → ⊥) → Leads key c k i x
  to : (y : ℕ) → x ≡ y + 1 → i ≤ y → y < c → key y ≡ k → ((j : ℕ) → i ≤ j → j < y → key j ≡ k → ⊥) → Leads key c k i x

-- x leads to the last id whose key is k
pub data Ends (key : ℕ → ℕ) (c k x : ℕ) : Type 0 where
  empty : x ≡ 0 → ((j : ℕ) → j < c → key j ≡ k → ⊥) → Ends key c k x
  at : (y : ℕ) → x ≡ y + 1 → y < c → key y ≡ k → ((j : ℕ) → y < j → j < c → key j ≡ k → ⊥) → Ends key c k x

pub record Chained (key : ℕ → ℕ) (c buckets : ℕ) (m : List ℕ) : Type 0 where
  pub heads : (k : ℕ) → k < buckets → Leads key c k 0 (get_or m (head_at k) 0)
  pub tails : (k : ℕ) → k < buckets → Ends key c k (get_or m (tail_at k) 0)
  pub nexts : (i : ℕ) → i < c → Leads key c (key i) (i + 1) (get_or m (next_at buckets i) 0)

-- ---- the index of a list of objects

abbrev pub key_in : ℕ → List Object → ℕ → ℕ
key_in buckets os i = bucket_of buckets (hash_of (object_at os i))

pub record Indexed (os : List Object) (buckets : ℕ) (m : List ℕ) : Type 0 where
  pub some : 0 < buckets
  pub fits : index_need buckets (length os) ≤ length m
  pub chained : Chained (key_in buckets os) (length os) buckets m
  pub hashed : (i : ℕ) → i < length os → get_or m (hash_at buckets i) 0 ≡ hash_of (object_at os i)

-- ---- one object more, of hash h

-- where the word stands that comes to lead to it: in the last of its chain, or at the chain's begin
abbrev pub leader_at : ℕ → ℕ → ℕ → ℕ
leader_at buckets k x = pick (eqb x 0) (head_at k) (next_at buckets (x - 1))

unfoldable pub added : ℕ → ℕ → ℕ → List ℕ → List ℕ
added buckets h id m =
    let k = bucket_of buckets h in
    set (set (set (set m (leader_at buckets k (get_or m (tail_at k) 0)) (id + 1)) (tail_at k) (id + 1)) (next_at buckets id) 0) (hash_at buckets id) h

-- what that asks
pub record Room (buckets h id : ℕ) (m : List ℕ) : Type 0 where
  pub some : 0 < buckets
  pub room : index_need buckets (id + 1) ≤ length m
  pub last : get_or m (tail_at (bucket_of buckets h)) 0 ≤ id
