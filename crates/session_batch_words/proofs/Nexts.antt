-- What the words say, by the first of them.
use Rattle.std.proofs.Common.{◌≡◌, ℕ, ◌-◌, ◌≤◌, List, [], ◌∷◌, length, get_or, ap, refl, ◌∙◌, arith}
use Rattle.std.specs.Prelude.{Option, Some, None, Result, Ok, Err, IsErr}
use borrow.Author.Tests.{ne_eqb}
use lib.ListN.{drop as past}
use Rattle.lists.proofs.Runs.{drop-first}
use Rattle.session_batch.specs.Calls.{open_word, put_word, link_word, own_link_word, close_word, drop_word, nothing, said}
use Rattle.session_batch_words.specs.Next.{next, said_by, words_taken, bytes_taken, ids_taken, Says, PutSays, LinkSays, OwnLinkSays, CloseSays}
use Rattle.session_batch_words.specs.declared.Call.{Call}
use Rattle.session_batch_words.specs.declared.NoCall.{NoCall}

pub none-says : (room : ℕ) (ids bytes words : List ℕ) → length words ≡ 0 → said room ids bytes words ≡ nothing
unfolding said
none-says room ids bytes [] h = refl
none-says room ids bytes (k ∷ l) h = absurd (omega arith)

module _ (room : ℕ) (ids : List ℕ) (left : ℕ) (words : List ℕ) where
  pub says_nothing : length words ≡ 0 → Says room ids left words (Ok None)
  says_nothing h = record { is = λ bytes e. none-says room ids bytes words h; within = record { in_words = omega arith; in_bytes = omega arith; in_ids = omega arith } }

  -- no call, as `?` hands it on
  pub says-none : {e : NoCall} (n : Result (Option Call) NoCall) → IsErr n → Says room ids left words (Err e) → Says room ids left words n
  says-none (Ok x) h s = cc
  says-none (Err f) h s = record { is = s.is; within = record { in_words = s.within.in_words; in_bytes = s.within.in_bytes; in_ids = s.within.in_ids } }

  module _ (some : length words ≡ 0 → ⊥) where
    -- the first word and those behind it say n
    by_first : {n : Result (Option Call) NoCall} → ((bytes : List ℕ) → length bytes ≡ left → said room ids bytes (get_or words 0 0 ∷ past 1 words) ≡ said_by bytes words n)
        → words_taken n ≤ length words → bytes_taken n ≤ left → ids_taken n ≤ room - length ids → Says room ids left words n
    by_first h a b c = record { is = λ bytes e. ap (said room ids bytes) (drop-first 0 words (omega arith)) ∙ h bytes e; within = record { in_words = a; in_bytes = b; in_ids = c } }

    pub says-open : get_or words 0 0 ≡ open_word → Says room ids left words (Ok (Some Call.Open))
    unfolding said
    says-open e = by_first (λ bytes f. rw e refl) (omega arith) (omega arith) (omega arith)

    pub says-drop : get_or words 0 0 ≡ drop_word → Says room ids left words (Ok (Some Call.Drop))
    unfolding said
    says-drop e = by_first (λ bytes f. rw e refl) (omega arith) (omega arith) (omega arith)

    pub says_other : (get_or words 0 0 ≡ open_word → ⊥) → (get_or words 0 0 ≡ put_word → ⊥) → (get_or words 0 0 ≡ link_word → ⊥) → (get_or words 0 0 ≡ own_link_word → ⊥) → (get_or words 0 0 ≡ close_word → ⊥) → (get_or words 0 0 ≡ drop_word → ⊥)
        → (e : NoCall) → Says room ids left words (Err e)
    unfolding said
    says_other a b c d e f x =
        by_first (λ bytes g. rw (ne_eqb _ open_word a, ne_eqb _ put_word b, ne_eqb _ link_word c, ne_eqb _ own_link_word d, ne_eqb _ close_word e, ne_eqb _ drop_word f)) (omega arith) (omega arith) (omega arith)

    module _ {n : Result Call NoCall} where
      pub says-put : get_or words 0 0 ≡ put_word → PutSays left words n → Says room ids left words (next n)
      unfolding said
      says-put e s = by_first (λ bytes f. rw e (s.is bytes f)) (omega arith) (omega arith) (omega arith)

      pub says-link : get_or words 0 0 ≡ link_word → LinkSays words n → Says room ids left words (next n)
      unfolding said
      says-link e s = by_first (λ bytes f. rw e (s.is bytes)) (omega arith) (omega arith) (omega arith)

      pub says-own : get_or words 0 0 ≡ own_link_word → OwnLinkSays ids words n → Says room ids left words (next n)
      unfolding said
      says-own e s = by_first (λ bytes f. rw e (s.is bytes)) (omega arith) (omega arith) (omega arith)

      pub says-close : get_or words 0 0 ≡ close_word → CloseSays room ids n → Says room ids left words (next n)
      unfolding said
      says-close e s = by_first (λ bytes f. rw e (s.is bytes words)) (omega arith) (omega arith) (omega arith)
