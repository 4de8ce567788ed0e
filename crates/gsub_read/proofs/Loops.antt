-- The loop over a walk's moves: what is left, done to the stores as they are, is the whole. Before it the header's table is opened.
use Rattle.std.specs.Prelude.{Ok, Err}
use mathlib.Core.Path.{◌≡◌, refl, ap, ◌∙◌}
use Prim.Native.Nat.{ℕ, ◌<◌}
use mathlib.Core.List.{List, [], ◌∷◌}
use mathlib.Core.Bool.{true}
use lib.ListN.{length}
use Rattle.answer.specs.declared.ObjectId.{ObjectId}
use Rattle.layout.specs.Sound.{sound}
use Rattle.steps.specs.Runs.{Stores, stores}
use Rattle.steps.specs.Mirrored.{by_stores}
use Rattle.gsub.specs.declared.Scope.{Scope}
use Rattle.gsub.specs.declared.Kind.{Kind}
use Rattle.gsub.specs.declared.Kind.TheVariants.{Header}
use Rattle.gsub.specs.declared.Mode.{Mode}
use Rattle.gsub.specs.Ops.{Op, begin, perform}
use Rattle.gsub.specs.Meaning.{deepest}
use Rattle.gsub.specs.declared.Mode.TheVariants.{Plain as plain}
use Rattle.gsub.specs.Promote.{mode_ops}
use Rattle.gsub.proofs.Plain.{plain-ops}
use Rattle.gsub_walk.specs.declared.walk.Walk.{Walk}
use Rattle.gsub_walk.specs.declared.walk.Move.{Move}
use Rattle.gsub_walk.specs.Rest.{rest_of, Standing, MovesBy, begun_at}
use Rattle.gsub_walk.proofs.Moving.{begun-rest}
use Rattle.gsub_read.specs.declared.answers.Unread.{Unread}
use Rattle.gsub_read.specs.Answers.{Performed}
use Rattle.gsub_read.specs.Perform.{PerformedBy, ops_of, RanBy}
use Rattle.gsub_read.specs.Read.{ops_step, read_step}
use Rattle.gsub_read.proofs.Made.{goes_on, has_ended, all_made}

pub record Walking (b store₀ records₀ : List ℕ) (walk₀ : Walk) (last₀ : ObjectId) (store records : List ℕ) (walk : Walk) (last : ObjectId) : Type 0 where
  pub same : perform by_stores (rest_of b walk₀) last₀.0 (stores store₀ records₀) ≡ perform by_stores (rest_of b walk) last.0 (stores store records)
  pub stays : sound store records ≡ true
  pub stands : Standing walk
  pub bytes-kept : length store ≡ length store₀
  pub words-kept : length records ≡ length records₀

pub none-walked : {b s r : List ℕ} {w : Walk} {i : ObjectId} → sound s r ≡ true → Standing w → Walking b s r w i s r w i
none-walked h k = record { same = refl; stays = h; stands = k; bytes-kept = refl; words-kept = refl }

module _ {b s₀ r₀ s r : List ℕ} {w₀ w : Walk} {i₀ i : ObjectId} (x : Walking b s₀ r₀ w₀ i₀ s r w i) where
  module _ {s' r' : List ℕ} (m : Move) (next : Walk) (v : MovesBy b w m next) where
    module _ (j : ObjectId) (h : PerformedBy (ops_of b m) i.0 (stores s r) (Ok j) (stores s' r')) (o : 0 < w.depth) where
      pub walked_on : length s' ≡ length s → length r' ≡ length r → Walking b s₀ r₀ w₀ i₀ s' r' next j
      walked_on l k =
          let g = goes_on b w next i.0 (stores s r) j (stores s' r') x.stands o m v h in
          record { same = x.same ∙ g.same; stays = h.stays; stands = g.stands; bytes-kept = l ∙ x.bytes-kept; words-kept = k ∙ x.words-kept }

      pub walked-less : length (rest_of b next) < length (rest_of b w)
      walked-less = (goes_on b w next i.0 (stores s r) j (stores s' r') x.stands o m v h).less

    pub walk_refused : (u : Unread) → PerformedBy (ops_of b m) i.0 (stores s r) (Err u) (stores s' r') → RanBy (rest_of b w₀) i₀.0 (stores s₀ r₀) (Err u) (stores s' r')
    walk_refused u h =
        let e = has_ended b w next m i.0 (stores s r) u (stores s' r') v h in
        record { ran = x.same ∙ e.ran; stays = e.stays }

  pub all-walked : w.depth ≡ 0 → RanBy (rest_of b w₀) i₀.0 (stores s₀ r₀) (Ok i) (stores s r)
  all-walked z = let e = all_made b w i (stores s r) z x.stays in record { ran = x.same ∙ e.ran; stays = e.stays }

-- ---- the header's table opened, and walked through

module _ (scope : Scope) (b : List ℕ) (m : Mode) where
  begun-as : (s : Stores) → perform by_stores (mode_ops deepest b m (Header scope) 0) 0 s ≡ perform by_stores (begin ∷ rest_of b (begun_at m (Header scope) 0)) 0 s
  begun-as s = ap (λ ops. perform by_stores ops 0 s) (begun-rest b m (Header scope) 0)

  pub not-begun : {s t : Stores} (u : Unread) → PerformedBy (begin ∷ []) 0 s (Err u) t → RanBy (mode_ops deepest b m (Header scope) 0) 0 s (Err u) t
  not-begun {s} u h = record { ran = begun-as s ∙ h.made (rest_of b (begun_at m (Header scope) 0)); stays = h.stays }

  pub begun-ran : {s t : Stores} (j : ObjectId) → PerformedBy (begin ∷ []) 0 s (Ok j) t → {w : Walk} {r : Performed} {u : Stores} → w ≡ begun_at m (Header scope) 0 → RanBy (rest_of b w) j.0 t r u
      → RanBy (mode_ops deepest b m (Header scope) 0) 0 s r u
  begun-ran {s} j h f x = record { ran = begun-as s ∙ h.made (rest_of b (begun_at m (Header scope) 0)) ∙ (rw f at x.ran); stays = x.stays }

-- ---- a read in the mode of a table as it stands

pub as-it-stands : (scope : Scope) (b : List ℕ) (objects links : ℕ) (s : Stores) → ops_step (mode_ops deepest b plain (Header scope) 0) objects links s ≡ read_step scope b objects links s
as-it-stands scope b objects links s = ap (λ (ops : Kind → ℕ → List Op). ops_step (ops (Header scope) 0) objects links s) (plain-ops deepest b)
