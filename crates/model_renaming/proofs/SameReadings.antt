-- Where objects that read the same are the same, to read the same is a renaming: roots that read the same are arranged alike.
use mathlib.Core.Path.{◌≡◌, sym, ap, ◌∙◌}
use Prim.Native.Nat.{ℕ, ◌<◌}
use mathlib.Core.List.{List, [], ◌∷◌}
use native.Mathlib.Omega.{arith}
use lib.ListN.{length}
use lib.Dec.{eqb}
use borrow.Author.Tests.{eq-eqb, ne_eqb}
use Rattle.model_orders.specs.Bag.{count}
use Rattle.model_orders.specs.Object.{Link}
use Rattle.model_orders.specs.Graph.{Graph, kids_of}
use Rattle.model_orders.specs.Reading.{Reading, read_links, Reads}
use Rattle.model_orders.specs.Table.{Sized}
use Rattle.model_orders.specs.Copies.{arranged}
use Rattle.model_orders.proofs.Bags.{Same, same, other, same_or, one_same}
use Rattle.model_orders.proofs.Growths.{Base}
use Rattle.model_renaming.specs.Renaming.{SameLinks, Numbered, Renames, SameEnd, Different, ReadAlike}
use Rattle.model_renaming.proofs.SameEnds.{renamed-same}

base-numbered : {g : Graph} {content : ℕ → List ℕ} {ρ : ℕ → Reading} {n : ℕ} → Base g content ρ n → Numbered g n
base-numbered b = record { acyclic = b.acyclic; low = b.low }

module _ {g h : Graph} {content content' : ℕ → List ℕ} {ρ ρ' : ℕ → Reading} {n n' : ℕ} (b : Base g content ρ n) (b' : Base h content' ρ' n')
    (d : Different ρ n) (d' : Different ρ' n') where
  abbrev R : ℕ → ℕ → Type 0
  R = ReadAlike ρ ρ' n n'

  alike-links : (ls ms : List Link) (x y : List ℕ) → read_links ρ ls x ≡ read_links ρ' ms y → ((c : ℕ) → 0 < count c (kids_of ls) → c < n) → ((c : ℕ) → 0 < count c (kids_of ms) → c < n')
      → SameLinks R ls ms
  unfolding read_links kids_of count
  alike-links [] [] x y e k k' = SameLinks.nil
  alike-links [] (m ∷ ms) x y e k k' = absurd (let z : ◌≡◌ {A = ℕ} 0 1 = cc in omega arith)
  alike-links (l ∷ ls) [] x y e k k' = absurd (let z : ◌≡◌ {A = ℕ} 0 1 = cc in omega arith)
  alike-links (l ∷ ls) (m ∷ ms) x y e k k' =
      let es : l.slot ≡ m.slot = cc in
      let ec : ρ l.child ≡ ρ' m.child = cc in
      let er : read_links ρ ls x ≡ read_links ρ' ms y = cc in
      SameLinks.cons es (record { read = ec; low = k l.child (omega (arith, one_same l.child)); low' = k' m.child (omega (arith, one_same m.child)) })
      (alike-links ls ms x y er (λ c i. k c (omega arith)) (λ c i. k' c (omega arith)))

  alike-bytes : (ls ms : List Link) (x y : List ℕ) → read_links ρ ls x ≡ read_links ρ' ms y → x ≡ y
  unfolding read_links
  alike-bytes [] [] x y e = cc
  alike-bytes [] (m ∷ ms) x y e = cc
  alike-bytes (l ∷ ls) [] x y e = cc
  alike-bytes (l ∷ ls) (m ∷ ms) x y e = alike-bytes ls ms x y (let er : read_links ρ ls x ≡ read_links ρ' ms y = cc in er)

  alike_read : (p p' : ℕ) → R p p' → read_links ρ (g.links p) (content p) ≡ read_links ρ' (h.links p') (content' p')
  unfolding Reads
  alike_read p p' t = sym (b.reads p) ∙ t.read ∙ b'.reads p'

  alike-content : (p p' : ℕ) → R p p' → content p ≡ content' p'
  alike-content p p' t = alike-bytes (g.links p) (h.links p') (content p) (content' p') (alike_read p p' t)

  alike-renames : Renames g h R
  unfolding Different Sized
  alike-renames =
      record {
        ids = λ a a' c c' r s. go a a' c c' r s (same_or a c);
        sizes = λ p p' t. sym (b.sized p) ∙ ap length (alike-content p p' t) ∙ b'.sized p';
        links = λ p p' t. alike-links (g.links p) (h.links p') (content p) (content' p') (alike_read p p' t) (λ c i. b.low p c i) (λ c i. b'.low p' c i);
      }
    where
      go : (a a' c c' : ℕ) → R a a' → R c c' → Same a c → eqb a c ≡ eqb a' c'
      go a a' c c' r s (same e t _) = t ∙ sym (eq-eqb a' c' (d' a' c' r.low' s.low' (sym r.read ∙ ap ρ e ∙ s.read)))
      go a a' c c' r s (other e t _) = t ∙ sym (ne_eqb a' c' (λ f. e (d a c r.low s.low (r.read ∙ ap ρ' f ∙ sym s.read))))

  pub read_same : {root root' : ℕ} → ReadAlike ρ ρ' n n' root root' → (copies : ℕ) → SameEnd (ReadAlike ρ ρ' n n') content content' (arranged copies g n root) (arranged copies h n' root')
  read_same r copies = renamed-same (base-numbered b) (base-numbered b') alike-renames alike-content r r.low r.low' copies
