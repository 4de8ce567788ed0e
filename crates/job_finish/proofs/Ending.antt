-- Each way a job ends.
use mathlib.Core.Path.{◌≡◌, refl, sym, ap, ◌∙◌}
use Prim.Native.Nat.{ℕ, ◌+◌, ◌≤◌, ◌<◌}
use mathlib.Core.List.{List, [], ◌∷◌}
use mathlib.Core.Bool.{true}
use native.Mathlib.Omega.{arith}
use lib.Dec.{eqb}
use lib.ListN.{length, drop, length-drop, drop_of_length-le}
use borrow.Author.Tests.{eq-eqb, ne_eqb}
use Rattle.lists.specs.Lists.{over}
use Rattle.lists.proofs.Runs.{over_none}
use Rattle.job_lines.specs.Lines.{cut}
use Rattle.job_lines.proofs.Cutting.{cut-first}
use Rattle.answer.specs.Answers.{Packing}
use Rattle.model.specs.Told.{Told, told_by_pack}
use Rattle.model.proofs.Verdicts.{refused-number}
use Rattle.model.specs.Session.{Session, PackLeft, pack}
use Rattle.layout.specs.Decode.{decode}
use Rattle.std.specs.Prelude.{Ok, Err, IsErr}
use Rattle.answer.specs.declared.ObjectId.{ObjectId}
use Rattle.job_calls.specs.Stops.{number_of}
use Rattle.job_calls.specs.declared.stop.Stop.{Stop}
use Rattle.job_calls.specs.declared.line.Lead.TheVariants as Lead
use Rattle.job_rules.specs.Job.{packs, no_needs, Ending, packed, refused, Ended, refused_at, breach, copies_allowed, finished, run}
use Rattle.job_finish.specs.Ends.{Ends, Finishes}
use Rattle.job_rest.specs.declared.Halt.{Halt}
use Rattle.job_header.proofs.Lined.{run-stop, run_none, cut-none}
use Rattle.job_finish.proofs.Packing.{PacksAs}

pub ends-refused : (why n : ℕ) (out : List ℕ) {e : Ended} → e ≡ refused_at why n → Ends e (refused why n) out out
ends-refused why n out f = record { ending = sym (ap (λ (x : Ended). x.ending) f); output = sym (over_none 0 out) ∙ ap (λ (x : Ended). over 0 x.table out) (sym f) }

-- ---- the last line is read

run-packs : (room n : ℕ) (ls : List (List ℕ)) (s : Session) (root : ℕ) → run room n ls (packs s root) ≡ finished n ls (pack no_needs root copies_allowed room 0 s)
unfolding run
run-packs room n [] s root = refl
run-packs room n (l ∷ ls) s root = refl

module _ (text : List ℕ) (at line root : ℕ) (b w out : List ℕ) {out' : List ℕ} {r : Packing} (q : PacksAs root b w r out out') where
  abbrev left : PackLeft
  left = pack no_needs root copies_allowed (length out) 0 (decode b w)

  abbrev end : Ended
  end = run (length out) line (cut (drop at text)) (packs (decode b w) root)

  end_is : end ≡ finished line (cut (drop at text)) left
  end_is = run-packs (length out) line (cut (drop at text)) (decode b w) root

  output : out' ≡ over 0 end.table out
  output = q.written ∙ ap (λ (t : List ℕ). over 0 t out) (sym (ap (λ (x : Ended). x.table) end_is))

  number_is : (told_by_pack r).number ≡ left.told.number
  number_is = ap (λ (x : Told). x.number) q.told

  pub packs-refused : (k : ℕ) → k ≡ (told_by_pack r).number → (k ≡ 0 → ⊥) → Ends end (refused k line) out out'
  packs-refused k e n = record {
    ending =
        ap (λ (x : ℕ). refused x line) (e ∙ number_is)
        ∙ sym (ap (λ (x : Ended). x.ending) end_is ∙ rw (ne_eqb left.told.number 0 (λ z. n (e ∙ number_is ∙ z))));
    output = output;
  }

  module _ (e : (told_by_pack r).number ≡ 0) where
    zero_is : eqb left.told.number 0 ≡ true
    zero_is = eq-eqb left.told.number 0 (sym number_is ∙ e)

    pub packs-more : at < length text → Ends end (refused breach (line + 1)) out out'
    packs-more h = record {
      ending = sym (ap (λ (x : Ended). x.ending) end_is ∙ rw (cut-first (drop at text) (omega (arith, length-drop at text)), zero_is));
      output = output;
    }

    pub packs-done : length text ≤ at → (n c : ℕ) → n ≡ (told_by_pack r).length → c ≡ (told_by_pack r).placed → Ends end (packed n c) out out'
    packs-done h n c f g = record {
      ending =
          ap (λ (x : ℕ). packed x c) (f ∙ ap (λ (x : Told). x.length) q.told) ∙ ap (packed left.told.length) (g ∙ ap (λ (x : Told). x.placed) q.told)
          ∙ sym (ap (λ (x : Ended). x.ending) end_is ∙ rw (drop_of_length-le text h, cut-none, zero_is));
      output = output;
    }

-- what is refused is not done
pub not_packed : (r : Packing) → IsErr r → (told_by_pack r).number ≡ 0 → ⊥
not_packed (Err r) v e = omega (arith, refused-number r.why)
not_packed (Ok p) v e = cc

-- ---- by what the last line led to

module _ (text : List ℕ) {h : Halt} (b w : List ℕ) (out : List ℕ) where
  pub finish-on : (k : ℕ) → h.lead ≡ Ok (Lead.On k) → length text ≤ h.at → Finishes text h b w (refused breach (h.line + 1)) out out
  finish-on k e f = record {
    ends = λ ids. ends-refused breach (h.line + 1) out (rw (e, drop_of_length-le text f, cut-none) (run_none (length out) h.line _));
  }

  pub finish-stop : (s : Stop) → h.lead ≡ Err s → Finishes text h b w (refused (number_of s) h.line) out out
  finish-stop s e = record { ends = λ ids. ends-refused (number_of s) h.line out (rw e (run-stop (length out) h.line (cut (drop h.at text)) (number_of s))) }

  pub finish-packs : (root : ObjectId) → h.lead ≡ Ok (Lead.Packs root) → {r : Ending} {out' : List ℕ}
      → Ends (run (length out) h.line (cut (drop h.at text)) (packs (decode b w) root.0)) r out out' → Finishes text h b w r out out'
  finish-packs root e x = record { ends = λ ids. rw e x }

-- the same of a job that comes to the same
pub ends_as : {e f : Ended} {r : Ending} {out out' : List ℕ} → Ends e r out out' → e ≡ f → Ends f r out out'
ends_as {out = out} x q = record { ending = x.ending ∙ ap (λ (y : Ended). y.ending) q; output = x.output ∙ ap (λ (y : Ended). over 0 y.table out) q }
