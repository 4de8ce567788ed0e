-- The turns of the loop over the lines with a piece open.
use mathlib.Core.Path.{◌≡◌, refl, sym, ap, ◌∙◌}
use Prim.Native.Nat.{ℕ, ◌+◌, ◌*◌, ◌≤◌, ◌<◌}
use mathlib.Core.List.{List, []}
use mathlib.Core.Bool.{true, true≢false}
use native.Mathlib.Omega.{arith}
use lib.ListN.{length, take, drop}
use Rattle.job_lines.specs.Lines.{cut, first_line}
use Rattle.layout.specs.Sound.{sound}
use Rattle.layout.specs.Decode.{decode}
use Rattle.job_calls.specs.Leads.{goes_on, is_on, count_of, meant, Leads}
use Rattle.std.specs.Prelude.{Some, None, is_some, Result, Ok, Err}
use Rattle.job_calls.specs.declared.stop.Stop.{Stop}
use Rattle.job_calls.specs.declared.line.Lead.{Lead}
use Rattle.job_rules.specs.Job.{Stage, piece_due, writing, Turn, on, turn, run}
use Rattle.job_items.specs.Item.{piece_least}
use Rattle.job_header.specs.Header.{links_line, piece_line}
use Rattle.job_rest.specs.Halts.{Halts, Going}
use Rattle.job_rest.specs.declared.Halt.{Halt}
use Rattle.job_header.proofs.Lined.{part-inside, part-some, line-turn}

meant-on : (r : Result Lead Stop) (n : ℕ) (b w ids : List ℕ) → Some n ≡ goes_on r → meant r b w ids ≡ on (writing (decode b w) (take n ids))
meant-on (Ok (Lead.On k)) n b w ids e = let q : n ≡ k = cc in rw q
meant-on (Ok (Lead.Packs root)) n b w ids e = cc
meant-on (Err s) n b w ids e = cc

not_on : (r : Result Lead Stop) → None ≡ goes_on r → is_on r ≡ true → ⊥
not_on r e f = true≢false (sym f ∙ ap is_some (sym e))

-- a line p at `at` led to r
module _ (text : List ℕ) {p : List ℕ} (at : ℕ) (q : p ≡ first_line (drop at text)) where
  behind : (room n : ℕ) (s : Stage) → run room (n + 1) (cut (drop (at + length p) text)) (turn p s) ≡ run room n (cut (drop at text)) (on s)
  behind room n s = rw q (line-turn text at room n s)

  inside : at ≤ length text → at + length p ≤ length text
  inside h = rw q (part-inside text at h)

  some : at < length text → 0 < length p
  some h = rw q (part-some text at h)

  module _ (s : Stage) {k : ℕ} {w : List ℕ} {r : Result Lead Stop} {b' w' ids' : List ℕ} (l : Leads (turn p s) k w r b' w' ids') where
    led : (room n : ℕ) → run room (n + 1) (cut (drop (at + length p) text)) (meant r b' w' ids') ≡ run room n (cut (drop at text)) (on s)
    led room n = ap (run room (n + 1) (cut (drop (at + length p) text))) l.leads ∙ behind room n s

pub going-none : (text : List ℕ) (from : ℕ) (b w ids : List ℕ) → sound b w ≡ true → from ≤ length text → Going text from (on (writing (decode b w) [])) w from piece_line 0 b w ids
going-none text from b w ids h k = record { is_sound = h; limits = refl; inside = k; few = omega arith; short = omega arith; leads = λ room. refl }

module _ {text : List ℕ} {from : ℕ} {t : Turn} {w₀ : List ℕ} {at line count : ℕ} {b w ids : List ℕ} (g : Going text from t w₀ at line count b w ids) where
  pub going-over : length text ≤ at → Halts text piece_line from t w₀ (record { lead = Ok (Lead.On count); at = at; line = line }) b w ids
  going-over h = record { is_sound = g.is_sound; limits = g.limits; over = λ e. h; short = g.short; inside = g.inside; leads = g.leads }

  module _ {p : List ℕ} (q : p ≡ first_line (drop at text)) (h : at < length text) {r : Result Lead Stop} {b' w' ids' : List ℕ} (l : Leads (turn p (writing (decode b w) (take count ids))) (count + 1) w r b' w' ids') where
    pub going-halts : None ≡ goes_on r → Halts text piece_line from t w₀ (record { lead = r; at = at + length p; line = line + 1 }) b' w' ids'
    going-halts e = record {
      is_sound = l.is_sound;
      limits = l.limits ∙ g.limits;
      over = λ f. absurd (not_on _ e f);
      short = omega (arith, g.short, some text at q h);
      inside = inside text at q (omega arith);
      leads = λ room. led text at q _ l room line ∙ g.leads room;
    }

    pub going_next : {n : ℕ} → Some n ≡ goes_on r → count_of r * piece_least ≤ count * piece_least + length p → Going text from t w₀ (at + length p) (line + 1) n b' w' ids'
    going_next {n} e j = record {
      is_sound = l.is_sound;
      limits = l.limits ∙ g.limits;
      inside = inside text at q (omega arith);
      few = omega (arith, rw (← e) at j, g.few);
      short = omega (arith, g.short, some text at q h);
      leads = λ room. ap (run room (line + 1) (cut (drop (at + length p) text))) (sym (meant-on r n b' w' ids' e)) ∙ led text at q _ l room line ∙ g.leads room;
    }

-- ---- the first piece line

module _ (text : List ℕ) (from : ℕ) (b w : List ℕ) {p : List ℕ} (q : p ≡ first_line (drop from text)) (h : from ≤ length text) {r : Result Lead Stop} {b₁ w₁ ids₁ : List ℕ}
    (l : Leads (turn p (piece_due (decode b w))) 0 w r b₁ w₁ ids₁) where
  first-inside : from + length p ≤ length text
  first-inside = inside text from q h

  pub first-halts : None ≡ goes_on r → piece_line ≤ from + length p + piece_line → Halts text links_line from (on (piece_due (decode b w))) w (record { lead = r; at = from + length p; line = piece_line }) b₁ w₁ ids₁
  first-halts e k = record {
    is_sound = l.is_sound;
    limits = l.limits;
    over = λ f. absurd (not_on _ e f);
    short = k;
    inside = first-inside;
    leads = λ room. led text from q _ l room links_line;
  }

  pub first_rest : {n : ℕ} → Some n ≡ goes_on r → {x : Halt} {b₂ w₂ ids₂ : List ℕ} → Halts text piece_line (from + length p) (on (writing (decode b₁ w₁) [])) w₁ x b₂ w₂ ids₂
      → Halts text links_line from (on (piece_due (decode b w))) w x b₂ w₂ ids₂
  first_rest {n} e z = record {
    is_sound = z.is_sound;
    limits = z.limits ∙ l.limits;
    over = z.over;
    short = z.short;
    inside = z.inside;
    leads = λ room. z.leads room ∙ ap (run room piece_line (cut (drop (from + length p) text))) (sym (meant-on r n b₁ w₁ ids₁ e ∙ none)) ∙ led text from q _ l room links_line;
  }
    where
      none : on (writing (decode b₁ w₁) (take n ids₁)) ≡ on (writing (decode b₁ w₁) [])
      none = let f : n ≡ 0 = omega (arith, rw (← e) at l.few) in rw f
