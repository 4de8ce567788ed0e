-- docs/RULES.md, 11.11: a table that is packed and read again.
use Rattle.std.specs.Prelude.{ℕ, ◌≡◌, List, length}
use Rattle.steps.specs.Runs.{Stores}
use Rattle.gsub.specs.declared.Scope.{Scope}
use Rattle.gsub.specs.Meaning.{gsub_reading}
use Rattle.gsub.specs.Substitute.{substitute_from}
use Rattle.gsub_read.specs.Read.{read_step}

-- t is read as b was read in s: in any stores of those lengths it is accepted, with the same id and counts and the same stores left; it has the same
-- reading, and the same substitute for every glyph in every lookup
pub record SameAgain (scope : Scope) (b t : List ℕ) (objects links : ℕ) (s : Stores) : Type 0 where
  pub accepted : (r : Stores) → length r.bytes ≡ length s.bytes → length r.words ≡ length s.words → (read_step scope t objects links r).told.number ≡ 0
  pub read : (r : Stores) → read_step scope t objects links r ≡ read_step scope b objects links r
  pub reading : gsub_reading scope t ≡ gsub_reading scope b
  pub substitutes : (lookup glyph : ℕ) → substitute_from t lookup glyph ≡ substitute_from b lookup glyph
