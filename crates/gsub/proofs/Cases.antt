-- The small tables are told, substituted and promoted as counted by hand.
use mathlib.Core.Path.{◌≡◌, refl}
use mathlib.Core.List.{◌++◌}
use mathlib.Core.Bool.{true}
use Rattle.lists.specs.Lists.{same_list, holds, total, first_that}
use Rattle.big_endian.specs.BigEndian.{read_from}
use Rattle.model_orders.specs.Object.{any_hopeless}
use Rattle.model.specs.Judge.{verdict}
use Rattle.model_orders.specs.Reading.{bytes_of, field_count, slots_in, same_reading}
use Rattle.model.specs.History.{put_on, field_on, judged, accept, after, id_told, expected}
use Rattle.steps.specs.Runs.{as_call}
use Rattle.gsub.specs.declared.Scope.TheVariants.{Single, Whole}
use Rattle.gsub.specs.declared.Kind.TheVariants.{Header}
use Rattle.gsub.specs.Tables.{fields_of, formats, by_number, times, size, often, laid}
use Rattle.gsub.specs.Features.{two_digits, feature_by}
use Rattle.gsub.specs.Ops.{by_rule, act, act_ops, fields_ops, table_ops, perform}
use Rattle.gsub.specs.Meaning.{act_bytes, own_bytes, act_reading, fields_reading, table_reading, deepest}
use Rattle.gsub.specs.Promote.{by_kind, promotes, mode_ops, trial_ops}
use Rattle.gsub.specs.Substitute.{in_glyphs, in_ranges, coverage_index, subtable, type_of, by_subtables, substitute_in, child_of}
use Rattle.gsub.specs.Cases.{small, extended, listed, listed2, read_in, told, all_told, cases, given, all_given, substitutions}
use Rattle.gsub.specs.WholeCases.{ligated, ligated_behind, whole_cases, mixed_substitutions}

pub all-told : all_told Single cases ≡ true
unfolding all_told told read_in perform table_ops fields_ops act_ops act by_rule feature_by two_digits fields_of formats by_number laid often size times as_call expected after judged accept id_told put_on field_on verdict holds total first_that read_from same_list same_reading bytes_of field_count slots_in any_hopeless
all-told = refl

pub all-whole-told : all_told Whole whole_cases ≡ true
unfolding all_told told read_in perform table_ops fields_ops act_ops act by_rule feature_by two_digits fields_of formats by_number laid often size times as_call expected after judged accept id_told put_on field_on verdict holds total first_that read_from same_list same_reading bytes_of field_count slots_in any_hopeless
all-whole-told = refl

pub all-given : all_given (substitutions ++ mixed_substitutions) ≡ true
unfolding all_given given substitute_in by_subtables subtable type_of coverage_index in_glyphs in_ranges child_of bytes_of table_reading fields_reading act_reading own_bytes act_bytes act by_rule feature_by two_digits fields_of formats by_number laid often size times read_from
all-given = refl

-- a table with its last lookups promoted is written as one is read in which they stand so: its only one; one of type 7, which is left alone; a lookup named twice, at its second place
pub all-promoted : (trial_ops Single 1 small ≡ table_ops deepest extended (Header Single) 0)
    × (trial_ops Single 1 listed ≡ table_ops deepest listed (Header Single) 0)
    × (trial_ops Single 2 listed ≡ table_ops deepest listed2 (Header Single) 0)
    × (trial_ops Whole 1 ligated ≡ table_ops deepest ligated_behind (Header Whole) 0)
unfolding mode_ops by_kind promotes table_ops fields_ops act_ops act by_rule feature_by two_digits fields_of formats by_number laid often size times read_from
all-promoted = (refl, refl, refl, refl)
