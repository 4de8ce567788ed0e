-- The field that is looked for is the one that is left, in the runs that are left.
use Prim.Native.Nat.{◌+◌}
use Rattle.gsub.specs.Tables.{word_at}
use Rattle.gsub_rows.proofs.Looks.{Looking}
use Rattle.gsub_rows.proofs.fields.in_runs.Given as goal

abbrev pub invariant-loop-run : goal.invariant-loop-run
invariant-loop-run l = Looking (λ i. word_at l.table (l.place + i)) l.row l.index l.run-index l.at l.left
