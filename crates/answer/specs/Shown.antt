-- What a tally and an overflow are printed as: every value behind its name.
use Rattle.std.specs.Prelude.{ℕ, List, ◌++◌, codes}
use Rattle.std.specs.Fmt.{decimal}
use Rattle.answer.specs.declared.Overflow.{Overflow}
use Rattle.answer.specs.declared.tally.Tally.{Tally}

abbrev pub tally_text : Tally → List ℕ
tally_text t =
    codes "bytes=" ++ (decimal t.bytes ++ (codes " links=" ++ (decimal t.links ++ (codes " objects=" ++ (decimal t.objects ++ (codes " depth=" ++ decimal t.depth))))))

abbrev pub overflow_text : Overflow → List ℕ
overflow_text o =
    codes "parent=" ++ (decimal o.parent.0 ++ (codes " field=" ++ (decimal o.field ++ (codes " needed=" ++ decimal o.needed))))
