-- docs/RULES.md, section 6 and 11.6: an answer as twelve numbers, a read's as seven.
use Rattle.model.specs.Told.{Told}
use Rattle.gsub_read.specs.Read.{ReadTold}
use Rattle.capi_answer.specs.declared.Numbers.{Numbers}
use Rattle.capi_answer.specs.declared.reads.ReadNumbers.{ReadNumbers}

-- what they tell: the number and the values, in the order of the struct
abbrev pub told_in : Numbers → Told
told_in n =
    record {
      number = n.number;
      tally = record { bytes = n.bytes; links = n.links; objects = n.objects; depth = n.depth };
      id = n.id;
      length = n.length;
      copies = n.copies;
      placed = n.placed;
      overflow = record { parent = record { 0 = n.parent }; field = n.field; needed = n.needed };
    }

abbrev pub told_in_read : ReadNumbers → ReadTold
told_in_read n =
    record {
      number = n.number;
      id = n.id;
      place = n.place;
      tally = record { bytes = n.bytes; links = n.links; objects = n.objects; depth = n.depth };
    }
