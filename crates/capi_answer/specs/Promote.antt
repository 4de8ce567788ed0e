-- docs/RULES.md, 15.5 to 15.7: a promotion's answer as twelve numbers.
use Rattle.gsub_promote.specs.Search.{PromoteTold}
use Rattle.capi_answer.specs.declared.promotes.PromoteNumbers.{PromoteNumbers}

-- what they tell: the number and the values; how many lookups are promoted stands last in the struct
abbrev pub told_in_promote : PromoteNumbers → PromoteTold
told_in_promote n =
    record {
      number = n.number;
      lookups = n.promoted;
      id = n.id;
      length = n.length;
      overflow = record { parent = record { 0 = n.parent }; field = n.field; needed = n.needed };
      place = n.place;
      tally = record { bytes = n.bytes; links = n.links; objects = n.objects; depth = n.depth };
    }
