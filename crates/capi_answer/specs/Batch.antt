-- docs/RULES.md, 14.5: a batch's answer as seven numbers.
use Rattle.session_batch.specs.Batch.{BatchTold}
use Rattle.capi_answer.specs.declared.batches.BatchNumbers.{BatchNumbers}

-- what they tell: the number, the counts, and how many calls and ids, in the order of the struct
abbrev pub told_in_batch : BatchNumbers → BatchTold
told_in_batch n =
    record {
      number = n.number;
      tally = record { bytes = n.bytes; links = n.links; objects = n.objects; depth = n.depth };
      calls = n.calls;
      told = n.ids;
    }
