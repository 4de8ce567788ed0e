-- A reader of lines, moved on.
use Rattle.job_lines.specs.Lines.{past_line}
use Rattle.job_lines.specs.declared.Lines.{Lines}

-- behind the line at its position
abbrev pub moved : Lines → Lines
moved r = record { text = r.text; at = past_line r.text.now r.at }
