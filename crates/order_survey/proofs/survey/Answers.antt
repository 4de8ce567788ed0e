-- `survey` meets its contract: its steps joined.
use Rattle.order_survey.proofs.Surveys.{cleared-along, survey-all}
use Rattle.order_survey.proofs.survey.Goals as goal

pub line_length-requires : goal.line_length-requires
line_length-requires c = cleared-along c.requires.0 c.find_line-r.ensures

pub returns : goal.returns
returns c = survey-all c.requires.0 c.find_line-r.ensures c.requires.1 c.line_length.ensures
