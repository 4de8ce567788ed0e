-- `find_line` meets its contract: the line down from its start.
use Rattle.order_survey.proofs.Falls.{begun-lining, begun-found}
use Rattle.order_survey.proofs.find_line.Goals as goal

pub line_down-requires : goal.line_down-requires
line_down-requires c = begun-lining c.requires c.fill.ensures

pub returns : goal.returns
returns c = begun-found c.requires c.fill.ensures c.line_down.ensures
