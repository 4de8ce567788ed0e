-- `find_distances` meets its contract: a line of the nodes gives the least sums.
use Rattle.order_survey.proofs.Surveys.{lines-found}
use Rattle.order_survey.proofs.find_distances.Goals as goal

pub returns : goal.returns
returns c = lines-found c.requires c.set_distances.ensures
