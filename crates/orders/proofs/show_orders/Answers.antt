-- `show_orders` meets its contract: the survey leaves the graph; the distances are found along the kahn order; the spaces found leave the survey and the distances
-- as they are.
use Rattle.orders.proofs.Given.{measured-trying, kahn-lines, near-trying, distance-spacing, spaced-trying}
use Rattle.orders.proofs.show_orders.Goals as goal

pub find_distances-requires : goal.find_distances-requires
find_distances-requires g c = kahn-lines (measured-trying c.survey.ensures) c.show_order-placed.ensures

pub show_order-placed-requires-2 : goal.show_order-placed-requires-2
show_order-placed-requires-2 g c = near-trying (measured-trying c.survey.ensures) c.show_order-placed.ensures c.find_distances.ensures

pub number_spaces-requires : goal.number_spaces-requires
number_spaces-requires g c =
    let near = near-trying (measured-trying c.survey.ensures) c.show_order-placed.ensures c.find_distances.ensures in
    distance-spacing near c.show_order-placed-2.ensures

pub show_order-requires : goal.show_order-requires
show_order-requires g c =
    let near = near-trying (measured-trying c.survey.ensures) c.show_order-placed.ensures c.find_distances.ensures in
    spaced-trying near c.show_order-placed-2.ensures c.number_spaces.ensures
