use Rattle.hy_serial.proofs.Circles.{goes_forward, no_circles}
use Rattle.hy_serial.proofs.the_serialization_graph_has_no_circle.Goals as goal

pub returns-clause-forward : goal.returns-clause-forward
returns-clause-forward c = goes_forward

pub returns-clause-circles : goal.returns-clause-circles
returns-clause-circles c = no_circles
