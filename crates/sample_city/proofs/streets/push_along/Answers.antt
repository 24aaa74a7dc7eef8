use Rattle.plan_base.proofs.Common.{◌+◌, lt-ltb, arith}
use Rattle.sample_city.proofs.streets.push_along.Goals as goal

pub returns-in-Row : goal.returns-in-Row
returns-in-Row c = rw (c.in-Row.is, lt-ltb (c.args.at.column + 1) c.args.n (omega arith)) (rw (c.is_car_line.ensures, c.from-id.ensures) at c.push_streets.ensures)

pub returns-in-Column : goal.returns-in-Column
returns-in-Column c = rw (c.in-Column.is, lt-ltb (c.args.at.row + 1) c.args.n (omega arith)) (rw (c.is_car_line-cars.ensures, c.from-id.ensures, c.from-n.ensures) at c.push_streets-in-Column.ensures)
