-- The shape that the code holds, as its lists.
use Rattle.journey.specs.Shapes as shapes
use Rattle.journey.specs.declared.shape.Shape.{Shape}

abbrev pub shape_shown : Shape → shapes.Shape
shape_shown s = record { from = s.from; to = s.to; date = s.date.now; time = s.time.now; expr = s.expr.now }
