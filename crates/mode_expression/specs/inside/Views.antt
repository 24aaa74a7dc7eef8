-- What the reader holds, as the reading that it stands for.
use Rattle.std.specs.Prelude.{◌≡◌, Bool, List, Option, Some, None, map, reverse, if◌then◌else◌}
use Rattle.mode_expression.specs.{declared.expr.Expr.Expr, declared.level.Level.Level, Form.Form, Form.form_of, declared.reader.Reader.Reader, inside.Machine.Frame, inside.Machine.Reading}

-- the forms, the latest first
abbrev pub latest : List Expr → List Form
latest items = reverse (map form_of items)

abbrev pub frame_of : Level → Frame
frame_of level = record { choices = latest level.choices.items; parts = latest level.parts.items }

-- the groups around, the innermost first
abbrev pub frames_of : List Level → List Frame
frames_of levels = reverse (map frame_of levels)

abbrev pub state_of_reader : Reader → Reading
state_of_reader reader = record { outer = frames_of reader.outer.items; frame = frame_of reader.level; place = reader.place }

-- the reader is as a step made it, if there was one
abbrev pub IsAfter : Option Reading → Reader → Bool → Type 0
IsAfter after reader done = after ≡ (if done then Some (state_of_reader reader) else None)

-- the level is as a step made it, if there was one
abbrev pub IsLevelAfter : Option Frame → Level → Bool → Type 0
IsLevelAfter after level done = after ≡ (if done then Some (frame_of level) else None)
