-- What the lines of a late certificate's text make, and what is wrong with bytes that are no late certificate.
use Rattle.std.specs.Prelude.{ℕ, List, [], ◌∷◌, ◌++◌, Some, None, option_map, Result}
use Rattle.mode_network.specs.{Step, Route}
use Rattle.certificate.specs.{CertFault, Line as UsualLine, IsCause, LinedMeaning, reading}
use Rattle.certificate.specs.declared.lines.Line.TheVariants as usual
use Rattle.latest_departure.specs.{LateClaim}
use Rattle.late_certificate.specs.{declared.lines.Line.Line, declared.due.Due.Due, Kinds.line_of, Lines.FitsLine, Lines.spelled, Sections.due_behind, Sections.is_last}
use Rattle.late_certificate.specs.declared.lines.Line.TheVariants as line
use Rattle.late_certificate.specs.declared.due.Due.TheVariants as due

-- no line yet
abbrev pub nothing : LateClaim
nothing = record { line = []; result = None; labels = [] }

-- the journey with another start, and with one step more
abbrev pub started : ℕ → ℕ → Route → Route
started node at j = record { start = node; at = at; steps = j.steps }

abbrev pub with_step : Step → Route → Route
with_step step j = record { start = j.start; at = j.at; steps = j.steps ++ step ∷ [] }

-- the certificate with one line more
abbrev pub put_usual : LateClaim → UsualLine → LateClaim
put_usual c usual.Head = c
put_usual c (usual.Query bytes) = record c { line = bytes }
put_usual c (usual.Graph phases) = c
put_usual c (usual.Arrive at) = c
put_usual c usual.Nothing = record c { result = None }
put_usual c (usual.Start node at) = record c { result = option_map (started node at) c.result }
put_usual c (usual.Step step) = record c { result = option_map (with_step step) c.result }
put_usual c (usual.Labels count) = c
put_usual c (usual.Label label) = record c { labels = c.labels ++ label ∷ [] }
put_usual c usual.End = c

abbrev pub put : LateClaim → Line → LateClaim
put c line.Head = c
put c (line.Depart at) = record c { result = Some (record { start = 0; at = at; steps = [] }) }
put c (line.Usual said) = put_usual c said

-- what late certificates are read by
abbrev pub late_meaning : LinedMeaning Line Due LateClaim
late_meaning = record { line_of = line_of; due_behind = due_behind; is_last = is_last; first = due.Head; nothing = nothing; put = put }

-- what bytes spell: a late certificate, or the first line that may not stand where it does
unfoldable pub late_of : List ℕ → Result LateClaim CertFault
late_of bytes = reading late_meaning bytes

-- Why bytes are refused.
abbrev pub HasCause : List ℕ → CertFault → Type 0
HasCause bytes fault = IsCause spelled FitsLine due_behind is_last due.Head bytes fault
