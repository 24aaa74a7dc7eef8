-- What the lines of a certificate text make, and what is wrong with bytes that are no certificate.
use Rattle.std.specs.Prelude.{ℕ, List, [], ◌∷◌, ◌++◌, Some, None, option_map, Result, false}
use Rattle.mode_network.specs.{Step, Route}
use Rattle.certificate.specs.{declared.verdict.CertFault.CertFault, declared.lines.Line.Line, declared.due.Due.Due, Certificates.Claim, Kinds.line_of, Lines.FitsLine, Lines.spelled, Making.IsCause, Making.LinedMeaning, Making.reading, Sections.due_behind, Sections.is_last}
use Rattle.certificate.specs.declared.lines.Line.TheVariants as line
use Rattle.certificate.specs.declared.due.Due.TheVariants as due

-- no line yet
abbrev pub nothing : Claim
nothing = record { line = []; phases = false; result = None; labels = [] }

-- the journey with another start, and with one step more
abbrev pub started : ℕ → ℕ → ℕ × Route → ℕ × Route
started node at answer = (answer.0, record { start = node; at = at; steps = answer.1.steps })

abbrev pub with_step : Step → ℕ × Route → ℕ × Route
with_step step answer = (answer.0, record { start = answer.1.start; at = answer.1.at; steps = answer.1.steps ++ step ∷ [] })

-- the certificate with one line more
abbrev pub put : Claim → Line → Claim
put c line.Head = c
put c (line.Query bytes) = record c { line = bytes }
put c (line.Graph phases) = record c { phases = phases }
put c (line.Arrive at) = record c { result = Some (at, record { start = 0; at = 0; steps = [] }) }
put c line.Nothing = record c { result = None }
put c (line.Start node at) = record c { result = option_map (started node at) c.result }
put c (line.Step step) = record c { result = option_map (with_step step) c.result }
put c (line.Labels count) = c
put c (line.Label label) = record c { labels = c.labels ++ label ∷ [] }
put c line.End = c

-- what certificates are read by
abbrev pub cert_meaning : LinedMeaning Line Due Claim
cert_meaning = record { line_of = line_of; due_behind = due_behind; is_last = is_last; first = due.Head; nothing = nothing; put = put }

-- what bytes spell: a certificate, or the first line that may not stand where it does
unfoldable pub cert_of : List ℕ → Result Claim CertFault
cert_of bytes = reading cert_meaning bytes

-- Why bytes are refused.
abbrev pub HasCause : List ℕ → CertFault → Type 0
HasCause bytes fault = IsCause spelled FitsLine due_behind is_last due.Head bytes fault
