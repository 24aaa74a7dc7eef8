use Rattle.plan_base.proofs.Common.{sym, ap, ◌∙◌, Ok}
use Rattle.opl_reader.specs.{state_of}
use Rattle.opl_reader.proofs.ReadingLemmas.{gives, gives_sound, refuses}
use Rattle.opl_reader.proofs.feeding.Opl.finish.Goals as goal

pub returns-in-None-clause-objects : goal.returns-in-None-clause-objects
returns-in-None-clause-objects c = λ caps bytes h.
    gives caps bytes (state_of c.self.inside.reader) (h.state ∙ ap (λ o. Ok o.state) (sym c.self.view_is)) c.finish.result c.finish.ensures.ok

pub returns-in-None-clause-fault : goal.returns-in-None-clause-fault
returns-in-None-clause-fault c = λ caps bytes h.
    refuses caps bytes (state_of c.self.inside.reader) (h.state ∙ ap (λ o. Ok o.state) (sym c.self.view_is)) c.finish.result c.finish.ensures.fault

pub returns-in-None-clause-sound : goal.returns-in-None-clause-sound
returns-in-None-clause-sound c = λ caps bytes h.
    gives_sound caps bytes (state_of c.self.inside.reader) (h.state ∙ ap (λ o. Ok o.state) (sym c.self.view_is)) c.finish.result c.finish.ensures.ok
