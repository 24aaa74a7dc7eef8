use Rattle.rounds.proofs.VisitLemmas.{road_bit}
use Rattle.rounds.proofs.asked.Asked.roads_of.Goals as goal

pub returns : goal.returns
returns g c = λ letter r low move. road_bit c.letters_of.result letter low (c.letters_of.ensures move.0 letter (move.1).place (move.1).letter)
