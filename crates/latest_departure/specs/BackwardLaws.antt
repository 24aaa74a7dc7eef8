-- What is known to be the reverse is seen to be. These are proofs, which a ghost member cites; nothing is defined here that a contract means.
use Rattle.std.proofs.Props.{props}
use Rattle.std.proofs.Math.Logic.{∥∥₁_elim, ∥∥₁_map}
use Rattle.search_laws.specs.{LabelsMeaning}
use Rattle.automaton.specs.{written}
use Rattle.mode_expression.specs.Form.{Form}
use Rattle.kept_automata.specs.{known_move, known_positions}
use Rattle.latest_departure.specs.{Backward.IsReversedFor, Reversed.IsReversed}

known_turned : (l r : LabelsMeaning) → ∥ IsReversed l r ∥₁ → IsReversed l r
known_turned l r known = record {
  states = ∥∥₁_elim known (hlevel props) (λ a. a.states);
  starts = λ q lt. ∥∥₁_elim known (hlevel props) (λ a. a.starts q lt);
  no_more = λ q le. ∥∥₁_elim known (hlevel props) (λ a. a.no_more q le);
  accepts = λ q lt. ∥∥₁_elim known (hlevel props) (λ a. a.accepts q lt);
  moves = λ q c p from to. (
    λ has. known_move l p c q (∥∥₁_map known (λ a. (a.moves q c p from to).0 has)),
    λ has. known_move r q c p (∥∥₁_map known (λ a. (a.moves q c p from to).1 has)),
  );
}

pub known_reversed : (form : Form) (l r : LabelsMeaning) → ∥ IsReversedFor form l r ∥₁ → IsReversedFor form l r
known_reversed form l r known = record {
  positions = known_positions (written form) l (∥∥₁_map known (λ a. a.positions));
  turned = known_turned l r (∥∥₁_map known (λ a. a.turned));
}
