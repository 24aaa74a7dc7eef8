pub mod Written
pub mod States
pub mod Meanings
pub mod Collapsed
pub mod CollapsedLaws
pub mod Languages
pub mod inside
pub use Written.{copies_in_turn, options, repeat, written, size, nullable, first, last, follow, letters_written, IsWritten, nothing, nowhere, letter, sequence, choice, optional, plus}
pub use States.{State, StateView, view_of, no_move, no_view, view_at, meaning_of_states, moves_upto, state_for, states_for, next_position, may_end, letters_at, IsPositionAutomaton}
pub use Meanings.{Positions, position_meaning}
pub use Collapsed.{move_by, stay, other_move, collapsed, FitsCollapsed, AcceptsCollapsed}
pub use CollapsedLaws.{set_bit, bit_set, and_set, set_and, no_bits, transit_set, set_transit, letter_below, code, code_road, code_transit, code_small, move_to, Stays, Goes, step_out, step_in, collapsed_lawful}
pub use Languages.{PositionsAccept, CollapsedPositionsAccept}
