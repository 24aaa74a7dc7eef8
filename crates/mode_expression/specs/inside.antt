pub mod Machine
pub mod Views
pub use Machine.{Frame, Reading, empty_reading, in_order_onto, with_choice, group_of, repeat_last, step_atom, step_item, step_suffix, step_least, step_after_least, step_most, step_after_most, step_at, step, finish, ok_or_at, read_on, read_from}
pub use Views.{latest, state_of_reader}
