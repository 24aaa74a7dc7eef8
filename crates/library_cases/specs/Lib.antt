pub mod Towns
