pub mod Working
pub use Working.{HasSize}
