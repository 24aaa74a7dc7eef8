pub mod Nodes
pub mod inside
pub use Nodes.{HasNodes}
