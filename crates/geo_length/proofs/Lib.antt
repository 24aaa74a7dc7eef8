pub mod BoxLaws
pub mod LengthLaws
pub mod NearestLaws
pub mod RootLaws
pub mod TreeLaws
pub mod WidthLaws
