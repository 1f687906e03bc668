pub mod Pairs
pub use Rattle.room_apply.specs.Edits
pub use Rattle.room_apply.specs.Ways
pub use Rattle.room_nodes.specs.Cells
pub use Rattle.room_nodes.specs.Shape
