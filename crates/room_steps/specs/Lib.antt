pub mod Laws
pub use Rattle.room_nodes.specs.Cells
pub use Rattle.room_nodes.specs.Ordered
pub use Rattle.room_nodes.specs.Reversal
pub use Rattle.room_nodes.specs.Shallow
pub use Rattle.room_nodes.specs.Shape
pub use Rattle.room_nodes.specs.Sound
pub use Rattle.room_nodes.specs.Steps
