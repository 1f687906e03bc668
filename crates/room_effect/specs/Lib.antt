pub mod Beside
pub mod Effect
pub use Rattle.room_items.specs.View
pub use Rattle.room_nodes.specs.Shape
pub use Rattle.room_nodes.specs.Sound
pub use Rattle.room_nodes.specs.Steps
pub use Rattle.room_log.specs.Log
pub use Rattle.room_model.specs.Edits
pub use Rattle.room_model.specs.Sound as ModelSound
