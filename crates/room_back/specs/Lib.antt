pub mod Back
pub use Rattle.room_log.specs.Log
pub use Rattle.room_model.specs.Calls
pub use Rattle.room_nodes.specs.Reversal
pub use Rattle.room_nodes.specs.Shape
pub use Rattle.room_nodes.specs.Steps
