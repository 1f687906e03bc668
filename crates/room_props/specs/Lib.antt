pub mod Codes
pub mod Creating
pub mod Edits
pub mod Falls
pub mod Inits
pub mod Making
pub mod Weighing
pub mod Weights
pub use Rattle.room_json.specs.Value
pub use Rattle.room_json.specs.View
pub use Rattle.room_ids.specs.Position
pub use Rattle.room_nodes.specs.Shape
pub use Rattle.room_log.specs.Log
pub use Rattle.room_model.specs.Edits as ModelEdits
pub use Rattle.room_model.specs.Init
pub use Rattle.room_effect.specs.Effect
