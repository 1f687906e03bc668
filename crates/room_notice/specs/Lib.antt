pub mod Emitted
pub mod Notices
pub mod Ranks
pub mod Told
pub use Rattle.room_json.specs.Value
pub use Rattle.room_json.specs.View
pub use Rattle.room_nodes.specs.Shape
pub use Rattle.room_nodes.specs.Steps
pub use Rattle.room_model.specs.Notices as ModelNotices
