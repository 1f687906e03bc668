pub mod Shown
pub use Rattle.room_json.specs.Value
pub use Rattle.room_json.specs.View
pub use Rattle.room_model.specs.Presence
