pub mod Laws
pub mod Wire
pub mod Written
pub use Rattle.room_json.specs.Fields
pub use Rattle.room_json.specs.Value
pub use Rattle.room_json.specs.View
pub use Rattle.room_nodes.specs.Sound
