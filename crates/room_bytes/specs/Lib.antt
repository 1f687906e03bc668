pub mod Spelling
pub mod Bounds
pub mod Reading
pub mod Laws
pub use Rattle.room_json.specs.Reading as JsonReading
pub use Rattle.room_json.specs.Value
pub use Rattle.room_json.specs.View
pub use Rattle.room_nodes.specs.Shallow
