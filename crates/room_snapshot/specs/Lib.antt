pub mod Spelling
pub mod Bounds
pub mod Reading
pub mod Laws
pub use Rattle.room_json.specs.Value
pub use Rattle.room_nodes.specs.Preorder
pub use Rattle.room_nodes.specs.Shallow
pub use Rattle.room_nodes.specs.Shape
pub use Rattle.room_bytes.specs.Reading as BytesReading
pub use Rattle.room_bytes.specs.Spelling as BytesSpelling
pub use Rattle.room_items.specs.Items
pub use Rattle.room_log.specs.Log
pub use Rattle.room_log.specs.Follows
