pub mod Bounds
pub mod Ids
pub mod Laws
pub mod Order
pub mod Position
pub mod Stamp
pub use Rattle.room_json.specs.Limits
