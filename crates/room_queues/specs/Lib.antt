pub mod Seen
pub mod Codes
pub mod Calls
pub mod Laws
pub use Rattle.room_model.specs.World
pub use Rattle.room_model.specs.Server
pub use Rattle.room_msg.specs.Frame
