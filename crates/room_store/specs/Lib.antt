pub mod Codes
pub mod Consistent
pub mod Calls
pub mod Faults
pub mod Planning
pub mod Stored
pub mod Undoing
pub use Rattle.room_replay.specs.Files
