pub mod Held
pub mod Past
pub mod Passing
pub mod Mirrors
pub mod Laws
pub use Rattle.room_edge.specs.Causes as EdgeCauses
pub use Rattle.room_disk.specs.Causes
pub use Rattle.room_disk.specs.Changes
pub use Rattle.room_disk.specs.Model
pub use Rattle.room_disk.specs.Stops
