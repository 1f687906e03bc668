pub mod Giving
pub mod Grammar
pub mod Lines
pub mod Samples
pub mod View
pub use Rattle.room_model.specs.Access
