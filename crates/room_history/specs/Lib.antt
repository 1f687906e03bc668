pub mod Places
pub use Rattle.room_model.specs.History
