pub mod Words
pub use Rattle.room_model.specs.Lines
