pub mod Edits
pub mod Forms
pub mod Generator
pub mod Giving
pub mod Grammar
pub mod Laws
pub mod Live
pub mod Living
pub mod Rows
pub mod Samples
pub mod Told
pub mod Words
pub use Rattle.room_json.specs.Value
pub use Rattle.room_model.specs.Init
pub use Rattle.room_model.specs.Lines
pub use Rattle.room_model.specs.Edits as ModelEdits
