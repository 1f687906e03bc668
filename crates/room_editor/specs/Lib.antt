pub mod Codes
pub mod Editor
pub mod Faults
pub mod Gathering
pub mod Going
pub mod Making
pub mod Past
pub mod Sizes
pub mod Standing
pub mod Taking
pub use Rattle.room_json.specs.Limits
pub use Rattle.room_json.specs.Value
pub use Rattle.room_json.specs.View
pub use Rattle.room_items.specs.View as ItemsView
pub use Rattle.room_nodes.specs.Shape
pub use Rattle.room_nodes.specs.Steps
pub use Rattle.room_log.specs.Log
pub use Rattle.room_model.specs.Account
pub use Rattle.room_model.specs.Calls
pub use Rattle.room_model.specs.Edits as ModelEdits
pub use Rattle.room_model.specs.History
pub use Rattle.room_model.specs.Notices as ModelNotices
pub use Rattle.room_model.specs.Presence
pub use Rattle.room_model.specs.Receive
pub use Rattle.room_overlay.specs.Over
