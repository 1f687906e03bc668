pub mod Listing
pub mod Long
pub use Rattle.room_effect.specs.Beside
pub use Rattle.room_effect.specs.Effect
pub use Rattle.room_ids.specs.Position
pub use Rattle.room_nodes.specs.Shape
pub use Rattle.room_model.specs.Edits as ModelEdits
pub use Rattle.room_model.specs.Init
pub use Rattle.room_props.specs.Edits as Props
