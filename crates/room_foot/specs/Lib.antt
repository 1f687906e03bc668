pub mod Meeting
pub mod Parts
pub mod Rising
pub mod Spots
pub use Rattle.room_ids.specs.Position
pub use Rattle.room_nodes.specs.Cells
pub use Rattle.room_nodes.specs.Preorder
pub use Rattle.room_nodes.specs.Shape
pub use Rattle.room_nodes.specs.Steps
pub use Rattle.room_steps.specs.Laws as StepLaws
pub use Rattle.room_tree.specs.Skipped
