pub mod Items
pub mod Laws
pub mod View
pub use Rattle.room_json.specs.Fields
pub use Rattle.room_json.specs.Profile
pub use Rattle.room_json.specs.Value
pub use Rattle.room_json.specs.View as JsonView
pub use Rattle.room_ids.specs.Laws as IdLaws
pub use Rattle.room_nodes.specs.Preorder
pub use Rattle.room_nodes.specs.Shape
pub use Rattle.room_nodes.specs.Steps
