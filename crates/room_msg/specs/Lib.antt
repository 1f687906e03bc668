pub mod Frame
pub mod Keys
pub mod Laws
pub mod Msg
pub mod Sound
pub mod Users
pub mod Written
pub use Rattle.room_json.specs.Fields
pub use Rattle.room_json.specs.Profile
pub use Rattle.room_json.specs.Value
pub use Rattle.room_json.specs.View
pub use Rattle.room_ids.specs.Ids
pub use Rattle.room_nodes.specs.Shallow
pub use Rattle.room_nodes.specs.Sound as OpSound
pub use Rattle.room_wire.specs.Laws as OpLaws
pub use Rattle.room_wire.specs.Written as OpWritten
