pub mod Accounts
pub mod Laws
pub use Rattle.room_model.specs.Notices as ModelNotices
