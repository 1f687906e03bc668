pub mod IdOrder
pub mod Makings
pub mod Orders
pub mod Spelled
