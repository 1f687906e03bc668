pub mod Follows
pub mod Laws
pub mod Log
pub mod Taking
