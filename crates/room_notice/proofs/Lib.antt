pub mod Changes
pub mod Items
pub mod Paths
pub mod Ranking
pub mod Written
