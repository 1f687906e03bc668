mod Acting
mod Clearing
mod Created
mod Emptied
pub mod Gaps
mod Grafting
mod Indices
mod Inserted
mod Items
mod Keyed
mod Lists
mod Local
mod Makes
mod Members
mod Moved
mod Named
pub mod Neighbours
mod Paths
mod Planting
mod Removals
mod Replaced
mod Sets
pub mod Shows
mod Still
mod Taken
mod Updates
