pub mod Following
pub mod NextTaken
pub mod Same
pub mod Takings
pub mod ValidStates
