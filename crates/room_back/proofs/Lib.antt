pub mod Leading
pub mod Lists
pub mod Olds
pub mod Walking
