pub mod Walking
pub mod Behind
pub mod Listed
pub mod Again
pub mod Once
