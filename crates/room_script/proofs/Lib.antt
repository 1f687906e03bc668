mod SampleCases
pub mod Either
pub mod Generated
pub mod Goodness
pub mod Lively
pub mod OneByOne
pub mod Spelled
pub mod Texts
pub mod Turned
