pub mod Again
pub mod AlwaysJson
pub mod Wholes
pub mod TextsAreUtf8
pub mod Spelled
pub mod Texts
pub mod Values
pub mod Views
