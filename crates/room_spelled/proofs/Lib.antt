mod Edits
mod Lines
mod Lives
mod Options
pub mod Schedules
mod Texts
mod Words
