mod Contents
pub mod Entries
pub mod Files
pub mod Jsons
mod Lexing
mod Lows
mod Options
mod Parsing
mod Parts
mod Rooted
pub mod Snapshots
