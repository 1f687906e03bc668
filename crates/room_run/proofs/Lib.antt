mod Along
mod Appending
mod Halts
mod Opening
mod Played
mod Schedules
mod Stepping
