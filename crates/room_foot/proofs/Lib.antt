mod Climbing
mod Heads
mod Levels
mod Removals
mod Rising
