mod Lists
mod Firsts
mod Rests
mod Passing
mod Holding
mod Mirroring
mod Settling
