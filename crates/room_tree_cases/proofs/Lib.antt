mod Agreeing
mod Fitted
mod Swapped
