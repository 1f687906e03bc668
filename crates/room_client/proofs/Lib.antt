pub mod Arriving
pub mod Batches
pub mod Calling
pub mod Lasting
pub mod Receipts
pub mod Seen
pub mod Sending
pub mod Taking
