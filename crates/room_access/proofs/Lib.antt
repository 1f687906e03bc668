mod SampleCases
pub mod Gathering
pub mod Named
