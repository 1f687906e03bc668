pub mod SampleCases
