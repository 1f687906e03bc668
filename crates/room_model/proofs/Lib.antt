mod SampleCases
