pub mod Indices
pub mod Texts
pub mod Computing
pub mod Equal
pub mod ComputingStates
pub mod TrialComputing
pub mod ComputingBins
