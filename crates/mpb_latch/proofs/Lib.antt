pub mod Sums
pub mod Pulses
pub mod Others
pub mod Cuts
pub mod Starts
pub mod AtClose
