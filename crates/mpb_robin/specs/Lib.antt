pub mod Account
pub mod RoundRobin
pub mod Rest
