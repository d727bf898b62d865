pub mod Document
pub mod Keys
pub mod Words
pub mod Script
pub mod Values
pub mod Answers
pub mod Steps
