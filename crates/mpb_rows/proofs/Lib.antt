pub mod WorkedRows
pub mod Runs
pub mod LogicalRows
