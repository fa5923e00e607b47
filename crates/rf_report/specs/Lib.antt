pub mod Csv
pub mod Names
pub mod Reports
