mod Cuts
pub mod Sets
pub mod Found
pub mod DrivenNames
pub mod Grounded
