pub mod Conditions
pub mod Hosts
pub mod Nodes
pub mod Report
pub mod Visible
pub mod Wording
