pub mod Nodes
pub mod Fair
pub mod Accepted
pub mod Mirror
