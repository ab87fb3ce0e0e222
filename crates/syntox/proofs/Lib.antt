pub mod Causes
pub mod Classes
pub mod Complete
pub mod Faults
pub mod Flows
pub mod Owed
pub mod Rising
pub mod Steps
