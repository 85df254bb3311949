pub mod Heard
pub mod Written
pub mod WrittenLaws
pub mod Returned
pub mod Clean
pub mod Exported
pub mod Demands
