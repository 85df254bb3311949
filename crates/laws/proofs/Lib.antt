pub mod BoolLaws
pub mod ListLaws
pub mod OrderLaws
