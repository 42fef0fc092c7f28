pub mod States
pub mod Preparations
pub mod Clashes
pub mod Inside
