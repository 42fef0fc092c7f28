pub mod Numerals
pub mod Firsts
pub mod BothForms
pub mod ClapWords
pub mod ClapRules
pub mod ClapRows
pub mod ClapWalk
pub mod ClapParse
