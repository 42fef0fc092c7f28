pub mod Families
pub mod RuleTexts
pub mod OnChainRules
pub mod Courses
pub mod Policies
pub mod Laws
