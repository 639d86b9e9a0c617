pub mod RuleExact
pub mod RuleLemmas
pub mod Counted
pub mod MethodNames
pub mod CallerLemmas
