-- What a caller cites of the rules and of known objects: that the rule of a step is the table of methods, which references are known, and
-- what an insertion leaves in a set.
pub use Rattle.mw_rules.proofs.RuleExact.{rule_holds-is}
pub use Rattle.mw_rules.proofs.RuleLemmas.{known-member}
pub use Rattle.mw_rules.proofs.Counted.{eqb-swap, keys_more}
