-- The number of some digits, one digit after the other, for those who read numbers of their own.
pub use Rattle.mw_lex.proofs.Decimals.{decimal_next, power, power_more, power_small}
