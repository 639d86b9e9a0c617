-- What a caller cites: of what an event comes to by its word and its members.
pub use Rattle.mw_kernel.proofs.Happening.{word_of_event, word-is, comes_to, comes-by}
