-- What a caller cites: of what is kept of a theory, as the heap grows or the code alone changes; of events by their words and their members;
-- of the functions that an event defines; of lists and of results.
pub use Rattle.mw_theory.proofs.Held.{known-grow, all-grow, meant-grows, held-grows, held, grown_theory, grown-other, grown-marked, grown}
pub use Rattle.mw_theory.proofs.EventWords.{none_happens, word_happens, before-later}
pub use Rattle.mw_theory.proofs.Drafting.{within-grows}
pub use Rattle.mw_theory.proofs.ListMembers.{put_before, put_before-push, list_object-before, list_end}
pub use Rattle.mw_theory.proofs.Results.{IfOk-map, OnOk-map, OnOk-from, OnErr-from, OnErr-map}
pub use Rattle.mw_theory.proofs.ProofLists.{pair_before}
