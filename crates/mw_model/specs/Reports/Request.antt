-- What the program may be asked for. What words ask for which of them is said where the program reads its words.
use Rattle.std.specs.Prelude.{ℕ}
use Rattle.mw_model.specs.Terms.Object.{Name}

pub data Request : Type 0 where
  -- judge the book, with this step limit
  Check : (steps : ℕ) → Request
  -- judge the trial book with this number of events, with this step limit
  Trial : (events steps : ℕ) → Request
  -- prove the formulas of the book that are tautologies
  Taut : Request
  -- turn the book's derivations to proofs, with this step limit
  Lower : (steps : ℕ) → Request
  -- keep what the theorem of this name rests on, with this step limit
  Slice : (name : Name) → (steps : ℕ) → Request
  -- turn the book to a log, with this step limit
  Flat : (steps : ℕ) → Request
  -- judge the log
  Recheck : Request
  -- judge the book and say why events are refused, with this step limit
  Explain : (steps : ℕ) → Request
  -- show how the program is used
  Help : Request
  -- the words ask for nothing that the program does
  Usage : Request
