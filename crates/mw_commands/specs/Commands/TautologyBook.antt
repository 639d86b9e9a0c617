-- What is owed for a book of formulas: of each tautology a theorem with a proof, of each other datum why it has none.
use Rattle.std.specs.Prelude.{◌≡◌, ℕ, Bool, true, false, not, List, ◌++◌, length, Option, Some, None, codes}
use Rattle.mw_model.specs.Terms.Object.{Object, symbol, NIL, car, second_of, has_members, list4}
use Rattle.mw_model.specs.Terms.Term.{Formula, formula_object, ArityTable}
use Rattle.mw_model.specs.Terms.Reading.{formula_under, when}
use Rattle.mw_model.specs.Values.Primitive.{One, is_symbol}
use Rattle.mw_model.specs.Values.Definition.{arity_table}
use Rattle.mw_model.specs.Proofs.Proof.{Proves}
use Rattle.mw_model.specs.Events.Theory.{initial}
use Rattle.mw_model.specs.Events.Fate.{is_out_of_range}
use Rattle.mw_model.specs.Texts.Grammar.{Book}
use Rattle.mw_model.specs.Texts.Printing.{numeral}
use Rattle.mw_model.specs.Reports.Report.{Status, status_of, spaced, word_text}
use Rattle.mw_model.specs.Texts.Written.{IsWritten, IsDatumLine}
use Rattle.mw_model.specs.Texts.Pieces.{InOrder, numbered, how_many, comment, comment_ending}
use Rattle.mw_commands.specs.Commands.Tautology.{Decision, Many, FailsUnder, Holds, decision, choice_object}

abbrev pub initial_arities : ArityTable
initial_arities = arity_table (initial One).definitions

-- The datum is (name formula): a proper list of a symbol and a formula of the initial theory, with no natural past the range.
abbrev pub formula_given : Object → Option Formula
formula_given x = when (not (is_out_of_range x)) (when (has_members 2 x) (when (is_symbol (car x)) (formula_under initial_arities (second_of x))))

abbrev pub decision_on : Option Formula → Option Decision
decision_on None = None
decision_on (Some F) = Some (decision F)

-- a proof of F from no axioms and no theorems; it holds no natural past the range but where F does
pub record IsPureProof (A : ArityTable) (p : Object) (F : Formula) : Type 0 where
  pub proves : Proves NIL NIL A One p F
  pub in_range : is_out_of_range (formula_object F) ≡ false → is_out_of_range p ≡ false

-- a comment on datum number k
abbrev pub remark : ℕ → Object → List ℕ → List ℕ
remark k x reason = comment (spaced (numeral k) (spaced (word_text x) reason))

-- the piece that is owed for datum number k, which gives this formula; the proof is free
abbrev pub OwesDecided : ℕ → Object → Formula → Decision → List ℕ → Type 0
OwesDecided k x F Many piece = piece ≡ remark k x (codes "MANY")
OwesDecided k x F (FailsUnder c) piece = (text : List ℕ) × (next : ℕ) × IsWritten (choice_object c) 1 text next × (piece ≡ remark k x (spaced (codes "FALSE") text))
OwesDecided k x F Holds piece = (p : Object) × IsPureProof initial_arities p F × IsDatumLine (list4 (symbol "VERIFY") (car x) (second_of x) p) piece

abbrev pub OwesGiven : ℕ → Object → Option Formula → List ℕ → Type 0
OwesGiven k x None piece = piece ≡ remark k x (codes "SHAPE")
OwesGiven k x (Some F) piece = OwesDecided k x F (decision F) piece

abbrev pub OwesTautology : ℕ × Object → List ℕ → Type 0
OwesTautology kx piece = OwesGiven kx.0 kx.1 (formula_given kx.1) piece

abbrev pub is_holding : Option Decision → Bool
is_holding (Some Holds) = true
is_holding _ = false

abbrev pub is_proved : Object → Bool
is_proved x = is_holding (decision_on (formula_given x))

-- formulas E proved P
abbrev pub tautology_summary : List Object → List ℕ
tautology_summary xs = spaced (codes "formulas") (spaced (numeral (length xs)) (spaced (codes "proved") (numeral (how_many is_proved xs))))

abbrev pub TautologiesWritten : Book → List ℕ → Type 0
TautologiesWritten b text = (body : List ℕ) × InOrder OwesTautology (numbered 1 b.events) body × (text ≡ body ++ comment_ending b.fault (tautology_summary b.events))

abbrev pub tautology_status : Book → Status
tautology_status b = status_of b.fault (how_many (λ x. not (is_proved x)) b.events)
