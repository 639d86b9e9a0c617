-- The members of an event that its line shows.
use Rattle.std.specs.Prelude.{◌≡◌, ℕ, List, Option, Some, None, option_map, true}
use Rattle.mw_model.specs.Terms.Object.{Object, Natural, Symbol, Pair}
use Rattle.mw_model.specs.Values.Primitive.{is_symbol}
use Rattle.mw_model.specs.Reports.Report.{dash, symbol_text, word_text, label_text}
use Rattle.mw_heap.specs.Objects.{object_at, IsIn}

-- the text of a member, a dash where there is none to show
abbrev pub shown_text : List Object → Option ℕ → List ℕ
shown_text os None = dash
shown_text os (Some r) = symbol_text (object_at os r)

-- what is shown is a symbol
abbrev pub IsShown : List Object → Option ℕ → Type 0
IsShown os None = Unit {0}
IsShown os (Some r) = IsIn os r × (is_symbol (object_at os r) ≡ true)

-- the first member of an event, where it is a symbol
abbrev pub symbol_itself : Object → Option Object
symbol_itself (Symbol s) = Some (Symbol s)
symbol_itself (Natural n) = None
symbol_itself (Pair a b) = None

abbrev pub first_symbol : Object → Option Object
first_symbol (Pair h r) = symbol_itself h
first_symbol (Natural n) = None
first_symbol (Symbol s) = None

-- these are shown as the word and the label of the event
pub record ShowsEvent (os : List Object) (word label : Option ℕ) (e : Object) : Type 0 where
  pub word_in : IsShown os word
  pub label_in : IsShown os label
  pub word_shown : shown_text os word ≡ word_text e
  pub label_shown : shown_text os label ≡ label_text e
  pub word_first : option_map (object_at os) word ≡ first_symbol e
