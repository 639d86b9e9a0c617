-- What is shown of an object: of a symbol its text, where that is not too long, and else a dash.
use Rattle.std.proofs.Common.{◌≡◌, ◌≤◌, ◌<◌, true, cond, length, refl, ap, ◌∙◌}
use Rattle.std.proofs.lemmas.Bool.{lt-ltb, le-ltb}
use Rattle.mw_model.specs.Terms.Object.{Object, Natural, Symbol, Pair}
use Rattle.mw_model.specs.Values.Primitive.{is_symbol}
use Rattle.mw_model.specs.Texts.Printing.{text_of}
use Rattle.mw_model.specs.Events.Fate.{longest}
use Rattle.mw_model.specs.Reports.Report.{dash, short, symbol_text}

symbol_text-is : (x : Object) → is_symbol x ≡ true → symbol_text x ≡ short (text_of x)
symbol_text-is (Symbol s) h = refl
symbol_text-is (Natural n) h = cc
symbol_text-is (Pair a b) h = cc

pub symbol_text-short : (x : Object) → is_symbol x ≡ true → length (text_of x) ≤ longest → symbol_text x ≡ text_of x
symbol_text-short x s h = symbol_text-is x s ∙ ap (λ b. cond b dash (text_of x)) (le-ltb longest (length (text_of x)) h)

pub symbol_text-long : (x : Object) → is_symbol x ≡ true → longest < length (text_of x) → symbol_text x ≡ dash
symbol_text-long x s h = symbol_text-is x s ∙ ap (λ b. cond b dash (text_of x)) (lt-ltb longest (length (text_of x)) h)
