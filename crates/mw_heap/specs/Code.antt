-- A code of objects, as a value that clauses see must have one: the tokens of a stack machine.
use Rattle.std.specs.Prelude.{◌≡◌, ℕ, zero, suc, List, [], ◌∷◌, ◌++◌, refl}
use Rattle.std.specs.Coded.{Coded, code_by, coded_list, coded×, coded_ℕ}
use mathlib.Core.Path.{sym, ap, ◌∙◌}
use mathlib.Core.List.{append_assoc, append-nil}
use Rattle.mw_model.specs.Terms.Object.{Object, Natural, Symbol, Pair, name_of_bytes, NIL}
use Rattle.mw_model.proofs.Names.{name_of_bytes-bytes}

-- a kind and its data
abbrev pub Token : Type 0
Token = ℕ × List ℕ

abbrev pub tokens : Object → List Token
tokens (Natural n) = (0, n ∷ []) ∷ []
tokens (Symbol s) = (1, s.bytes) ∷ []
tokens (Pair a b) = tokens a ++ (tokens b ++ (2, []) ∷ [])

abbrev pub first_or_zero : List ℕ → ℕ
first_or_zero [] = 0
first_or_zero (n ∷ ns) = n

abbrev pub join : List Object → List Object
join (b ∷ a ∷ stack) = Pair a b ∷ stack
join stack = stack

abbrev pub step : ℕ → List ℕ → List Object → List Object
step zero data_of stack = Natural (first_or_zero data_of) ∷ stack
step (suc zero) data_of stack = Symbol (name_of_bytes data_of) ∷ stack
step (suc (suc k)) data_of stack = join stack

abbrev pub run_tokens : List Object → List Token → List Object
run_tokens stack [] = stack
run_tokens stack (t ∷ ts) = run_tokens (step t.0 t.1 stack) ts

abbrev pub top : List Object → Object
top [] = NIL
top (x ∷ stack) = x

pub run_tokens-tokens : (x : Object) (stack : List Object) (ts : List Token) → run_tokens stack (tokens x ++ ts) ≡ run_tokens (x ∷ stack) ts
run_tokens-tokens (Natural n) stack ts = refl
run_tokens-tokens (Symbol s) stack ts = ap (λ y. run_tokens (Symbol y ∷ stack) ts) (name_of_bytes-bytes s)
run_tokens-tokens (Pair a b) stack ts =
    ap (run_tokens stack) (append_assoc (tokens a) (tokens b ++ (2, []) ∷ []) ts ∙ ap (λ l. tokens a ++ l) (append_assoc (tokens b) ((2, []) ∷ []) ts))
    ∙ (run_tokens-tokens a stack (tokens b ++ ((2, []) ∷ ts)) ∙ run_tokens-tokens b (a ∷ stack) ((2, []) ∷ ts))

pub top-run_tokens : (x : Object) → top (run_tokens [] (tokens x)) ≡ x
top-run_tokens x = ap (λ l. top (run_tokens [] l)) (sym (append-nil (tokens x))) ∙ ap top (run_tokens-tokens x [] [])

abbrev pub coded_object : Coded Object
coded_object = code_by (List Token) (coded_list (coded× coded_ℕ (coded_list coded_ℕ))) tokens (λ l. top (run_tokens [] l)) top-run_tokens
