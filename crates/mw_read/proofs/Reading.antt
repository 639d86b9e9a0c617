-- A text that has begun, read up to the byte that ends it.
use Rattle.std.proofs.Common.{◌≡◌, ℕ, ◌+◌, ◌<◌, Bool, true, false, List, ◌++◌, length, take, get_or, sym, ap, ◌∙◌, subst, arith}
use Rattle.std.specs.List.{list_all}
use Rattle.mw_model.specs.Terms.Object.{Object}
use Rattle.mw_lex.specs.Runs.{IsRun}
use Rattle.mw_read.specs.Machine.{State, is_full}
use Rattle.mw_read.specs.Held.{Holds}
use Rattle.mw_read.specs.Parsing.{IsText, is_inside, IsParser}
use Rattle.mw_read.specs.declared.parser.Begun.{Begun}
use Rattle.mw_read.specs.declared.parser.Parser.{Parser}
use Rattle.mw_read.proofs.Bare.{all_append, both_length}
use Rattle.mw_read.proofs.Holding.{holds_full}

-- its bytes so far
pub begun_text : {os : List Object} {p : Parser} {m : Begun} → IsParser os p → p.begun ≡ m → IsText m p.token.items
begun_text {os} {p} {m} k b = subst (λ u. IsText u p.token.items) b k.text

-- where a datum has begun, one may begin
pub begun_free : {os : List Object} {p : Parser} {m : Begun} {t : State} → IsParser os p → p.begun ≡ m → is_inside m ≡ true → Holds os p.stack t → is_full t ≡ false
begun_free {os} {p} {m} {t} k b i h = sym (holds_full os p.stack t h) ∙ k.ready (ap is_inside b ∙ i)

-- bytes of a kind, n more of the rest, and then one of another kind
pub record IsReadTo (kind : ℕ → Bool) (items rest : List ℕ) (n : ℕ) : Type 0 where
  pub more : n < length rest
  pub all : list_all kind (items ++ take n rest) ≡ true
  pub ends : kind (get_or rest n 0) ≡ false
  pub size : length (items ++ take n rest) ≡ length items + n

pub read_to : {kind : ℕ → Bool} {items rest : List ℕ} {n : ℕ} → list_all kind items ≡ true → IsRun kind rest n → (n ≡ length rest → ⊥) → IsReadTo kind items rest n
read_to {kind} {items} {rest} {n} h run stops =
    let l : n < length rest = omega (arith, run.within, stops) in
    record { more = l; all = all_append kind items (take n rest) h run.all; ends = run.ends l; size = both_length items rest n run.within }
