-- Events whose proofs are rewritten, each to what it turns to by some relation, before they are judged.
use Rattle.std.specs.Prelude.{◌≡◌, Bool, true, false, ◌⊎◌, Option, Some, None}
use Rattle.mw_model.specs.Terms.Object.{Name, Object, Natural, Symbol, Pair}
use Rattle.mw_model.specs.Terms.Term.{ArityTable}
use Rattle.mw_model.specs.Values.Primitive.{Profile}
use Rattle.mw_model.specs.Values.Definition.{arity_table}
use Rattle.mw_model.specs.Laws.RulesInduction.{is_list_object}
use Rattle.mw_model.specs.Events.Theory.{Theory}
use Rattle.mw_model.specs.Events.Fate.{EventWord, event_word}
use Rattle.mw_model.specs.Events.Demand.{proofs_of, with_proofs}

-- which objects turn to which, over axioms, theorems, an arity table and a profile
abbrev pub Turning : Type 1
Turning = Object → Object → ArityTable → Profile → Object → Object → Type 0

abbrev pub TurnsAt : Turning → Theory → Object → Object → Type 0
TurnsAt turns t p q = turns t.axioms t.theorems (arity_table t.definitions) t.definitions.profile p q

-- p turns to q; or to nothing, and q is p
abbrev pub TurnsOrStays : Turning → Theory → Object → Object → Type 0
TurnsOrStays turns t p q = TurnsAt turns t p q ⊎ (((r : Object) → TurnsAt turns t p r → ⊥) × (q ≡ p))

abbrev pub EachTurnsOrStays : Turning → Theory → Object → Object → Type 0
EachTurnsOrStays turns t (Pair p ps) x = (q qs : Object) × (x ≡ Pair q qs) × TurnsOrStays turns t p q × EachTurnsOrStays turns t ps qs
EachTurnsOrStays turns t (Natural n) x = x ≡ Natural n
EachTurnsOrStays turns t (Symbol s) x = x ≡ Symbol s

abbrev pub IsRewrittenList : Bool → Turning → Theory → EventWord → Object → Object → Type 0
IsRewrittenList true turns t w e rewritten = (qs : Object) × EachTurnsOrStays turns t (proofs_of w e) qs × (rewritten ≡ with_proofs w e qs)
IsRewrittenList false turns t w e rewritten = rewritten ≡ e

-- Under another checker than the built-in one, and where there is no event or no list of proofs, all stays.
abbrev pub IsRewrittenBy : Option Name → Option EventWord → Turning → Theory → Object → Object → Type 0
IsRewrittenBy None (Some w) turns t e rewritten = IsRewrittenList (is_list_object (proofs_of w e)) turns t w e rewritten
IsRewrittenBy _ _ turns t e rewritten = rewritten ≡ e

abbrev pub IsRewritten : Turning → Theory → Object → Object → Type 0
IsRewritten turns t e rewritten = IsRewrittenBy t.checker (event_word e) turns t e rewritten
