-- What is found of a datum that may give a formula.
use Rattle.std.specs.Prelude.{◌≡◌, Bool, true, false, List, Some, None}
use Rattle.mw_model.specs.Terms.Object.{Object, list4, symbol, car, second_of}
use Rattle.mw_model.specs.Terms.Term.{Formula}
use Rattle.mw_commands.specs.Commands.Tautology.{Choice, Many as HasMany, FailsUnder, Holds, decision, choice_object}
use Rattle.mw_commands.specs.Commands.TautologyBook.{IsPureProof, formula_given, initial_arities}
use Rattle.mw_heap.specs.Objects.{object_at, IsIn}
use Rattle.mw_taut.specs.declared.verdict.Verdict.{Verdict}
use Rattle.mw_taut.specs.declared.verdict.Verdict.TheVariants.{Shape, Many, Fails, Theorem}

-- this is found of the datum x
abbrev pub IsVerdict : List Object → Object → Verdict → Type 0
IsVerdict os x Shape = formula_given x ≡ None
IsVerdict os x Many = (F : Formula) × (formula_given x ≡ Some F) × (decision F ≡ HasMany)
IsVerdict os x (Fails r) =
    (F : Formula) × (c : Choice) × (formula_given x ≡ Some F) × (decision F ≡ FailsUnder c)
    × IsIn os r × (object_at os r ≡ choice_object c)
IsVerdict os x (Theorem r) =
    (F : Formula) × (p : Object) × (formula_given x ≡ Some F) × (decision F ≡ Holds) × IsPureProof initial_arities p F
    × IsIn os r × (object_at os r ≡ list4 (symbol "VERIFY") (car x) (second_of x) p)

abbrev pub is_theorem : Verdict → Bool
is_theorem (Theorem r) = true
is_theorem _ = false
