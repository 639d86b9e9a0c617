-- Calls of lambdas whose formals are some names and the other variables of their body, which stand for themselves.
use Rattle.std.specs.Prelude.{◌≡◌, ℕ, true, false, cond, List, [], ◌∷◌, ◌++◌, Option, Some, None}
use Rattle.mw_model.specs.Terms.Object.{Name, Object, Symbol, Pair, symbol, list3}
use Rattle.mw_model.specs.Terms.Term.{Term, Terms, Lambda, NoTerms, More, variables, is_among, are_formals, term_object}
use Rattle.mw_model.specs.Values.Definition.{variable_terms}
use Rattle.mw_model.specs.Events.Expansion.{without, let_term}
use Rattle.mw_model.specs.Values.Primitive.{name_of}
use Rattle.mw_heap.specs.Objects.{object_at, IsIn}
use Rattle.mw_translate.specs.declared.shape.Two.{Two}
use Rattle.mw_translate.specs.declared.progress.Progress.{Progress}
use Rattle.mw_translate.specs.declared.progress.Progress.TheVariants as progress
use Rattle.mw_term.specs.Parts.{names_at, AreSymbols}

abbrev pub append_terms : Terms → Terms → Terms
append_terms NoTerms us = us
append_terms (More t ts) us = More t (append_terms ts us)

abbrev pub let_lambda : List Name → Terms → Term → Term
let_lambda xs ts b =
    let ys = without (variables b) xs in
    Lambda (xs ++ ys) b (append_terms ts (variable_terms ys))

-- the members of one list, and then another list
abbrev pub append_object : Object → Object → Object
append_object (Pair a r) y = Pair a (append_object r y)
append_object _ y = y

-- the objects of references before an object
abbrev pub prepend : List Object → List ℕ → Object → Object
prepend os [] y = y
prepend os (r ∷ rs) y = Pair (object_at os r) (prepend os rs y)

-- the call was made, or the names are no formals
abbrev pub IsLet : List Object → List Name → Terms → Term → Option ℕ → Type 0
IsLet os xs ts b None = are_formals xs ≡ false
IsLet os xs ts b (Some r) = (are_formals xs ≡ true) × IsIn os r × (object_at os r ≡ term_object (let_lambda xs ts b))

-- one binding inside the other
abbrev pub let_stars : List (Name × Term) → Term → Term
let_stars [] b = b
let_stars (p ∷ ps) b = let_term (p ∷ []) (let_stars ps b)

-- references to the names and the values of bindings
abbrev pub AreBindings : List Object → List Two → List (Name × Term) → Type 0
AreBindings os [] [] = Unit {0}
AreBindings os (r ∷ rs) (p ∷ ps) = ((object_at os r.first ≡ Symbol p.0) × (object_at os r.second ≡ term_object p.1)) × AreBindings os rs ps
AreBindings os _ _ = ⊥

-- the same on objects, with a list of the other variables
abbrev pub extended_object : Object → Object → Object → Object → Object
extended_object names values others body = Pair (list3 (symbol "LAMBDA") (append_object names others) body) (append_object values others)

abbrev pub AreAllIn : List Object → List ℕ → Type 0
AreAllIn os [] = Unit {0}
AreAllIn os (r ∷ rs) = IsIn os r × AreAllIn os rs

-- x was added where it is not among the names
pub record AddsOther (os : List Object) (xs : List Name) (old new : List ℕ) (x : ℕ) : Type 0 where
  pub symbols : AreSymbols os new
  pub names : names_at os new ≡ cond (is_among (name_of (object_at os x)) xs) (names_at os old) (names_at os old ++ name_of (object_at os x) ∷ [])

abbrev pub ArePairsIn : List Object → List Two → Type 0
ArePairsIn os [] = Unit {0}
ArePairsIn os (r ∷ rs) = (IsIn os r.first × IsIn os r.second) × ArePairsIn os rs

-- the call, or a failure where there is none
abbrev pub IsCall : Option ℕ → Progress → Type 0
IsCall (Some r) (progress.Made m) = (m.object ≡ r) × (m.count ≡ 0)
IsCall None progress.Fails = Unit {0}
IsCall _ _ = ⊥
