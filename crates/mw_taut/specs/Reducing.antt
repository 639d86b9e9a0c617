-- What the parts of a formula come to where an equation has a value: a truth value, or a formula without the equation; with proofs, in the
-- context of the value's denial. A part in which the equation does not occur comes to itself, and there is nothing to prove.
use Rattle.std.specs.Prelude.{ℕ, ◌+◌, Bool, true, false, cond, List, [], ◌∷◌, ◌++◌, length, map, get_or, option_map, Option, Some, None, IfSome, All}
use Rattle.mw_model.specs.Terms.Object.{Object, NIL, same_object}
use Rattle.mw_heap.specs.Objects.{object_at, IsIn}
use Rattle.mw_taut.specs.declared.reduced.Assumption.{Assumption}
use Rattle.mw_taut.specs.declared.reduced.Settled.{Settled}
use Rattle.mw_taut.specs.declared.reduced.Change.{Change}
use Rattle.mw_taut.specs.declared.reduced.Reduced.{Reduced}
use Rattle.mw_taut.specs.declared.reduced.Reduced.TheVariants.{Fixed as FixedAt, Kept as KeptAt, Changed as ChangedAt}
use Rattle.mw_taut.specs.declared.table.Node.{Node}
use Rattle.mw_taut.specs.declared.table.Node.TheVariants.{Equation, Not, Or}
use Rattle.mw_taut.specs.declared.rule.TheConstants.{SCHEMA, DOUBLED, LEFT, RIGHT, NEITHER, NOT, LAW, KEPT, DENIAL, UNDENIED, FIRST, SECOND, BOTH, FIRST_KEPT, SECOND_KEPT}
use Rattle.mw_taut.specs.Rules.{rule_made}

-- a value, with a proof of the part or of its denial, or the context
abbrev pub ValueAndProof : Type 0
ValueAndProof = Bool × Object

-- Another formula, and of what it is the denial, if it is one; with proofs of its denial, or the part or the context, and of the
-- part's denial, or the context or the formula.
pub record Other : Type 0 where
  pub formula : Object
  pub denied : Option Object
  pub from : Object
  pub to : Object

pub data Form : Type 0 where
  Fixed : ValueAndProof → Form
  Kept : Form
  Changed : Other → Form

-- by three rules that stand one after the other
abbrev pub change_of : ℕ → Option Object → List Object → Other
change_of n denied given = record { formula = rule_made n given; denied = denied; from = rule_made (n + 1) given; to = rule_made (n + 2) given }

-- ---- an equation

-- e where it is taken to be true, and else its denial
abbrev pub literal_object : Object → Bool → Object
literal_object e true = e
literal_object e false = rule_made NOT (e ∷ [])

-- the literal or its denial
abbrev pub literal_law : Object → Bool → Object
literal_law e true = rule_made LAW (e ∷ [])
literal_law e false = rule_made SCHEMA (e ∷ [])

abbrev pub reduce_equation : Object → Bool → Object → Form
reduce_equation e b x = cond (same_object x e) (Fixed (b, literal_law e b)) Kept

-- ---- a part that is kept, as one that comes to itself

abbrev pub kept : Object → Object → Other
kept d x = change_of KEPT None (d ∷ x ∷ [])

-- ---- the denial of x, where x comes to s, which may be the denial of z

abbrev pub deny_value : Object → Object → ValueAndProof → ValueAndProof
deny_value d x s = cond s.0 (false, rule_made DOUBLED (x ∷ d ∷ s.1 ∷ [])) (true, s.1)

abbrev pub deny_other : Object → Object → Other → Option Object → Other
deny_other d x s None = change_of DENIAL (Some s.formula) (d ∷ x ∷ s.formula ∷ s.from ∷ s.to ∷ [])
deny_other d x s (Some z) = change_of UNDENIED None (d ∷ x ∷ s.formula ∷ s.from ∷ s.to ∷ z ∷ [])

abbrev pub deny : Object → Object → Form → Form
deny d x (Fixed s) = Fixed (deny_value d x s)
deny d x Kept = Kept
deny d x (Changed s) = Changed (deny_other d x s s.denied)

-- ---- the disjunction of x and y, where x comes to s, or y to t, or both

abbrev pub either_value : Object → Object → Object → ValueAndProof → ValueAndProof → ValueAndProof
either_value d x y s t =
    cond s.0 (true, rule_made LEFT (x ∷ y ∷ d ∷ s.1 ∷ [])) (cond t.0 (true, rule_made RIGHT (x ∷ y ∷ d ∷ t.1 ∷ [])) (false, rule_made NEITHER (x ∷ y ∷ d ∷ s.1 ∷ t.1 ∷ [])))

-- where one of them has the value s, and the other comes to t: by the rule n if the value is true, and else by the rules from m on
abbrev pub either_other : ℕ → ℕ → Object → Object → Object → ValueAndProof → Other → Form
either_other n m d x y s t =
    cond s.0 (Fixed (true, rule_made n (x ∷ y ∷ d ∷ s.1 ∷ []))) (Changed (change_of m t.denied (d ∷ x ∷ y ∷ t.formula ∷ t.from ∷ t.to ∷ s.1 ∷ [])))

abbrev pub either_both : Object → Object → Object → Other → Other → Other
either_both d x y s t = change_of BOTH None (d ∷ x ∷ y ∷ s.formula ∷ s.from ∷ s.to ∷ t.formula ∷ t.from ∷ t.to ∷ [])

abbrev pub either : Object → Object → Object → Form → Form → Form
either d x y (Fixed s) (Fixed t) = Fixed (either_value d x y s t)
either d x y (Fixed s) Kept = either_other LEFT SECOND d x y s (kept d y)
either d x y (Fixed s) (Changed t) = either_other LEFT SECOND d x y s t
either d x y Kept (Fixed t) = either_other RIGHT FIRST d x y t (kept d x)
either d x y Kept Kept = Kept
either d x y Kept (Changed t) = Changed (change_of FIRST_KEPT None (d ∷ x ∷ y ∷ t.formula ∷ t.from ∷ t.to ∷ []))
either d x y (Changed s) (Fixed t) = either_other RIGHT FIRST d x y t s
either d x y (Changed s) Kept = Changed (change_of SECOND_KEPT None (d ∷ x ∷ y ∷ s.formula ∷ s.from ∷ s.to ∷ []))
either d x y (Changed s) (Changed t) = Changed (either_both d x y s t)

-- ---- the parts, in order

abbrev pub nothing : Form
nothing = Fixed (false, NIL)

-- A node, where xs are the parts of the formula, the first of which are looked at, and the equation e has the value b.
abbrev pub reduce : Object → Object → Bool → List Object → List Form → Node → Form
reduce d e b xs done (Equation k) = reduce_equation e b (get_or xs (length done) NIL)
reduce d e b xs done (Not i) = deny d (get_or xs i NIL) (get_or done i nothing)
reduce d e b xs done (Or i j) = either d (get_or xs i NIL) (get_or xs j NIL) (get_or done i nothing) (get_or done j nothing)

abbrev pub reduce_all : Object → Object → Bool → List Object → List Form → List Node → List Form
reduce_all d e b xs done [] = done
reduce_all d e b xs done (n ∷ ns) = reduce_all d e b xs (done ++ reduce d e b xs done n ∷ []) ns

-- ---- in a heap

abbrev pub settled_at : List Object → Settled → ValueAndProof
settled_at os s = (s.value, object_at os s.proof)

abbrev pub other_at : List Object → Change → Other
other_at os s = record { formula = object_at os s.formula; denied = option_map (object_at os) s.denied; from = object_at os s.from; to = object_at os s.to }

abbrev pub form_at : List Object → Reduced → Form
form_at os (FixedAt s) = Fixed (settled_at os s)
form_at os KeptAt = Kept
form_at os (ChangedAt s) = Changed (other_at os s)

abbrev pub each_at : List Object → List Reduced → List Form
each_at os rs = map (form_at os) rs

pub record IsAssumptionIn (os : List Object) (a : Assumption) : Type 0 where
  pub formulas : All (IsIn os) a.formulas.now
  pub equation : IsIn os a.equation
  pub context : IsIn os a.context

pub record IsOtherIn (os : List Object) (s : Change) : Type 0 where
  pub formula : IsIn os s.formula
  pub denied : IfSome s.denied (IsIn os)
  pub from : IsIn os s.from
  pub to : IsIn os s.to

abbrev pub IsFormIn : List Object → Reduced → Type 0
IsFormIn os (FixedAt s) = IsIn os s.proof
IsFormIn os KeptAt = Unit {0}
IsFormIn os (ChangedAt s) = IsOtherIn os s
