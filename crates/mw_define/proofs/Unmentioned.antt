-- A term that mentions no function of the block has no calls of it.
use Rattle.std.proofs.Common.{◌≡◌, Bool, true, false, ◌||◌, cond, List, [], ◌∷◌, ◌++◌, map, Option, Some, None, refl, ap₂, is_some, zip}
use Rattle.mw_model.specs.Terms.Object.{Name, same_name}
use Rattle.mw_model.specs.Terms.Term.{Term, Terms, Variable, Constant, If, Call, Lambda, NoTerms, More}
use Rattle.mw_model.specs.Terms.Substitution.{substitute, substitute_each}
use Rattle.mw_model.specs.Values.Definition.{Function, function_named}
use Rattle.mw_model.specs.Events.Obligation.{IsNotNil, IsNil, RecursiveCall, Actual, Pending, mentions, any_mentions, under_test, pending_terms, pending_calls, all_calls, call_or, collect, actuals_with}

or-parts : (a b : Bool) → (a || b) ≡ false → (a ≡ false) × (b ≡ false)
or-parts true b h = cc
or-parts false b h = (refl, h)

-- nothing that is pending has calls
abbrev pub AreQuiet : List Actual → Type 0
AreQuiet [] = Unit {0}
AreQuiet (u ∷ us) = (u.calls ≡ []) × AreQuiet us

abbrev pub IsQuiet : List Pending → Type 0
IsQuiet [] = Unit {0}
IsQuiet (p ∷ s) = (p.1.calls ≡ []) × IsQuiet s

quiet-pend : (xs : List Name) (us : List Actual) → AreQuiet us → IsQuiet (zip xs us)
quiet-pend [] us h = tt
quiet-pend (x ∷ xs) [] h = tt
quiet-pend (x ∷ xs) (u ∷ us) h = (h.0, quiet-pend xs us h.1)

pub quiet-calls : (us : List Actual) → AreQuiet us → all_calls us ≡ []
quiet-calls [] h = refl
quiet-calls (u ∷ us) h = ap₂ (λ l m. l ++ m) h.0 (quiet-calls us h.1)

quiet-at : (s : List Pending) (x : Name) → IsQuiet s → pending_calls s x ≡ []
quiet-at [] x h = refl
quiet-at (p ∷ s) x h = go (same_name p.0 x) h.0 (quiet-at s x h.1)
  where
    go : (b : Bool) → p.1.calls ≡ [] → pending_calls s x ≡ [] → cond b p.1.calls (pending_calls s x) ≡ []
    go true k rest = k
    go false k rest = rest

outside : (o : Option Function) (ts : Terms) (rs : List RecursiveCall) → is_some o ≡ false → rs ≡ [] → call_or o ts rs ≡ []
outside None ts rs h e = e
outside (Some f) ts rs h e = cc

module _ (B : List Function) where
  mutual
    pub no-calls : (s : List Pending) → IsQuiet s → (t : Term) → mentions B t ≡ false → collect B s t ≡ []
    no-calls s q (Variable x) h = quiet-at s x q
    no-calls s q (Constant c) h = refl
    no-calls s q (If a b c) h =
        let p = or-parts (mentions B a) (mentions B b || mentions B c) h in
        let r = or-parts (mentions B b) (mentions B c) p.1 in
        let u = substitute (pending_terms s) a in
        ap₂ (λ x y. x ++ y) (no-calls s q a p.0) (ap₂ (λ y z. map (under_test (IsNotNil u)) y ++ map (under_test (IsNil u)) z) (no-calls s q b r.0) (no-calls s q c r.1))
    no-calls s q (Call f ts) h =
        let p = or-parts (is_some (function_named B f)) (any_mentions B ts) h in
        outside (function_named B f) (substitute_each (pending_terms s) ts) (all_calls (actuals_with B s ts)) p.0 (quiet-calls (actuals_with B s ts) (quiet-actuals s q ts p.1))
    no-calls s q (Lambda xs b ts) h =
        let p = or-parts (mentions B b) (any_mentions B ts) h in
        let k = quiet-actuals s q ts p.1 in
        ap₂ (λ x y. x ++ y) (quiet-calls (actuals_with B s ts) k) (no-calls (zip xs (actuals_with B s ts)) (quiet-pend xs (actuals_with B s ts) k) b p.0)

    pub quiet-actuals : (s : List Pending) → IsQuiet s → (ts : Terms) → any_mentions B ts ≡ false → AreQuiet (actuals_with B s ts)
    quiet-actuals s q NoTerms h = tt
    quiet-actuals s q (More t ts) h =
        let p = or-parts (mentions B t) (any_mentions B ts) h in
        (no-calls s q t p.0, quiet-actuals s q ts p.1)
