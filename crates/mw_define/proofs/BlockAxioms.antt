-- The axioms of a block, one after another.
use Rattle.std.proofs.Common.{◌≡◌, ℕ, ◌+◌, ◌<◌, ◌≤◌, List, [], ◌∷◌, ◌++◌, length, get_or, take, refl, sym, ap, ap₂, ◌∙◌, subst, map}
use Rattle.mw_model.specs.Terms.Object.{Object, Symbol, Pair, NIL}
use Rattle.mw_model.specs.Terms.Term.{terms_object, formula_object}
use Rattle.mw_model.specs.Laws.Rules.{equal_object}
use Rattle.mw_model.specs.Values.Definition.{variable_terms, function_axiom}
use Rattle.mw_model.specs.Values.Definition.{function_axiom}
use Rattle.mw_model.specs.Laws.RulesInduction.{formulas_object}
use Rattle.mw_model.proofs.ReadBack.{names_back, term_back}
use Rattle.mw_heap.specs.Objects.{object_at, IsIn, Grows}
use Rattle.mw_heap.proofs.Objects.{object_at-Grows, IsIn-Grows, Grows-refl, Grows-trans}
use Rattle.mw_term.proofs.Symbols.{symbol_is}
use Rattle.mw_translate.specs.Lets.{prepend, AreAllIn}
use Rattle.mw_define.specs.declared.draft.Draft.{Draft as Given}
use Rattle.mw_define.specs.Blocks.{IsExpanded, AreExpanded, Each2, IsAxiomOf, function_at, functions_at}
use Rattle.mw_define.proofs.Witnessed.{formals-names, variables-object}
use Rattle.mw_define.proofs.Members.{each2-next, each2-end, each2-weaker}
use Rattle.mw_define.proofs.Expanding.{expanded-at}

-- the equation of a call and a body
pub axiom-is : (os : List Object) (e : Given) → IsExpanded os e → equal_object (Pair (object_at os e.name) (object_at os e.formals)) (object_at os e.body) ≡ formula_object (function_axiom (function_at os e))
axiom-is os e x =
    let h = function_at os e in
    ap₂ (λ n f. equal_object (Pair n f) (object_at os e.body)) (symbol_is (object_at os e.name) x.symbol) (sym (names_back (object_at os e.formals) h.formals (formals-names (object_at os e.formals) h.formals x.formals)) ∙ sym (variables-object h.formals))
    ∙ ap (equal_object (Pair (Symbol h.name) (terms_object (variable_terms h.formals)))) (sym (term_back (object_at os e.body) h.body x.body))

pub record AxiomsSoFar (old cur : List Object) (es : List Given) (i : ℕ) (rs : List ℕ) : Type 0 where
  pub grows : Grows old cur
  pub each : Each2 (IsAxiomOf old cur) (take i es) rs

pub axioms-start : (os : List Object) (es : List Given) (rs : List ℕ) → rs ≡ [] → AxiomsSoFar os os es 0 rs
axioms-start os es rs e = record { grows = Grows-refl os; each = subst (Each2 (IsAxiomOf os os) []) (sym e) tt }

later : (old cur new : List Object) → Grows cur new → (e : Given) (r : ℕ) → IsAxiomOf old cur e r → IsAxiomOf old new e r
later old cur new g e r h = (IsIn-Grows cur new g r h.0, object_at-Grows cur new g r h.0 ∙ h.1)

pub axioms-next : (old cur new : List Object) (es : List Given) (i : ℕ) (e : Given) → AreExpanded old es → i < length es → e ≡ get_or es i e → (rs more : List ℕ) (r : ℕ) → AxiomsSoFar old cur es i rs → Grows cur new → IsIn new r → object_at new r ≡ equal_object (Pair (object_at cur e.name) (object_at cur e.formals)) (object_at cur e.body) → more ≡ rs ++ r ∷ [] → AxiomsSoFar old new es (i + 1) more
axioms-next old cur new es i e x l is rs more r s g within made k =
    let one = expanded-at old es i e x l is in
    let w = one.within in
    let kept : object_at new r ≡ equal_object (Pair (object_at old e.name) (object_at old e.formals)) (object_at old e.body) =
    made ∙ (ap₂ (λ n f. equal_object (Pair n f) (object_at cur e.body)) (object_at-Grows old cur s.grows e.name w.0) (object_at-Grows old cur s.grows e.formals w.1) ∙ ap (equal_object (Pair (object_at old e.name) (object_at old e.formals))) (object_at-Grows old cur s.grows e.body w.2)) in
    record {
      grows = Grows-trans old cur new s.grows g;
      each = each2-next (IsAxiomOf old new) es i e r rs more l is (each2-weaker (IsAxiomOf old cur) (IsAxiomOf old new) (later old cur new g) (take i es) rs s.each) (within, kept ∙ axiom-is old e one) k;
    }

pub axioms-end : (old cur : List Object) (es : List Given) (i : ℕ) (rs : List ℕ) → length es ≤ i → AxiomsSoFar old cur es i rs → Each2 (IsAxiomOf old cur) es rs
axioms-end old cur es i rs l s = each2-end (IsAxiomOf old cur) es i rs l s.each

pub axioms-in : (old new : List Object) (es : List Given) (rs : List ℕ) → Each2 (IsAxiomOf old new) es rs → AreAllIn new rs
axioms-in old new [] [] h = tt
axioms-in old new [] (r ∷ rs) h = absurd h
axioms-in old new (e ∷ es) [] h = absurd h
axioms-in old new (e ∷ es) (r ∷ rs) h = (h.0.0, axioms-in old new es rs h.1)

pub listed-axioms : (old new : List Object) (es : List Given) (rs : List ℕ) → Each2 (IsAxiomOf old new) es rs → prepend new rs NIL ≡ formulas_object (map function_axiom (functions_at old es))
listed-axioms old new [] [] h = refl
listed-axioms old new [] (r ∷ rs) h = absurd h
listed-axioms old new (e ∷ es) [] h = absurd h
listed-axioms old new (e ∷ es) (r ∷ rs) h = ap₂ Pair h.0.1 (listed-axioms old new es rs h.1)
