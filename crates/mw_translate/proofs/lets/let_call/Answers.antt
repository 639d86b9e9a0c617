-- The names are formals, and the object is that of the call.
use Rattle.std.proofs.Common.{◌≡◌, List, Some, false, true, IfSome, MatchOption, sym, ap, ap₂, ◌∙◌, subst}
use Rattle.mw_model.specs.Terms.Object.{Object, NIL}
use Rattle.mw_model.specs.Terms.Term.{variables, are_formals, names_object, terms_object}
use Rattle.mw_model.specs.Terms.Reading.{term_of}
use Rattle.mw_model.specs.Events.Expansion.{without}
use Rattle.mw_model.proofs.Formed.{formed}
use Rattle.mw_model.proofs.Read.{term_read}
use Rattle.mw_heap.specs.Objects.{object_at}
use Rattle.mw_term.specs.Parts.{names_at, AreSymbols}
use Rattle.mw_translate.specs.Lets.{AreAllIn, prepend, extended_object}
use Rattle.mw_translate.proofs.Appended.{symbols-in, prepend-names, let_object}
use Rattle.mw_translate.proofs.lets.let_call.Goals as goal

pub extended_call-requires-clause-others_in : goal.extended_call-requires-clause-others_in
extended_call-requires-clause-others_in c =
    let os = c.args.heap.now.objects in
    let items = c.in-Some.others.items in
    let symbols : AreSymbols os items = subst (λ o. IfSome o (λ v. AreSymbols os v.items)) c.in-Some.is c.in_ok-others.ensures.symbols in
    subst (λ (h : List Object). AreAllIn h items) (sym c.variables_besides.ensures.same) (symbols-in os items symbols)

pub returns-in_default-clause-made : goal.returns-in_default-clause-made
returns-in_default-clause-made c = λ A xs ts b n v e t.
    let os = c.args.heap.now.objects in
    let read : term_of (object_at os c.args.body) ≡ Some b = ap term_of e ∙ term_read A b (formed A b t) in
    subst (λ o. MatchOption o (are_formals xs ≡ false) (λ w. (are_formals xs ≡ true) × (names_at os w.items ≡ without (variables b) xs))) c.in_default.is (c.in_ok-others.ensures.others xs b n read)

pub returns-clause-made : goal.returns-clause-made
returns-clause-made c = λ A xs ts b n v e t.
    let os = c.args.heap.now.objects in
    let items = c.in-Some.others.items in
    let read : term_of (object_at os c.args.body) ≡ Some b = ap term_of e ∙ term_read A b (formed A b t) in
    let symbols : AreSymbols os items = subst (λ o. IfSome o (λ w. AreSymbols os w.items)) c.in-Some.is c.in_ok-others.ensures.symbols in
    let f : (are_formals xs ≡ true) × (names_at os items ≡ without (variables b) xs) =
    subst (λ o. MatchOption o (are_formals xs ≡ false) (λ w. (are_formals xs ≡ true) × (names_at os w.items ≡ without (variables b) xs))) c.in-Some.is (c.in_ok-others.ensures.others xs b n read) in
    let others : prepend os items NIL ≡ names_object (without (variables b) xs) = prepend-names os items symbols ∙ ap names_object f.1 in
    let same = ap (λ (h : List Object). extended_object (object_at h c.args.names) (object_at h c.args.values) (prepend h items NIL) (object_at h c.args.body)) c.variables_besides.ensures.same in (
      f.0,
      c.in_ok-extended_call.ensures.made.0,
      c.in_ok-extended_call.ensures.made.1 ∙ (same ∙ (ap₂ (λ x y. extended_object x y (prepend os items NIL) (object_at os c.args.body)) n v ∙ (ap₂ (extended_object (names_object xs) (terms_object ts)) others e ∙ let_object xs ts b))),
    )
