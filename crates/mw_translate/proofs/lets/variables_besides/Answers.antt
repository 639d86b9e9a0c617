-- The names are formals, and the others are told from them.
use Rattle.std.proofs.Common.{option_map, Some, None, sym, ap, ◌∙◌}
use Rattle.mw_model.specs.Terms.Term.{variables}
use Rattle.mw_model.specs.Events.Expansion.{without}
use Rattle.mw_term.specs.Parts.{names_at, formals_of}
use Rattle.mw_translate.proofs.Appended.{formals_of-names}
use Rattle.mw_translate.proofs.lets.variables_besides.Goals as goal

pub returns-in_default-clause-others : goal.returns-in_default-clause-others
returns-in_default-clause-others c = λ xs b n t.
    let os = c.args.heap.now.objects in
    formals_of-names xs None (ap formals_of (sym n) ∙ (sym c.in_ok-formals.ensures.formals ∙ ap (option_map (names_at os)) c.in_default.is))

pub returns-clause-others : goal.returns-clause-others
returns-clause-others c = λ xs b n t.
    let os = c.args.heap.now.objects in
    let f = formals_of-names xs (Some (names_at os c.in-Some.formals)) (ap formals_of (sym n) ∙ (sym c.in_ok-formals.ensures.formals ∙ ap (option_map (names_at os)) c.in-Some.is)) in
    (f.0, c.in_ok-counted_others.ensures.others b t ∙ ap (without (variables b)) f.1)
