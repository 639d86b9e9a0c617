-- The variables of a term, or none.
use Rattle.std.proofs.Common.{sym, ap, ◌∙◌, subst}
use Rattle.std.proofs.lemmas.Result.{on_ok_weaker}
use Rattle.mw_term.specs.Parts.{names_at, AreSymbols}
use Rattle.mw_explain.specs.Drafts.{IsExpandedTo, formals_at}
use Rattle.mw_explain.specs.OtherVariables.{put_others}
use Rattle.mw_explain.proofs.VariablesPut.{expanded-none, expanded-some}
use Rattle.mw_explain.proofs.other_variables.put_variables.Goals as goal

pub returns-in_default-clause-put : goal.returns-in_default-clause-put
returns-in_default-clause-put c = λ o h.
    let os = c.args.heap.now.objects in
    ap (put_others (formals_at os c.args.formals.now) (names_at os c.args.others.now.keys)) (sym (expanded-none os o (subst (IsExpandedTo os o) c.in_default.is h)))

pub put_each-requires-clause-given : goal.put_each-requires-clause-given
put_each-requires-clause-given c = subst (AreSymbols c.args.heap.now.objects) (sym c.as_slice.ensures) c.in_ok-variables.ensures.symbols

pub returns-clause-put : goal.returns-clause-put
returns-clause-put c =
    let os = c.args.heap.now.objects in
    on_ok_weaker c.put_each.result
    (λ e o h. e ∙ ap (put_others (formals_at os c.args.formals.now) (names_at os c.args.others.now.keys)) (ap (names_at os) c.as_slice.ensures ∙ expanded-some os o c.in-Some.term c.in_ok-variables.variables (subst (IsExpandedTo os o) c.in-Some.is h) c.in_ok-variables.ensures.variables))
    c.put_each.ensures.put
