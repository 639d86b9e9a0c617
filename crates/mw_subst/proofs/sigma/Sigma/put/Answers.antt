-- The first pairs, with one more at the end.
use Rattle.std.proofs.Common.{sym, ap, ◌∙◌, ◌++◌, ◌∷◌, [], None, Some, cond, nat_eq}
use Rattle.mw_subst.specs.Sigma.{term_for, term_or}
use Rattle.mw_subst.proofs.SigmaObject.{term_for-push}
use Rattle.mw_subst.proofs.sigma.Sigma.put.Goals as goal

pub invariant_of-self-2 : goal.invariant_of-self-2
invariant_of-self-2 c = λ x.
    c.in_ok-put_first.ensures.put x
    ∙ (ap (λ o. term_or o (cond (nat_eq x c.args.variable) (Some c.args.term) None)) (c.self.invariant x)
    ∙ (sym (term_for-push c.self.inside.pairs.items c.args.variable c.args.term x) ∙ ap (λ l. term_for l x) (sym (c.in_ok-push.ensures.items ∙ ap (λ l. l ++ (c.args.variable, c.args.term) ∷ []) c.in_ok-reserve.ensures.items))))
