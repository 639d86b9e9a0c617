-- A variable without a term gets one.
use Rattle.std.proofs.Common.{◌≡◌, false, Option, None, Some, Bor, is_some, refl, sym, ap, ◌∙◌, nat_eq}
use Rattle.std.specs.Map.{lookup}
use Rattle.std.specs.Option.{option_copied}
use Rattle.indexmap.proofs.CallerLemmas.{insert_entry-new}
use Rattle.mw_subst.proofs.SigmaObject.{lookup-push}
use Rattle.mw_subst.proofs.sigma.put_first.Goals as goal

not_some : {X : Type 0} (o : Option (Bor X)) → is_some o ≡ false → option_copied o ≡ None
not_some None e = refl
not_some (Some x) e = cc

pub returns-clause-put : goal.returns-clause-put
returns-clause-put c = λ x.
    let none : lookup (nat_eq c.args.variable) c.args.firsts.now.entries ≡ None = sym c.get.ensures.value ∙ not_some c.get.result (sym c.is_some.ensures ∙ c.if-is_some.false) in
    ap (lookup (nat_eq x)) (c.in_ok-insert.ensures.entries ∙ insert_entry-new nat_eq c.args.firsts.now c.args.variable c.args.term none) ∙ lookup-push c.args.firsts.now.entries c.args.variable c.args.term x
