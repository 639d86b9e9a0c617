-- A variable that is no formal goes last.
use Rattle.std.proofs.Common.{◌++◌, ◌∷◌, [], cond, sym, ap, ◌∙◌, subst}
use Rattle.mw_model.specs.Values.Primitive.{name_of}
use Rattle.mw_heap.specs.Objects.{object_at}
use Rattle.mw_term.specs.Parts.{names_at, AreSymbols}
use Rattle.mw_term.proofs.FormalList.{names_at-push, symbols-push}
use Rattle.mw_translate.proofs.lets.add_other.Goals as goal

pub returns : goal.returns
returns c =
    let os = c.args.heap.now.objects in
    let old = c.args.others.now.items in
    let x = name_of (object_at os c.args.x) in
    record {
      symbols = subst (AreSymbols os) (sym c.in_ok-push.ensures.items) (symbols-push os old c.args.x c.requires.others c.requires.within c.requires.symbol);
      names =
          ap (names_at os) c.in_ok-push.ensures.items
          ∙ (names_at-push os old c.args.x
          ∙ ap (λ b. cond b (names_at os old) (names_at os old ++ x ∷ [])) (sym (sym c.contains.ensures ∙ c.if-contains.false)));
    }
