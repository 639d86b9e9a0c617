-- A formal, one that is there, or one more.
use Rattle.std.proofs.Common.{◌||◌, cond, [], ◌∷◌, ◌++◌, sym, ap, ap₂, ◌∙◌, subst, if◌then◌else◌}
use Rattle.mw_model.specs.Terms.Term.{is_among}
use Rattle.mw_model.specs.Values.Primitive.{name_of}
use Rattle.mw_heap.specs.Objects.{object_at}
use Rattle.mw_term.specs.Parts.{names_at, AreSymbols}
use Rattle.mw_term.proofs.FormalList.{names_at-push, symbols-push}
use Rattle.mw_explain.proofs.other_variables.put_other.Goals as goal

pub returns-then-is_formal-clause-put : goal.returns-then-is_formal-clause-put
returns-then-is_formal-clause-put c =
    let os = c.args.heap.now.objects in
    let f = name_of (object_at os c.args.x) in
    let ns = names_at os c.args.others.now.keys in
    sym (ap (λ b. cond (b || is_among f ns) ns (ns ++ f ∷ [])) (sym c.is_formal.ensures ∙ c.if-is_formal.true))

pub returns-then-is_among_symbols-clause-put : goal.returns-then-is_among_symbols-clause-put
returns-then-is_among_symbols-clause-put c =
    let os = c.args.heap.now.objects in
    let f = name_of (object_at os c.args.x) in
    let ns = names_at os c.args.others.now.keys in
    sym (ap₂ (λ a b. cond (a || b) ns (ns ++ f ∷ [])) (sym c.is_formal.ensures ∙ c.if-is_formal.false) (sym c.is_among_symbols.ensures.among ∙ c.if-is_among_symbols.true))

pub returns-clause-symbols : goal.returns-clause-symbols
returns-clause-symbols c =
    let keys = c.args.others.now.keys in
    let more = c.in_ok-insert.ensures.keys ∙ ap (λ b. if b then keys else keys ++ c.args.x ∷ []) (sym c.is_among_symbols.ensures.held ∙ c.if-is_among_symbols.false) in
    subst (AreSymbols c.args.heap.now.objects) (sym more) (symbols-push c.args.heap.now.objects keys c.args.x c.requires.symbols c.requires.within c.requires.symbol)

pub returns-clause-put : goal.returns-clause-put
returns-clause-put c =
    let os = c.args.heap.now.objects in
    let f = name_of (object_at os c.args.x) in
    let keys = c.args.others.now.keys in
    let ns = names_at os keys in
    let more = c.in_ok-insert.ensures.keys ∙ ap (λ b. if b then keys else keys ++ c.args.x ∷ []) (sym c.is_among_symbols.ensures.held ∙ c.if-is_among_symbols.false) in
    ap (names_at os) more
    ∙ (names_at-push os keys c.args.x
    ∙ sym (ap₂ (λ a b. cond (a || b) ns (ns ++ f ∷ [])) (sym c.is_formal.ensures ∙ c.if-is_formal.false) (sym c.is_among_symbols.ensures.among ∙ c.if-is_among_symbols.false)))
