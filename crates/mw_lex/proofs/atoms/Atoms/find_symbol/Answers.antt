use Rattle.std.proofs.Common.{◌≡◌, ◌∙◌, true, map, sym, subst, IfOk}
use Rattle.mw_model.specs.Terms.Object.{Symbol, is_name, name_of_bytes}
use Rattle.mw_model.specs.Texts.Lexemes.{raised}
use Rattle.mw_model.proofs.Names.{same_bytes-eq}
use Rattle.mw_heap.specs.Objects.{object_at, IsIn}
use Rattle.mw_lex.proofs.atoms.Atoms.find_symbol.Goals as goal

pub symbol-requires : goal.symbol-requires
symbol-requires c = subst (λ u. is_name u ≡ true) (same_bytes-eq (map raised c.args.token.now) c.args.token.now (sym c.is_raised.ensures ∙ c.if-is_raised.true)) c.requires

pub returns-then-is_raised-clause-made : goal.returns-then-is_raised-clause-made
returns-then-is_raised-clause-made c =
    let os = c.symbol.new.self.objects in
    let t = c.args.token.now in
    subst (λ u. IfOk c.symbol.result (λ r. IsIn os r × (object_at os r ≡ Symbol (name_of_bytes u)))) (sym (same_bytes-eq (map raised t) t (sym c.is_raised.ensures ∙ c.if-is_raised.true))) c.symbol.ensures.made

pub returns-clause-made : goal.returns-clause-made
returns-clause-made c =
    let os = c.symbol-2.new.self.objects in
    subst (λ u. IfOk c.symbol-2.result (λ r. IsIn os r × (object_at os r ≡ Symbol (name_of_bytes u)))) (c.deref.ensures.value ∙ c.in_ok-raise_all.ensures) c.symbol-2.ensures.made
