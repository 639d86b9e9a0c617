use Rattle.std.proofs.Common.{map, length, sym, ap, ◌∙◌, arith}
use Rattle.std.proofs.lemmas.List.{length-map, get_or-map, take_all}
use Rattle.mw_model.specs.Terms.Object.{same_bytes}
use Rattle.mw_model.specs.Texts.Lexemes.{raised}
use Rattle.mw_model.proofs.Names.{same_bytes-refl}
use Rattle.mw_lex.proofs.Raised.{not_same_bytes}
use Rattle.std.proofs.Common.{get_or}
use Rattle.mw_lex.proofs.atoms.is_raised.Goals as goal

pub returns-then-token-name : goal.returns-then-token-name
returns-then-token-name c =
    let t = c.args.token.now in
    not_same_bytes (map raised t) c.args.name.now (λ e. c.if-token-name.true (sym (length-map t raised) ∙ ap length e))

pub returns-then-raise-name : goal.returns-then-raise-name
returns-then-raise-name c =
    let t = c.args.token.now in
    let i = c.loop-i.i in
    not_same_bytes (map raised t) c.args.name.now
    (λ e. c.if-raise-name.true (c.raise.ensures ∙ sym (get_or-map raised t i 0 0 c.loop-i-test.true) ∙ ap (λ u. get_or u i 0) e))

pub returns : goal.returns
returns c =
    let t = c.args.token.now in
    let name = c.args.name.now in
    let i = c.loop-i.i in
    let whole = sym (ap (map raised) (take_all i t c.loop-i-test.false)) ∙ c.loop-i.invariant ∙ take_all i name (omega (arith, c.loop-i-test.false, c.if-token-name.false)) in
    sym (ap (λ u. same_bytes u name) whole ∙ same_bytes-refl name)
