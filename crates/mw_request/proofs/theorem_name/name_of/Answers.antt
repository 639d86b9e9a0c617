-- The book of one line is the text with a line end.
use Rattle.std.proofs.Common.{◌∷◌, [], ◌++◌, sym, ap, ◌∙◌, subst, option_map, ◌≡◌, Some}
use Rattle.std.proofs.lemmas.Result.{IfOk-weaker}
use Rattle.mw_model.specs.Terms.Object.{name_of_bytes}
use Rattle.mw_request.specs.Arguments.{name_of, symbol_among}
use Rattle.mw_model.specs.Texts.Grammar.{trees}
use Rattle.mw_read.specs.Standing.{Stands}
use Rattle.mw_read.specs.Feeding.{IsReady}
use Rattle.mw_request.proofs.theorem_name.name_of.Goals as goal

pub name_in-requires-clause-ready : goal.name_in-requires-clause-ready
name_in-requires-clause-ready c =
    let os = c.deref_mut.result.now.objects in
    subst (IsReady os) (sym (c.deref_mut-2.ensures.value ∙ c.in_ok-reader.ensures.ok)) (c.in_ok-reader_of.ensures.ready os)

pub name_in-requires-clause-stands : goal.name_in-requires-clause-stands
name_in-requires-clause-stands c =
    let os = c.deref_mut.result.now.objects in
    subst (λ r. Stands os r.parser [] []) (sym (c.deref_mut-2.ensures.value ∙ c.in_ok-reader.ensures.ok)) (c.in_ok-reader_of.ensures.stands os)

pub name_in-requires-clause-finished : goal.name_in-requires-clause-finished
name_in-requires-clause-finished c = ap (λ r. r.finished) (c.deref_mut-2.ensures.value ∙ c.in_ok-reader.ensures.ok) ∙ c.in_ok-reader_of.ensures.finished

pub returns : goal.returns
returns c =
    let text = c.args.text.now in
    let unread = ap (λ r. r.unread) (c.deref_mut-2.ensures.value ∙ c.in_ok-reader.ensures.ok) ∙ c.in_ok-reader_of.ensures.unread ∙ ap (λ b. b ++ 10 ∷ []) c.as_bytes.ensures.value in
    IfOk-weaker c.name_in.result _ (λ o. option_map name_of_bytes o ≡ name_of (Some text)) (λ o h. h ∙ ap (λ b. symbol_among (trees b).events (trees b).fault) unread) c.name_in.ensures
