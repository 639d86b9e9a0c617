-- A constant, an IF or another call.
use Rattle.std.proofs.Common.{◌≡◌, Some, sym, ap, ◌∙◌}
use Rattle.std.proofs.lemmas.Result.{on_ok_weaker}
use Rattle.mw_model.specs.Terms.Object.{Pair, symbol}
use Rattle.mw_model.specs.Terms.Reading.{term_of}
use Rattle.mw_model.proofs.Names.{same_object-eq}
use Rattle.mw_heap.specs.Objects.{object_at}
use Rattle.mw_term.specs.Parts.{names_at}
use Rattle.mw_define.proofs.Opened.{opens-constant, named-if}
use Rattle.mw_define.proofs.ReadTerms.{named-call}
use Rattle.mw_define.proofs.opening.open_term.Goals as goal

pub returns-then-is_word-clause-opens : goal.returns-then-is_word-clause-opens
returns-then-is_word-clause-opens c =
    let os = c.args.heap.now.objects in
    let is : object_at os c.in-Pair.head ≡ symbol "QUOTE" = same_object-eq (object_at os c.in-Pair.head) (symbol "QUOTE") (sym c.is_word.ensures ∙ c.if-is_word.true) in
    let whole = c.in-Pair.ensures.shows.2 ∙ ap (λ f. Pair f (object_at os c.in-Pair.arguments)) is in
    opens-constant (names_at os c.args.names.now.keys) os c.args.x c.args.tests c.args.waiting.now.items (object_at os c.in-Pair.arguments) c.requires.read.0 whole c.requires.read.1

pub open_if-requires-clause-three : goal.open_if-requires-clause-three
open_if-requires-clause-three c =
    let os = c.args.heap.now.objects in
    let is : object_at os c.in-Pair.head ≡ symbol "IF" = same_object-eq (object_at os c.in-Pair.head) (symbol "IF") (sym c.is_word-2.ensures ∙ c.if-is_word-2.true) in
    named-if (object_at os c.in-Pair.head) (object_at os c.in-Pair.arguments) c.requires.read.0 is (sym (ap term_of c.in-Pair.ensures.shows.2) ∙ c.requires.read.1)

pub returns-then-is_word-2-clause-opens : goal.returns-then-is_word-2-clause-opens
returns-then-is_word-2-clause-opens c =
    let os = c.args.heap.now.objects in
    let is : object_at os c.in-Pair.head ≡ symbol "IF" = same_object-eq (object_at os c.in-Pair.head) (symbol "IF") (sym c.is_word-2.ensures ∙ c.if-is_word-2.true) in
    on_ok_weaker c.open_if.result (λ opens. opens (names_at os c.args.names.now.keys) c.args.x (c.in-Pair.ensures.shows.2 ∙ ap (λ f. Pair f (object_at os c.in-Pair.arguments)) is)) c.open_if.ensures.opens

pub open_call-requires-clause-read : goal.open_call-requires-clause-read
open_call-requires-clause-read c =
    let os = c.args.heap.now.objects in
    let p = named-call (object_at os c.in-Pair.head) (object_at os c.in-Pair.arguments) c.requires.read.0 c.in-Symbol.ensures.shows (sym c.is_word.ensures ∙ c.if-is_word.false) (sym c.is_word-2.ensures ∙ c.if-is_word-2.false) (sym (ap term_of c.in-Pair.ensures.shows.2) ∙ c.requires.read.1) in
    (p.0, p.1, sym (ap term_of c.in-Pair.ensures.shows.2) ∙ c.requires.read.1 ∙ ap Some p.2)
