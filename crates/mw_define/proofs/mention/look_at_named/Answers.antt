-- A constant, an IF, a call of the block or another call.
use Rattle.std.proofs.Common.{◌≡◌, Some, sym, ap, ◌∙◌}
use Rattle.mw_model.specs.Terms.Object.{Pair, symbol}
use Rattle.mw_model.specs.Terms.Term.{is_among}
use Rattle.mw_model.specs.Terms.Reading.{term_of, terms_of}
use Rattle.mw_model.specs.Values.Primitive.{name_of}
use Rattle.mw_model.proofs.Names.{same_object-eq}
use Rattle.mw_heap.specs.Objects.{object_at}
use Rattle.mw_term.specs.Parts.{names_at}
use Rattle.mw_define.proofs.ReadTerms.{if-is, named-call}
use Rattle.mw_define.proofs.Mentioned.{splits-constant, splits-call, if-mentions, call-mentions, other-mentions, term-mentions}
use Rattle.mw_define.proofs.mention.look_at_named.Goals as goal

pub returns-then-is_word : goal.returns-then-is_word
returns-then-is_word c x whole =
    let os = c.args.heap.now.objects in
    let is : object_at os c.args.name ≡ symbol "QUOTE" = same_object-eq (object_at os c.args.name) (symbol "QUOTE") (sym c.is_word.ensures ∙ c.if-is_word.true) in
    let word = whole ∙ ap (λ f. Pair f (object_at os c.args.arguments)) is in
    splits-constant (names_at os c.args.names.now.keys) os x c.args.waiting.now.items (object_at os c.args.arguments) c.requires.read.0 word (ap term_of whole ∙ c.requires.read.1)

pub returns-then-is_word-2 : goal.returns-then-is_word-2
returns-then-is_word-2 c x whole =
    let os = c.args.heap.now.objects in
    let r = object_at os c.args.arguments in
    let is : object_at os c.args.name ≡ symbol "IF" = same_object-eq (object_at os c.args.name) (symbol "IF") (sym c.is_word-2.ensures ∙ c.if-is_word-2.true) in
    let word = whole ∙ ap (λ f. Pair f r) is in
    let p = if-is (terms_of r) c.requires.read.0 (sym (ap term_of word) ∙ ap term_of whole ∙ c.requires.read.1) in
    splits-call (names_at os c.args.names.now.keys) os x c.args.waiting.now.items c.args.arguments _ _ c.push.new.self.items c.requires.within p.3 (ap term_of whole ∙ c.requires.read.1 ∙ ap Some p.4) (λ B n. if-mentions B p.0 p.1 p.2) c.in_ok-push.ensures.items

pub returns-then-is_among_symbols : goal.returns-then-is_among_symbols
returns-then-is_among_symbols c x whole B n =
    let os = c.args.heap.now.objects in
    let f = object_at os c.args.name in
    let p = named-call f (object_at os c.args.arguments) c.requires.read.0 c.requires.symbol (sym c.is_word.ensures ∙ c.if-is_word.false) (sym c.is_word-2.ensures ∙ c.if-is_word-2.false) c.requires.read.1 in
    term-mentions B os x _ (ap term_of whole ∙ c.requires.read.1 ∙ ap Some p.2) ∙ call-mentions B (name_of f) p.0 (ap (is_among (name_of f)) n ∙ (sym c.is_among_symbols.ensures.among ∙ c.if-is_among_symbols.true))

pub returns : goal.returns
returns c x whole =
    let os = c.args.heap.now.objects in
    let f = object_at os c.args.name in
    let p = named-call f (object_at os c.args.arguments) c.requires.read.0 c.requires.symbol (sym c.is_word.ensures ∙ c.if-is_word.false) (sym c.is_word-2.ensures ∙ c.if-is_word-2.false) c.requires.read.1 in
    splits-call (names_at os c.args.names.now.keys) os x c.args.waiting.now.items c.args.arguments p.0 _ c.push-2.new.self.items c.requires.within p.1 (ap term_of whole ∙ c.requires.read.1 ∙ ap Some p.2)
    (λ B n. other-mentions B (name_of f) p.0 (ap (is_among (name_of f)) n ∙ (sym c.is_among_symbols.ensures.among ∙ c.if-is_among_symbols.false))) c.in_ok-push-2.ensures.items
