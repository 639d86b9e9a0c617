-- A form goes on by its word.
use Rattle.std.proofs.Common.{◌≡◌, ◌+◌, List, Option, Result, IfOk, sym, ap, ap₂, ◌∙◌, refl, arith}
use Rattle.mw_model.specs.Terms.Object.{Object, Pair}
use Rattle.mw_model.specs.Values.Primitive.{name_of}
use Rattle.mw_model.specs.Events.Expansion.{Abbreviation, AND, OR, COND, LIST, LET, LETSTAR, FIRST, SECOND, THIRD, FOURTH, FIFTH, QUOTE, Other, and_term, or_term, list_term}
use Rattle.mw_heap.specs.Objects.{object_at}
use Rattle.mw_heap.proofs.Objects.{Grows-refl}
use Rattle.mw_term.proofs.Symbols.{symbol_is}
use Rattle.mw_translate.specs.Words.{abbreviation}
use Rattle.mw_translate.specs.Contexts.{arities, entries}
use Rattle.mw_translate.specs.Forms.{place_of}
use Rattle.mw_translate.specs.Parts.{part_at}
use Rattle.mw_translate.specs.Meaning.{Meaning, meaning, of_term}
use Rattle.mw_translate.specs.Memo.{IsStep, IsStepOf}
use Rattle.mw_translate.specs.declared.part.Kind.TheVariants as kind
use Rattle.mw_translate.specs.declared.progress.Progress.{Progress}
use Rattle.mw_translate.proofs.Combine.{forward-step, result_same}
use Rattle.mw_translate.proofs.Forms.{by_word, form_meaning, all_part, some_part, no_quote, quote_is, quote-step}
use Rattle.mw_translate.proofs.terms.step_form.Goals.{After-abbreviation_named}
use Rattle.mw_translate.proofs.terms.step_form.Goals as goal

-- the form is of this word
module _ (c : After-abbreviation_named) (w : Abbreviation) (is : abbreviation c.abbreviation_named.result ≡ w) where
  word_meaning : meaning (arities c.args.context.now) kind.Term (object_at c.args.heap.now.objects c.args.x) ≡ of_term (arities c.args.context.now) (by_word w (name_of (object_at c.args.heap.now.objects c.args.head)) (object_at c.args.heap.now.objects c.args.rest))
  word_meaning =
      let os = c.args.heap.now.objects in
      let f = object_at os c.args.head in
      form_meaning (arities c.args.context.now) (object_at os c.args.x) f (object_at os c.args.rest) (name_of f) (symbol_is f c.requires.symbol) c.requires.form w (sym c.abbreviation_named.ensures ∙ is)

  -- it goes on as what follows the word
  word_step : {E : Type 0} (new : List Object) (same : Option Meaning) (r : Result Progress E) → of_term (arities c.args.context.now) (by_word w (name_of (object_at c.args.heap.now.objects c.args.head)) (object_at c.args.heap.now.objects c.args.rest)) ≡ same → IfOk r (IsStep (arities c.args.context.now) c.args.heap.now.objects new (entries c.args.context.now) same (c.args.rest + 1)) → IfOk r (IsStepOf (arities c.args.context.now) c.args.heap.now.objects new (entries c.args.context.now) kind.Term c.args.x)
  word_step new same r e h =
      let os = c.args.heap.now.objects in
      let A = arities c.args.context.now in
      result_same A os new (entries c.args.context.now) (meaning A kind.Term (object_at os c.args.x)) same (c.args.rest + 1) c.args.x r (word_meaning ∙ e) (omega (arith, c.requires.rest_before)) h

pub step_call-requires-clause-no_quote : goal.step_call-requires-clause-no_quote
step_call-requires-clause-no_quote c = no_quote (name_of (object_at c.args.heap.now.objects c.args.head)) (sym c.abbreviation_named.ensures ∙ ap abbreviation c.in-Other.is)

pub returns-in-Quote-clause-grows : goal.returns-in-Quote-clause-grows
returns-in-Quote-clause-grows c = Grows-refl c.args.heap.now.objects

pub returns-in-And-clause-grows : goal.returns-in-And-clause-grows
returns-in-And-clause-grows c = Grows-refl c.args.heap.now.objects

pub returns-in-Or-clause-grows : goal.returns-in-Or-clause-grows
returns-in-Or-clause-grows c = Grows-refl c.args.heap.now.objects

pub returns-in-List-clause-grows : goal.returns-in-List-clause-grows
returns-in-List-clause-grows c = Grows-refl c.args.heap.now.objects

pub returns-in-Cond-clause-grows : goal.returns-in-Cond-clause-grows
returns-in-Cond-clause-grows c = Grows-refl c.args.heap.now.objects

pub returns-in-Quote-clause-step : goal.returns-in-Quote-clause-step
returns-in-Quote-clause-step c =
    let os = c.args.heap.now.objects in
    let f = object_at os c.args.head in
    let A = arities c.args.context.now in
    let is = ap abbreviation c.in-Quote.is in
    quote-step A os (entries c.args.context.now) (meaning A kind.Term (object_at os c.args.x)) c.args.x c.args.rest (name_of f) c.step_quote.result
    (quote_is (name_of f) (sym c.abbreviation_named.ensures ∙ is)) c.requires.within (c.requires.form ∙ ap₂ Pair (symbol_is f c.requires.symbol) refl)
    (word_meaning (goal.at.returns-in-Quote-clause-step c).After-abbreviation_named QUOTE is) c.step_quote.ensures

pub returns-in-And-clause-step : goal.returns-in-And-clause-step
returns-in-And-clause-step c =
    let os = c.args.heap.now.objects in
    let A = arities c.args.context.now in
    let e = word_meaning (goal.at.returns-in-And-clause-step c).After-abbreviation_named AND (ap abbreviation c.in-And.is) ∙ all_part A AND (name_of (object_at os c.args.head)) (object_at os c.args.rest) and_term (λ ts. refl) in
    forward-step A os (entries c.args.context.now) (meaning A kind.Term (object_at os c.args.x)) c.args.x (refl {a = part_at kind.And c.args.rest}) c.forward_to.result c.requires.made e c.requires.rest_before c.forward_to.ensures

pub returns-in-Or-clause-step : goal.returns-in-Or-clause-step
returns-in-Or-clause-step c =
    let os = c.args.heap.now.objects in
    let A = arities c.args.context.now in
    let e = word_meaning (goal.at.returns-in-Or-clause-step c).After-abbreviation_named OR (ap abbreviation c.in-Or.is) ∙ all_part A OR (name_of (object_at os c.args.head)) (object_at os c.args.rest) or_term (λ ts. refl) in
    forward-step A os (entries c.args.context.now) (meaning A kind.Term (object_at os c.args.x)) c.args.x (refl {a = part_at kind.Or c.args.rest}) c.forward_to-in-Or.result c.requires.made e c.requires.rest_before c.forward_to-in-Or.ensures

pub returns-in-List-clause-step : goal.returns-in-List-clause-step
returns-in-List-clause-step c =
    let os = c.args.heap.now.objects in
    let A = arities c.args.context.now in
    let e = word_meaning (goal.at.returns-in-List-clause-step c).After-abbreviation_named LIST (ap abbreviation c.in-List.is) ∙ all_part A LIST (name_of (object_at os c.args.head)) (object_at os c.args.rest) list_term (λ ts. refl) in
    forward-step A os (entries c.args.context.now) (meaning A kind.Term (object_at os c.args.x)) c.args.x (refl {a = part_at kind.List c.args.rest}) c.forward_to-in-List.result c.requires.made e c.requires.rest_before c.forward_to-in-List.ensures

pub returns-in-Cond-clause-step : goal.returns-in-Cond-clause-step
returns-in-Cond-clause-step c =
    let os = c.args.heap.now.objects in
    let A = arities c.args.context.now in
    let e = word_meaning (goal.at.returns-in-Cond-clause-step c).After-abbreviation_named COND (ap abbreviation c.in-Cond.is) in
    forward-step A os (entries c.args.context.now) (meaning A kind.Term (object_at os c.args.x)) c.args.x (refl {a = part_at kind.Cond c.args.rest}) c.forward_to-in-Cond.result c.requires.made e c.requires.rest_before c.forward_to-in-Cond.ensures

pub returns-in-Let-clause-step : goal.returns-in-Let-clause-step
returns-in-Let-clause-step c = word_step (goal.at.returns-in-Let-clause-step c).After-abbreviation_named LET (ap abbreviation c.in-Let.is) c.step_let.new.heap.objects _ c.step_let.result refl c.step_let.ensures.step

pub returns-in-LetStar-clause-step : goal.returns-in-LetStar-clause-step
returns-in-LetStar-clause-step c = word_step (goal.at.returns-in-LetStar-clause-step c).After-abbreviation_named LETSTAR (ap abbreviation c.in-LetStar.is) c.step_let-in-LetStar.new.heap.objects _ c.step_let-in-LetStar.result refl c.step_let-in-LetStar.ensures.step

pub returns-in-First-clause-step : goal.returns-in-First-clause-step
returns-in-First-clause-step c =
    let part = some_part (arities c.args.context.now) FIRST (name_of (object_at c.args.heap.now.objects c.args.head)) (object_at c.args.heap.now.objects c.args.rest) (place_of 0) (λ ts. refl) in
    word_step (goal.at.returns-in-First-clause-step c).After-abbreviation_named FIRST (ap abbreviation c.in-First.is) c.step_place.new.heap.objects _ c.step_place.result part c.step_place.ensures.step

pub returns-in-Second-clause-step : goal.returns-in-Second-clause-step
returns-in-Second-clause-step c =
    let part = some_part (arities c.args.context.now) SECOND (name_of (object_at c.args.heap.now.objects c.args.head)) (object_at c.args.heap.now.objects c.args.rest) (place_of 1) (λ ts. refl) in
    word_step (goal.at.returns-in-Second-clause-step c).After-abbreviation_named SECOND (ap abbreviation c.in-Second.is) c.step_place-in-Second.new.heap.objects _ c.step_place-in-Second.result part c.step_place-in-Second.ensures.step

pub returns-in-Third-clause-step : goal.returns-in-Third-clause-step
returns-in-Third-clause-step c =
    let part = some_part (arities c.args.context.now) THIRD (name_of (object_at c.args.heap.now.objects c.args.head)) (object_at c.args.heap.now.objects c.args.rest) (place_of 2) (λ ts. refl) in
    word_step (goal.at.returns-in-Third-clause-step c).After-abbreviation_named THIRD (ap abbreviation c.in-Third.is) c.step_place-in-Third.new.heap.objects _ c.step_place-in-Third.result part c.step_place-in-Third.ensures.step

pub returns-in-Fourth-clause-step : goal.returns-in-Fourth-clause-step
returns-in-Fourth-clause-step c =
    let part = some_part (arities c.args.context.now) FOURTH (name_of (object_at c.args.heap.now.objects c.args.head)) (object_at c.args.heap.now.objects c.args.rest) (place_of 3) (λ ts. refl) in
    word_step (goal.at.returns-in-Fourth-clause-step c).After-abbreviation_named FOURTH (ap abbreviation c.in-Fourth.is) c.step_place-in-Fourth.new.heap.objects _ c.step_place-in-Fourth.result part c.step_place-in-Fourth.ensures.step

pub returns-in-Fifth-clause-step : goal.returns-in-Fifth-clause-step
returns-in-Fifth-clause-step c =
    let part = some_part (arities c.args.context.now) FIFTH (name_of (object_at c.args.heap.now.objects c.args.head)) (object_at c.args.heap.now.objects c.args.rest) (place_of 4) (λ ts. refl) in
    word_step (goal.at.returns-in-Fifth-clause-step c).After-abbreviation_named FIFTH (ap abbreviation c.in-Fifth.is) c.step_place-in-Fifth.new.heap.objects _ c.step_place-in-Fifth.result part c.step_place-in-Fifth.ensures.step

pub returns-in-Other-clause-step : goal.returns-in-Other-clause-step
returns-in-Other-clause-step c = word_step (goal.at.returns-in-Other-clause-step c).After-abbreviation_named Other (ap abbreviation c.in-Other.is) c.step_call.new.heap.objects _ c.step_call.result refl c.step_call.ensures.step
