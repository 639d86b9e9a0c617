-- The subcommands that take no name, one after another.
use Rattle.std.proofs.Common.{◌∙◌, refl, sym}
use Rattle.mw_request.proofs.Requests.{name_asks}
use Rattle.mw_request.proofs.words.request_by_numbers.Goals as goal

pub returns-then-eq : goal.returns-then-eq
returns-then-eq c theorem h = c.check_with.ensures ∙ name_asks c.args.word.now _ _ _ _ _ _ _ _ c.args.steps c.args.events theorem (sym c.if-eq.true ∙ c.eq.ensures) refl refl refl refl refl refl refl

pub returns-then-eq-2 : goal.returns-then-eq-2
returns-then-eq-2 c theorem h = c.trial_with.ensures ∙ name_asks c.args.word.now _ _ _ _ _ _ _ _ c.args.steps c.args.events theorem (sym c.if-eq.false ∙ c.eq.ensures) (sym c.if-eq-2.true ∙ c.eq-2.ensures) refl refl refl refl refl refl

pub returns-then-eq-3 : goal.returns-then-eq-3
returns-then-eq-3 c theorem h = name_asks c.args.word.now _ _ _ _ _ _ _ _ c.args.steps c.args.events theorem (sym c.if-eq.false ∙ c.eq.ensures) (sym c.if-eq-2.false ∙ c.eq-2.ensures) (sym c.if-eq-3.true ∙ c.eq-3.ensures) refl refl refl refl refl

pub returns-then-eq-4 : goal.returns-then-eq-4
returns-then-eq-4 c theorem h = c.lower_with.ensures ∙ name_asks c.args.word.now _ _ _ _ _ _ _ _ c.args.steps c.args.events theorem (sym c.if-eq.false ∙ c.eq.ensures) (sym c.if-eq-2.false ∙ c.eq-2.ensures) (sym c.if-eq-3.false ∙ c.eq-3.ensures) (sym c.if-eq-4.true ∙ c.eq-4.ensures) refl refl refl refl

pub returns-then-eq-5 : goal.returns-then-eq-5
returns-then-eq-5 c theorem h = c.flat_with.ensures ∙ name_asks c.args.word.now _ _ _ _ _ _ _ _ c.args.steps c.args.events theorem (sym c.if-eq.false ∙ c.eq.ensures) (sym c.if-eq-2.false ∙ c.eq-2.ensures) (sym c.if-eq-3.false ∙ c.eq-3.ensures) (sym c.if-eq-4.false ∙ c.eq-4.ensures) (sym h) (sym c.if-eq-5.true ∙ c.eq-5.ensures) refl refl

pub returns-then-eq-6 : goal.returns-then-eq-6
returns-then-eq-6 c theorem h = name_asks c.args.word.now _ _ _ _ _ _ _ _ c.args.steps c.args.events theorem (sym c.if-eq.false ∙ c.eq.ensures) (sym c.if-eq-2.false ∙ c.eq-2.ensures) (sym c.if-eq-3.false ∙ c.eq-3.ensures) (sym c.if-eq-4.false ∙ c.eq-4.ensures) (sym h) (sym c.if-eq-5.false ∙ c.eq-5.ensures) (sym c.if-eq-6.true ∙ c.eq-6.ensures) refl

pub returns-then-eq-7 : goal.returns-then-eq-7
returns-then-eq-7 c theorem h = c.explain_with.ensures ∙ name_asks c.args.word.now _ _ _ _ _ _ _ _ c.args.steps c.args.events theorem (sym c.if-eq.false ∙ c.eq.ensures) (sym c.if-eq-2.false ∙ c.eq-2.ensures) (sym c.if-eq-3.false ∙ c.eq-3.ensures) (sym c.if-eq-4.false ∙ c.eq-4.ensures) (sym h) (sym c.if-eq-5.false ∙ c.eq-5.ensures) (sym c.if-eq-6.false ∙ c.eq-6.ensures) (sym c.if-eq-7.true ∙ c.eq-7.ensures)

pub returns : goal.returns
returns c theorem h = name_asks c.args.word.now _ _ _ _ _ _ _ _ c.args.steps c.args.events theorem (sym c.if-eq.false ∙ c.eq.ensures) (sym c.if-eq-2.false ∙ c.eq-2.ensures) (sym c.if-eq-3.false ∙ c.eq-3.ensures) (sym c.if-eq-4.false ∙ c.eq-4.ensures) (sym h) (sym c.if-eq-5.false ∙ c.eq-5.ensures) (sym c.if-eq-6.false ∙ c.eq-6.ensures) (sym c.if-eq-7.false ∙ c.eq-7.ensures)
