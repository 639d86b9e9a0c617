-- What is noted of the step says nothing of the book.
use Rattle.std.proofs.Common.{ℕ, List, Option, None, sym, ◌∙◌, subst}
use Rattle.mw_model.specs.Terms.Object.{Object}
use Rattle.mw_read.specs.Standing.{Finishes, lasting}
use Rattle.mw_read.specs.declared.parser.Parser.{Parser}
use Rattle.mw_read.specs.declared.step.Step.{Step}
use Rattle.mw_read.specs.declared.step.Step.TheVariants as steps
use Rattle.mw_read.proofs.Noting.{last_noted}
use Rattle.mw_read.proofs.parser.Parser.finish.Goals as goal

finishes_noted : (os : List Object) (old p : Parser) (g : List ℕ) (given : List Object) (s : Step) → Finishes os old g given s (record p { ended = None }) → Finishes os old g given s (record p { ended = lasting s })
finishes_noted os old p g given (steps.Datum r) f = f
finishes_noted os old p g given (steps.TooBig w l) f = f
finishes_noted os old p g given steps.More f = f
finishes_noted os old p g given steps.End f = f
finishes_noted os old p g given (steps.Syntax k o) f = f
finishes_noted os old p g given steps.Memory f = f

pub returns-clause-finishes : goal.returns-clause-finishes
returns-clause-finishes c g given h =
    let p = c.read_end-step.new.self in
    let s = c.read_end-step.result in
    let os = c.read_end-step.new.heap.objects in
    subst (λ (e : Option Step). Finishes os c.args.self.now g given s (record p { ended = e })) (sym c.lasting-self.ensures) (finishes_noted os c.args.self.now p g given s (c.read_end-step.ensures.finishes g given h))

pub returns-clause-ended : goal.returns-clause-ended
returns-clause-ended c l = c.lasting-self.ensures ∙ last_noted c.read_end-step.result l
