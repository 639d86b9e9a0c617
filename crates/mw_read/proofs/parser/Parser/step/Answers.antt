-- What is noted of the step says nothing of the book.
use Rattle.std.proofs.Common.{ℕ, List, Option, None, sym, ◌∙◌, subst}
use Rattle.mw_model.specs.Terms.Object.{Object}
use Rattle.mw_read.specs.Standing.{Says, lasting}
use Rattle.mw_read.specs.declared.parser.Parser.{Parser}
use Rattle.mw_read.specs.declared.step.Step.{Step}
use Rattle.mw_read.specs.declared.step.Step.TheVariants as steps
use Rattle.mw_read.proofs.Noting.{last_noted}
use Rattle.mw_read.proofs.parser.Parser.step.Goals as goal

says_noted : (os : List Object) (old p : Parser) (g : List ℕ) (given : List Object) (piece : List ℕ) (s : Step) (n : ℕ) → Says os old g given piece s n (record p { ended = None }) → Says os old g given piece s n (record p { ended = lasting s })
says_noted os old p g given piece (steps.Datum r) n f = f
says_noted os old p g given piece (steps.TooBig w l) n f = f
says_noted os old p g given piece steps.More n f = f
says_noted os old p g given piece steps.End n f = f
says_noted os old p g given piece (steps.Syntax k o) n f = f
says_noted os old p g given piece steps.Memory n f = f

pub returns-clause-says : goal.returns-clause-says
returns-clause-says c g given h =
    let p = c.read-step.new.self in
    let os = c.read-step.new.heap.objects in
    subst (λ (e : Option Step). Says os c.args.self.now g given c.args.piece.now c.read-step.result.0 c.read-step.result.1 (record p { ended = e })) (sym c.lasting-self.ensures) (says_noted os c.args.self.now p g given c.args.piece.now c.read-step.result.0 c.read-step.result.1 (c.read-step.ensures.says g given h))

pub returns-clause-ended : goal.returns-clause-ended
returns-clause-ended c l = c.lasting-self.ensures ∙ last_noted c.read-step.result.0 l
