use Rattle.std.proofs.Common.{◌∙◌, refl, sym}
use Rattle.mw_model.specs.Texts.Lexemes.{Quote}
use Rattle.mw_read.specs.Machine.{Quoting}
use Rattle.mw_read.specs.declared.stack.Layer.TheVariants as layers
use Rattle.mw_read.proofs.Opening.{frame_begins}
use Rattle.mw_read.proofs.Turns.{frames_may}
use Rattle.mw_read.proofs.stack.Stack.quote.Goals as goal

pub returns-clause-turn : goal.returns-clause-turn
returns-clause-turn c os s =
    let a = c.args.self.now in
    frame_begins os a (record a { layers = c.push.new.self }) layers.Quote Quoting (Quote c.args.offset) c.args.offset s (sym (c.is_full.ensures os s) ∙ c.if-is_full.false) c.in_ok-push.ensures.items refl
    (λ p i. (frames_may p i).1.0) tt (λ s. refl) refl (λ s js. refl)
