use Rattle.std.proofs.Common.{◌∙◌, ◌+◌, ap, subst, inl, drop, get_or, length, append-nil}
use Rattle.mw_model.specs.Terms.Object.{Symbol, name_of_bytes}
use Rattle.mw_model.specs.Texts.Lexemes.{Atom}
use Rattle.mw_read.specs.Resume.{resume}
use Rattle.mw_read.specs.Machine.{on}
use Rattle.mw_read.specs.Held.{Took}
use Rattle.mw_read.specs.Parsing.{ahead, IsText, IsStarted}
use Rattle.mw_read.proofs.Bare.{split_at}
use Rattle.mw_read.proofs.Parsing.{bars_whole}
use Rattle.mw_read.proofs.Advancing.{bars_advance}
use Rattle.mw_read.proofs.parser.Parser.advance.Goals as goal

pub in_token-requires-clause-some : goal.in_token-requires-clause-some
in_token-requires-clause-some c = inl (subst (λ m. IsStarted m c.args.self.now.token.items) c.in-Token.is c.requires.started)

pub returns-in-Barred-clause-advances : goal.returns-in-Barred-clause-advances
returns-in-Barred-clause-advances c t h =
    let a = c.args.self.now in
    let rest = c.args.rest.now in
    let text = subst (λ m. IsText m a.token.items) c.in-Barred.is c.requires.parser.text in
    let y = Symbol (name_of_bytes a.token.items) in
    let n = append-nil a.token.items in
    let r = c.in_ok-end_bars-in-Barred.field-0 in
    bars_advance c.end_bars.new.heap.objects t a c.end_bars.new.self rest 0 (get_or rest 0 0) (a.start + 2 + length a.token.items) (drop 1 rest) y r
    (λ f e. split_at rest 0 c.requires.some)
    (λ e z fit. ap (λ m. resume t (ahead e m a.token.items a.start z)) c.in-Barred.is ∙ ap (resume t) (bars_whole e a.start a.token.items z text.1 text.0 fit))
    (subst (λ u. Took c.end_bars.new.heap.objects c.end_bars.new.self.stack r (on t (Atom a.start (Symbol (name_of_bytes u))))) n (c.in_ok-end_bars-in-Barred.ensures.took t h))
    c.end_bars.ensures.begun (c.end_bars.ensures.start ∙ ap (λ u. a.start + 2 + length u) n)
