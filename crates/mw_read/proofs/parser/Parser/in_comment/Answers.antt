use Rattle.std.proofs.Common.{◌∙◌, ◌<◌, ◌+◌, ◌++◌, ◌∷◌, sym, ap, length, take, arith}
use Rattle.mw_model.specs.Texts.Lexemes.{lexemes_from}
use Rattle.mw_read.specs.Resume.{resume}
use Rattle.mw_read.specs.Parsing.{ahead}
use Rattle.mw_read.proofs.Bare.{take_run}
use Rattle.mw_read.proofs.Hashes.{comment_run, comment_line}
use Rattle.mw_read.proofs.parser.Parser.in_comment.Goals as goal

pub returns-then-n-rest-clause-passes : goal.returns-then-n-rest-clause-passes
returns-then-n-rest-clause-passes c e t z =
    let a = c.args.self.now in
    let rest = c.args.rest.now in
    let n = c.line_bytes-n.result in
    ap (λ m. resume t (ahead e m a.token.items a.start (take n rest ++ z))) c.requires.begun
    ∙ ap (resume t) (comment_run e a.start (take n rest) z c.line_bytes-n.ensures.all ∙ ap (λ k. lexemes_from e (a.start + k) 0 (59 ∷ z)) (take_run rest n c.line_bytes-n.ensures.within))
    ∙ sym (ap (λ m. resume t (ahead e m a.token.items (a.start + n) z)) c.requires.begun)

pub returns-clause-passes : goal.returns-clause-passes
returns-clause-passes c e t z =
    let a = c.args.self.now in
    let rest = c.args.rest.now in
    let n = c.line_bytes-n.result in
    let lt : n < length rest = omega (arith, c.line_bytes-n.ensures.within, c.if-n-rest.false) in
    ap (λ m. resume t (ahead e m a.token.items a.start (take (n + 1) rest ++ z))) c.requires.begun
    ∙ ap (resume t) (comment_line e a.start rest n z lt c.line_bytes-n.ensures.all (c.line_bytes-n.ensures.ends lt))
