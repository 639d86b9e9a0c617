use Rattle.std.proofs.Common.{◌∙◌, [], Some, sym, ap, subst, refl}
use Rattle.mw_model.specs.Texts.Lexemes.{fault, END}
use Rattle.mw_model.specs.Texts.Grammar.{book}
use Rattle.mw_read.specs.Parsing.{IsStarted}
use Rattle.mw_read.specs.Standing.{Lasts}
use Rattle.mw_read.proofs.Holding.{sound_clamp}
use Rattle.mw_read.proofs.Beginning.{if_ok_more}
use Rattle.mw_read.proofs.Reading.{begun_text, begun_free}
use Rattle.mw_read.proofs.Ending.{token_lasts, bars_lasts, bars_end, hash_end}
use Rattle.mw_read.proofs.parser.Parser.last.Goals as goal

pub returns-in-Token-clause-lasts : goal.returns-in-Token-clause-lasts
returns-in-Token-clause-lasts c =
    let a = c.args.self.now in
    let text = begun_text c.requires.parser c.in-Token.is in
    let some = subst (λ m. IsStarted m a.token.items) c.in-Token.is c.requires.started in
    if_ok_more _ _ c.end_token.result
    (λ r q t h.
    let full = begun_free c.requires.parser c.in-Token.is refl h in
    token_lasts c.end_token.new.heap.objects t a c.end_token.new.self full (sound_clamp c.args.heap.now.objects a.stack t h.means) some c.in-Token.is text c.end_token.ensures.begun c.end_token.ensures.start r (q t h full)) c.end_token.ensures.took

pub returns-in-Barred-clause-lasts : goal.returns-in-Barred-clause-lasts
returns-in-Barred-clause-lasts c =
    let a = c.args.self.now in
    let text = begun_text c.requires.parser c.in-Barred.is in
    if_ok_more _ _ c.end_bars.result
    (λ r q t h.
    let full = begun_free c.requires.parser c.in-Barred.is refl h in
    bars_lasts c.end_bars.new.heap.objects t a c.end_bars.new.self full (sound_clamp c.args.heap.now.objects a.stack t h.means) text.1 c.in-Barred.is text.0 c.end_bars.ensures.begun c.end_bars.ensures.start r (q t h)) c.end_bars.ensures.took

pub returns-in-Bars-clause-lasts : goal.returns-in-Bars-clause-lasts
returns-in-Bars-clause-lasts c t h =
    let a = c.args.self.now in
    let os = c.args.heap.now.objects in
    let text = begun_text c.requires.parser c.in-Bars.is in
    let full = begun_free c.requires.parser c.in-Bars.is refl h in
    subst (λ r. Lasts os t a r a) (sym c.fault.ensures) (bars_end t a c.in-Bars.is text full (sound_clamp os a.stack t h.means) ∙ ap (λ o. book [] (Some (fault END o))) (sym c.offset.ensures))

pub returns-in-Hash-clause-lasts : goal.returns-in-Hash-clause-lasts
returns-in-Hash-clause-lasts c t h =
    let a = c.args.self.now in
    let os = c.args.heap.now.objects in
    let text = begun_text c.requires.parser c.in-Hash.is in
    let full = begun_free c.requires.parser c.in-Hash.is refl h in
    subst (λ r. Lasts os t a r a) (sym c.fault-in-Hash.ensures) (hash_end t a c.in-Hash.is text.0 text.1 full (sound_clamp os a.stack t h.means) ∙ ap (λ o. book [] (Some (fault END o))) (sym c.offset-in-Hash.ensures))
