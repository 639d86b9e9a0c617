use Rattle.std.proofs.Common.{◌≡◌, ◌++◌, sym, subst, true, false, arith, length-append, IfOk}
use Rattle.mw_model.specs.Texts.Lexemes.{is_constituent, token_form}
use Rattle.std.specs.List.{list_all}
use Rattle.mw_read.specs.Machine.{State, on, is_full}
use Rattle.mw_read.specs.Held.{Holds, Took}
use Rattle.mw_read.specs.Lexing.{token_lexeme}
use Rattle.mw_read.proofs.Bare.{kept_is}
use Rattle.mw_read.proofs.parser.Parser.end_token.Goals as goal
use Rattle.mw_read.proofs.parser.Parser.end_token.Goals.{After-whole_text-token}

-- the token is what was kept and these bytes
whole : (g : _) (c : goal.After-whole_text-token g) → c.whole_text-token.result.now ≡ c.args.self.now.token.items ++ c.args.bytes.now
whole g c =
    kept_is c.args.self.now.token.items c.keep_after.new.kept.items c.deref.result.now c.args.bytes.now c.whole_text-token.result.now
    c.in_ok-keep_after.ensures.some c.in_ok-keep_after.ensures.none c.deref.ensures.value c.whole_text-token.ensures.kept c.whole_text-token.ensures.none

pub end_token-requires-clause-token : goal.end_token-requires-clause-token
end_token-requires-clause-token g c = subst (λ u. list_all is_constituent u ≡ true) (sym (whole g (goal.at.end_token-requires-clause-token g c).After-whole_text-token)) c.requires.token

pub returns-clause-took : goal.returns-clause-took
returns-clause-took g c =
    subst (λ u. IfOk c.end_token.result (λ r. (t : State) → Holds c.args.heap.now.objects c.args.self.now.stack t → is_full t ≡ false → Took c.end_token.new.heap.objects c.end_token.new.stack r (on t (token_lexeme c.args.self.now.start c.args.glued (token_form u)))))
    (whole g (goal.at.returns-clause-took g c).After-whole_text-token) c.end_token.ensures.took

pub returns-in_err-keep_after-clause-start : goal.returns-in_err-keep_after-clause-start
returns-in_err-keep_after-clause-start g c = omega (arith, length-append c.args.self.now.token.items c.args.bytes.now, c.len.ensures, c.args.self.now.token.ok.0)

pub returns-clause-start : goal.returns-clause-start
returns-clause-start g c = omega (arith, length-append c.args.self.now.token.items c.args.bytes.now, c.len.ensures, c.args.self.now.token.ok.0)
