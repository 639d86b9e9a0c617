use Rattle.std.proofs.Common.{refl, arith, nat_eq, get_or}
use Rattle.mw_model.specs.Texts.Lexemes.{is_constituent}
use Rattle.mw_lex.specs.declared.class.TheConstants.{CONSTITUENTS}
use Rattle.mw_lex.proofs.Bytewise.{agree_below, agree_at}
use Rattle.mw_lex.proofs.class.constituent.Goals as goal

pub returns : goal.returns
unfolding agree_below
returns c = agree_at (λ b. nat_eq (get_or CONSTITUENTS b 0) 49) is_constituent 256 c.args.b refl (omega arith)
