use Rattle.std.proofs.Common.{◌∙◌, ap, codes, arith}
use Rattle.std.specs.Str.{bytes_eq}
use Rattle.mw_request.proofs.Requests.{one_word}
use Rattle.mw_request.proofs.words.is_help.Goals as goal

pub returns-in-len1 : goal.returns-in-len1
returns-in-len1 c = c.eq.ensures ∙ ap (λ t. bytes_eq t (codes "--help")) c.as_str.ensures
    ∙ one_word c.args.words.now c.word-item.result (omega (arith, c.in-len1.len_at_least, c.in-len1.len_below)) c.word-item.is
