-- Comments between data, and the comment at the end, leave a text of data the text that it is.
use Rattle.std.proofs.Common.{◌≡◌, ℕ, true, List, [], ◌∷◌, ◌++◌, append-nil, Option, Some, None, codes, refl, sym, ap, subst, append_assoc}
use Rattle.mw_model.specs.Terms.Object.{Object}
use Rattle.mw_model.specs.Texts.Lexemes.{Fault}
use Rattle.mw_model.specs.Texts.Printing.{numeral}
use Rattle.mw_model.specs.Reports.Report.{spaced, kind_word}
use Rattle.mw_model.specs.Texts.Written.{IsBookText, no_lines, comment_line}
use Rattle.mw_model.specs.Texts.Pieces.{comment, comment_ending}
use Rattle.mw_commands.proofs.LexingLines.{no_newline}
use Rattle.mw_commands.proofs.OneLine.{spaced_line, numeral_line, kind_line}

pub comment_reads : (xs : List Object) (c text : List ℕ) → no_newline c ≡ true → IsBookText xs text → IsBookText xs (comment c ++ text)
comment_reads xs c text h r = subst (IsBookText xs) (ap (λ z. 59 ∷ 32 ∷ z) (sym (append_assoc c (10 ∷ []) text))) (comment_line xs (32 ∷ c) text h r)

pub last_comment : (c : List ℕ) → no_newline c ≡ true → IsBookText [] (comment c)
last_comment c h = subst (IsBookText []) (ap (λ z. 59 ∷ 32 ∷ z) (append-nil (c ++ 10 ∷ []))) (comment_reads [] c [] h no_lines)

pub ending_reads : (fault : Option Fault) (summary : List ℕ) → no_newline summary ≡ true → IsBookText [] (comment_ending fault summary)
ending_reads None summary h = last_comment summary h
ending_reads (Some f) summary h =
    let place = spaced (kind_word f.kind) (spaced (codes "at") (numeral f.offset)) in
    last_comment (spaced (codes "syntax") place) (spaced_line (codes "syntax") place refl (spaced_line (kind_word f.kind) (spaced (codes "at") (numeral f.offset)) (kind_line f.kind) (spaced_line (codes "at") (numeral f.offset) refl (numeral_line f.offset))))
