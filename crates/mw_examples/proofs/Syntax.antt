-- Books that end with a fault of their text.
use Rattle.std.proofs.Common.{[], ◌∷◌, ◌++◌, refl, codes}
use Rattle.mw_model.specs.Texts.Lexemes.{BYTE, CLOSE, DOT, END, LABEL, TOKEN}
use Rattle.mw_model.specs.Events.Refusal.{need, must, unless}
use Rattle.mw_model.specs.Reports.Report.{report, Syntax}
use Rattle.mw_examples.proofs.Reports.{AreReported, example, check}

faults_of_lists_and_dots : AreReported
    (example "end inside a list is a fault" (check "(print 1) (print") ("1 PRINT - accepted 1" ∷ "syntax END at 16" ∷ []) (Syntax END 16)
    ∷ example "closing with no list open is a fault" (check ")") ("syntax CLOSE at 0" ∷ []) (Syntax CLOSE 0)
    ∷ example "closing after a quote is a fault" (check "(print ')") ("syntax CLOSE at 8" ∷ []) (Syntax CLOSE 8)
    ∷ example "two data after a dot are a fault" (check "(a . b c)") ("syntax DOT at 7" ∷ []) (Syntax DOT 7)
    ∷ example "dot first in a list is a fault" (check "(. a)") ("syntax DOT at 1" ∷ []) (Syntax DOT 1)
    ∷ example "closing after a dot is a fault" (check "(a .)") ("syntax DOT at 4" ∷ []) (Syntax DOT 4)
    ∷ [])
unfolding need must unless
faults_of_lists_and_dots = refl

faults_of_tokens : AreReported
    (example "token that begins with a digit is a number" (check "(print 12a)") ("syntax TOKEN at 7" ∷ []) (Syntax TOKEN 7)
    ∷ example "token that begins with a sign and a digit is a number" (check "(print +1)") ("syntax TOKEN at 7" ∷ []) (Syntax TOKEN 7)
    ∷ example "empty name in bars is a fault" (check "(print ||)") ("syntax TOKEN at 7" ∷ []) (Syntax TOKEN 7)
    ∷ example "token after a bar is a fault" (check "(print |a|b)") ("syntax TOKEN at 10" ∷ []) (Syntax TOKEN 10)
    ∷ example "label after a token is a fault" (check "(print a#1#)") ("syntax TOKEN at 8" ∷ []) (Syntax TOKEN 8)
    ∷ example "byte that begins nothing is a fault" (report (codes "(print " ++ 34 ∷ codes "a" ++ 34 ∷ codes ")") 10000000) ("syntax BYTE at 7" ∷ []) (Syntax BYTE 7)
    ∷ [])
unfolding need must unless
faults_of_tokens = refl

faults_of_labels : AreReported
    (example "reference to no label is a fault" (check "(print #1#)") ("syntax LABEL at 7" ∷ []) (Syntax LABEL 7)
    ∷ example "label inside its own datum is not complete" (check "#1=(a . #1#)") ("syntax LABEL at 8" ∷ []) (Syntax LABEL 8)
    ∷ example "label of itself is not complete" (check "#1=#1#") ("syntax LABEL at 3" ∷ []) (Syntax LABEL 3)
    ∷ example "label twice in a datum is a fault" (check "(#1=a #1=b)") ("syntax LABEL at 6" ∷ []) (Syntax LABEL 6)
    ∷ example "label of ten digits is a fault" (check "#0000000001=a") ("syntax LABEL at 0" ∷ []) (Syntax LABEL 0)
    ∷ example "end inside a label is a fault" (check "#1") ("syntax END at 2" ∷ []) (Syntax END 2)
    ∷ [])
unfolding need must unless
faults_of_labels = refl

-- That the run is a dot alone is known only at the byte after it, where both faults are decided: TOKEN is told.
faults_directly_after_a_dot : AreReported
    (example "bar after a dot at top level" (check ".|a|") ("syntax TOKEN at 1" ∷ []) (Syntax TOKEN 1)
    ∷ example "bar after a dot first in a list" (check "(.|a|)") ("syntax TOKEN at 2" ∷ []) (Syntax TOKEN 2)
    ∷ example "label after a dot after a quote" (check "'.#1=a") ("syntax TOKEN at 2" ∷ []) (Syntax TOKEN 2)
    ∷ example "bar after a dot in its place" (check "(a .|b|)") ("syntax TOKEN at 4" ∷ []) (Syntax TOKEN 4)
    ∷ [])
unfolding need must unless
faults_directly_after_a_dot = refl

-- What begins after the datum after a dot is not looked into.
faults_after_a_dotted_datum : AreReported
    (example "dots after a dotted datum" (check "(a . b ..)") ("syntax DOT at 7" ∷ []) (Syntax DOT 7)
    ∷ example "bad number after a dotted datum" (check "(a . b 12a)") ("syntax DOT at 7" ∷ []) (Syntax DOT 7)
    ∷ example "bad label after a dotted datum" (check "(a . b #x)") ("syntax DOT at 7" ∷ []) (Syntax DOT 7)
    ∷ example "empty bars after a dotted datum" (check "(a . b ||)") ("syntax DOT at 7" ∷ []) (Syntax DOT 7)
    ∷ example "label directly after a dotted token" (check "(a . b#1#)") ("syntax TOKEN at 6" ∷ []) (Syntax TOKEN 6)
    ∷ example "token directly after a dotted name in bars" (check "(a . |b|c)") ("syntax TOKEN at 8" ∷ []) (Syntax TOKEN 8)
    ∷ example "forbidden byte after a dotted datum" (report (codes "(a . b " ++ 34 ∷ codes "c" ++ 34 ∷ codes ")") 10000000) ("syntax BYTE at 7" ∷ []) (Syntax BYTE 7)
    ∷ [])
unfolding need must unless
faults_after_a_dotted_datum = refl

-- Of two faults that one byte decides the one at the earlier place is told.
earlier_of_two_faults_is_told : AreReported
    (example "forbidden byte after a dot" (report (codes "." ++ 34 ∷ []) 10000000) ("syntax DOT at 0" ∷ []) (Syntax DOT 0)
    ∷ example "end after a dot first in a list" (check "(.") ("syntax DOT at 1" ∷ []) (Syntax DOT 1)
    ∷ example "forbidden byte after a number sign" (report (codes "#" ++ 34 ∷ []) 10000000) ("syntax LABEL at 0" ∷ []) (Syntax LABEL 0)
    ∷ example "closing after a dot at top level" (check ".)") ("syntax DOT at 0" ∷ []) (Syntax DOT 0)
    ∷ example "closing after a dot first in a list" (check "(.)") ("syntax DOT at 1" ∷ []) (Syntax DOT 1)
    ∷ example "forbidden byte in a label" (report (codes "#1" ++ 34 ∷ []) 10000000) ("syntax LABEL at 0" ∷ []) (Syntax LABEL 0)
    ∷ [])
unfolding need must unless
earlier_of_two_faults_is_told = refl

end_judges_a_token_first : AreReported
    (example "bad number at the end" (check "12a") ("syntax TOKEN at 0" ∷ []) (Syntax TOKEN 0)
    ∷ example "bad number at the end of a list" (check "(12a") ("syntax TOKEN at 1" ∷ []) (Syntax TOKEN 1)
    ∷ example "end after a dot in its place" (check "(a .") ("syntax END at 4" ∷ []) (Syntax END 4)
    ∷ example "end after a number sign" (check "#") ("syntax END at 1" ∷ []) (Syntax END 1)
    ∷ example "end after nine digits of a label" (check "#123456789") ("syntax END at 10" ∷ []) (Syntax END 10)
    ∷ example "tenth digit of a label is a fault at once" (check "#1234567890") ("syntax LABEL at 0" ∷ []) (Syntax LABEL 0)
    ∷ [])
unfolding need must unless
end_judges_a_token_first = refl
