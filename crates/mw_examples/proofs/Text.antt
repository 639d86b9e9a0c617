-- What is read and how it is printed.
use Rattle.std.proofs.Common.{◌≡◌, [], ◌∷◌, refl}
use Rattle.mw_model.specs.Events.Refusal.{need, must, unless}
use Rattle.mw_model.specs.Reports.Report.{Done, SomeRefused}
use Rattle.mw_examples.proofs.Reports.{AreReported, example, check}

data_are_printed : AreReported
    (example "greatest natural in range is printed" (check "(print 340282366920938463463374607431768211455)") ("1 PRINT - accepted 340282366920938463463374607431768211455" ∷ "events 1 accepted 1 refused 0 level 1" ∷ []) Done
    ∷ example "name with a space is printed in bars" (check "(print |a b|)") ("1 PRINT - accepted |a b|" ∷ "events 1 accepted 1 refused 0 level 1" ∷ []) Done
    ∷ example "bars are left out where the bare name is read alike" (check "(print |AB|)") ("1 PRINT - accepted AB" ∷ "events 1 accepted 1 refused 0 level 1" ∷ []) Done
    ∷ example "name of digits keeps its bars" (check "(print |12|)") ("1 PRINT - accepted |12|" ∷ "events 1 accepted 1 refused 0 level 1" ∷ []) Done
    ∷ example "leading zeros are dropped" (check "(print 007)") ("1 PRINT - accepted 7" ∷ "events 1 accepted 1 refused 0 level 1" ∷ []) Done
    ∷ example "quotes are printed in full" (check "(print 'x)") ("1 PRINT - accepted (QUOTE X)" ∷ "events 1 accepted 1 refused 0 level 1" ∷ []) Done
    ∷ example "dotted lists are printed as lists" (check "(print (a . (b . c)))") ("1 PRINT - accepted (A B . C)" ∷ "events 1 accepted 1 refused 0 level 1" ∷ []) Done
    ∷ example "empty list is nil" (check "(print ())") ("1 PRINT - accepted NIL" ∷ "events 1 accepted 1 refused 0 level 1" ∷ []) Done
    ∷ [])
unfolding need must unless
data_are_printed = refl

labels_are_read : AreReported
    (example "label names its datum again" (check "(print (#1=(a b) #1#))") ("1 PRINT - accepted ((A B) (A B))" ∷ "events 1 accepted 1 refused 0 level 1" ∷ []) Done
    ∷ example "labels are compared as numbers" (check "(print (#1=a #01#))") ("1 PRINT - accepted (A A)" ∷ "events 1 accepted 1 refused 0 level 1" ∷ []) Done
    ∷ example "any byte may follow a reference" (check "(print (#1=a #1##1#)) (print (#1=a #1#b))") ("1 PRINT - accepted (A A A)" ∷ "2 PRINT - accepted (A A B)" ∷ "events 2 accepted 2 refused 0 level 1" ∷ []) Done
    ∷ example "quote ends a token" (check "(print (a'b)) (print (|a|'b))") ("1 PRINT - accepted (A (QUOTE B))" ∷ "2 PRINT - accepted (|a| (QUOTE B))" ∷ "events 2 accepted 2 refused 0 level 1" ∷ []) Done
    ∷ example "labelled atom is one datum" (check "#1=a") ("1 - - refused EVENT" ∷ "events 1 accepted 0 refused 1 level 1" ∷ []) SomeRefused
    ∷ example "datum may have two labels" (check "#1=#2=a") ("1 - - refused EVENT" ∷ "events 1 accepted 0 refused 1 level 1" ∷ []) SomeRefused
    ∷ [])
unfolding need must unless
labels_are_read = refl

-- Seven labels, each four times the one within: a text of 87,381 bytes.
long_texts_are_refused : AreReported
    (example "text past 65536 bytes is refused" (check "(print (#7=(#6=(#5=(#4=(#3=(#2=(#1=(a a a a) #1# #1# #1#) #2# #2# #2#) #3# #3# #3#) #4# #4# #4#) #5# #5# #5#) #6# #6# #6#) #7#))") ("1 PRINT - refused LONG" ∷ "events 1 accepted 0 refused 1 level 1" ∷ []) SomeRefused
    ∷ example "text of 65537 bytes is refused" (check "(print (#7=(#6=(#5=(#4=(#3=(#2=(#1=(a a a a) #1# #1# #1#) #2# #2# #2#) #3# #3# #3#) #4# #4# #4#) #5# #5# #5#) #6# #6# #6#) #6# #5# #5# #5# #5# aaa))") ("1 PRINT - refused LONG" ∷ "events 1 accepted 0 refused 1 level 1" ∷ []) SomeRefused
    ∷ [])
unfolding need must unless
long_texts_are_refused = refl

-- The bound itself: 65,536 bytes are shown.
longest_text_is_printed : (check "(print (#7=(#6=(#5=(#4=(#3=(#2=(#1=(a a a a) #1# #1# #1#) #2# #2# #2#) #3# #3# #3#) #4# #4# #4#) #5# #5# #5#) #6# #6# #6#) #6# #5# #5# #5# #5# aa))").status ≡ Done
unfolding need must unless
longest_text_is_printed = refl
