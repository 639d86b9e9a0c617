-- Texts with labels that a person can check: each computes from its object.
use Rattle.std.proofs.Common.{◌≡◌, true, false, refl}
use Rattle.std.specs.Prelude.{codes}
use Rattle.mw_model.specs.Terms.Object.{Object, Natural, Pair, symbol, NIL, same_object, list1, list2, list3}
use Rattle.mw_print.specs.Labelling.{labelled_text, labelled_next}
use Rattle.mw_print.specs.Repeats.{stands}

-- the list (A 7)
abbrev part : Object
part = list2 (symbol "A") (Natural 7)

-- a member that stands twice is written once
twice : labelled_text (same_object part) (list2 part part) 1 ≡ codes "(#1=(A 7) #1#)"
twice = refl

-- so is the rest of a list
rest : labelled_text (same_object part) (Pair part part) 3 ≡ codes "(#3=(A 7) . #3#)"
rest = refl

-- without labels the text is the plain one
plain : labelled_text (λ x. false) (list3 part NIL part) 1 ≡ codes "((A 7) NIL (A 7))"
plain = refl

-- a label for each pair
each : labelled_text (λ x. true) (list1 (list1 NIL)) 1 ≡ codes "#1=(#2=(NIL))"
each = refl

next : labelled_next (λ x. true) (list1 (list1 NIL)) 1 ≡ 3
next = refl

-- The part stands twice in this list, and each rest of the list once.
stands_twice : stands part (list2 part part) ≡ 2
stands_twice = refl

stands_once : stands (list1 part) (list2 part part) ≡ 1
stands_once = refl

-- as the list itself does
stands_whole : stands (list2 part part) (list2 part part) ≡ 1
stands_whole = refl

-- Within a pair of two equal ones, which is written out once, the part still stands twice.
stands_within : stands part (Pair (Pair part part) (Pair part part)) ≡ 2
stands_within = refl
