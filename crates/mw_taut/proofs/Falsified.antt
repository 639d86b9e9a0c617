-- The choices of a list, tried in order.
use Rattle.std.proofs.Common.{◌≡◌, Bool, true, false, cond, List, [], ◌∷◌, ◌++◌, Option, Some, None, refl, sym, ap, ap₂, ◌∙◌, append_assoc}
use Rattle.std.proofs.lemmas.List.{map-append}
use Rattle.mw_model.specs.Terms.Term.{Formula}
use Rattle.mw_commands.specs.Commands.Tautology.{Choice, choosing, choices, value_under, first_against}
use Rattle.mw_taut.specs.Cases.{going_on}

abbrev pub or_else : Option Choice → Option Choice → Option Choice
or_else (Some c) o = Some c
or_else None o = o

pub first_of_both : (cs ds : List Choice) (F : Formula) → first_against (cs ++ ds) F ≡ or_else (first_against cs F) (first_against ds F)
first_of_both [] ds F = refl
first_of_both (c ∷ cs) ds F = go (value_under c F) (first_of_both cs ds F)
  where
    go : (b : Bool) → first_against (cs ++ ds) F ≡ or_else (first_against cs F) (first_against ds F) → cond b (first_against (cs ++ ds) F) (Some c) ≡ or_else (cond b (first_against cs F) (Some c)) (first_against ds F)
    go true later = later
    go false later = refl

going_on-choosing : (c : Choice) (E : Formula) (b : Bool) (ds : List Choice) → going_on c (choosing E b ds) ≡ going_on (c ++ (E, b) ∷ []) ds
going_on-choosing c E b [] = refl
going_on-choosing c E b (d ∷ ds) = ap₂ ◌∷◌ (sym (append_assoc c ((E, b) ∷ []) d)) (going_on-choosing c E b ds)

pub first_by_value : (c : Choice) (E : Formula) (Es : List Formula) (F : Formula) →
    first_against (going_on c (choices (E ∷ Es))) F ≡ or_else (first_against (going_on (c ++ (E, false) ∷ []) (choices Es)) F) (first_against (going_on (c ++ (E, true) ∷ []) (choices Es)) F)
first_by_value c E Es F =
    let no = choosing E false (choices Es) in
    let yes = choosing E true (choices Es) in
    ap (λ cs. first_against cs F) (map-append (λ d. c ++ d) no yes ∙ ap₂ (λ x y. x ++ y) (going_on-choosing c E false (choices Es)) (going_on-choosing c E true (choices Es)))
    ∙ first_of_both (going_on (c ++ (E, false) ∷ []) (choices Es)) (going_on (c ++ (E, true) ∷ []) (choices Es)) F

pub going_on-nothing : (ds : List Choice) → going_on [] ds ≡ ds
going_on-nothing [] = refl
going_on-nothing (d ∷ ds) = ap (λ l. d ∷ l) (going_on-nothing ds)

-- two formulas that have one value under each
pub first_of_same : (c : Choice) (ds : List Choice) (F G : Formula) → ((d : Choice) → value_under (c ++ d) F ≡ value_under (c ++ d) G) → first_against (going_on c ds) F ≡ first_against (going_on c ds) G
first_of_same c [] F G h = refl
first_of_same c (d ∷ ds) F G h = ap₂ (λ v o. cond v o (Some (c ++ d))) (h d) (first_of_same c ds F G h)

-- ---- where all choices that go on from a first part give one value

pub none_against : (c : Choice) (ds : List Choice) (F : Formula) → ((d : Choice) → true ≡ value_under (c ++ d) F) → first_against (going_on c ds) F ≡ None
none_against c [] F h = refl
none_against c (d ∷ ds) F h = ap (λ v. cond v (first_against (going_on c ds) F) (Some (c ++ d))) (sym (h d)) ∙ none_against c ds F h

abbrev pub all_false : List Formula → Choice
all_false [] = []
all_false (E ∷ Es) = (E, false) ∷ all_false Es

-- the first choice is false everywhere
first_choice : (Es : List Formula) → (others : List Choice) × (choices Es ≡ all_false Es ∷ others)
first_choice [] = ([], refl)
first_choice (E ∷ Es) =
    let r = first_choice Es in
    (choosing E false r.0 ++ choosing E true (choices Es), ap (λ cs. choosing E false cs ++ choosing E true (choices Es)) r.1)

pub first_against-false : (c : Choice) (Es : List Formula) (F : Formula) → ((d : Choice) → false ≡ value_under (c ++ d) F) → first_against (going_on c (choices Es)) F ≡ Some (c ++ all_false Es)
first_against-false c Es F h =
    let r = first_choice Es in
    ap (λ cs. first_against (going_on c cs) F) r.1 ∙ ap (λ v. cond v (first_against (going_on c r.0) F) (Some (c ++ all_false Es))) (sym (h (all_false Es)))
