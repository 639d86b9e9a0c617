-- What the definitions answer to a book of every kind of token that is cut after any of its bytes.
use Rattle.std.proofs.Common.{◌≡◌, ℕ, zero, suc, ◌+◌, ◌-◌, Bool, true, false, List, [], ◌∷◌, ◌++◌, take, map, cond, codes, ltb, eqb, ◌&&◌, ◌||◌, refl}
use Prim.Native.String.{String}
use Rattle.mw_model.specs.Laws.BuiltInText.{joined}
use Rattle.mw_model.specs.Texts.Lexemes.{END}
use Rattle.mw_model.specs.Texts.Printing.{numeral}
use Rattle.mw_model.specs.Events.Refusal.{need, must, unless}
use Rattle.mw_model.specs.Reports.Report.{Report, report, Done, SomeRefused, Syntax}

abbrev book : List ℕ
book = joined ("; a ) and a |" ∷ "(verify r #1=(pequal* x x) (axiom #1#))" ∷ "(print ('x 07 #22=|a )| . #22#))y(z)" ∷ "(print 340282366920938463463374607431768211456)" ∷ [])

-- where a datum begins and ends, whether it is accepted, and its line
record Datum : Type 0 where
  begins : ℕ
  ends : ℕ
  accepted : Bool
  line : String

abbrev data_of_book : List Datum
data_of_book =
    record { begins = 14; ends = 53; accepted = true; line = "1 VERIFY R accepted" }
    ∷ record { begins = 54; ends = 86; accepted = true; line = "2 PRINT - accepted ((QUOTE X) 7 |a )| . |a )|)" }
    ∷ record { begins = 86; ends = 87; accepted = false; line = "3 - - refused EVENT" }
    ∷ record { begins = 87; ends = 90; accepted = false; line = "4 Z - refused EVENT" }
    ∷ record { begins = 91; ends = 138; accepted = false; line = "5 PRINT - refused RANGE" }
    ∷ []

module _ (n : ℕ) where
  abbrev is_complete : Datum → Bool
  is_complete d = ltb d.ends (suc n)

  abbrev lines : List Datum → List String
  lines [] = []
  lines (d ∷ ds) = cond (is_complete d) (d.line ∷ lines ds) []

  abbrev inside : List Datum → Bool
  inside [] = false
  inside (d ∷ ds) = (ltb d.begins n && ltb n d.ends) || inside ds

  abbrev count : (Datum → Bool) → List Datum → ℕ
  count test [] = 0
  count test (d ∷ ds) = cond (is_complete d && test d) 1 0 + count test ds

  abbrev summary : ℕ → ℕ → List ℕ
  summary all good = codes "events " ++ (numeral all ++ (codes " accepted " ++ (numeral good ++ (codes " refused " ++ (numeral (all - good) ++ codes " level 1")))))

  abbrev fault : List ℕ
  fault = codes "syntax END at " ++ numeral n

  abbrev expected : Report
  expected =
      let all = count (λ d. true) data_of_book in
      let good = count (λ d. d.accepted) data_of_book in
      record {
        text = joined (lines data_of_book) ++ (cond (inside data_of_book) fault (summary all good) ++ 10 ∷ []);
        status = cond (inside data_of_book) (Syntax END n) (cond (eqb all good) Done SomeRefused);
      }

abbrev up_to : ℕ → List ℕ
up_to zero = 0 ∷ []
up_to (suc n) = suc n ∷ up_to n

cuts_are_expected : map (λ n. report (take n book) 10000000) (up_to 139) ≡ map expected (up_to 139)
unfolding need must unless
cuts_are_expected = refl
