-- A reader that is handed the text of an object gives that object.
use Rattle.std.proofs.Common.{◌≡◌, ℕ, ◌-◌, ◌≤◌, List, [], ◌∷◌, length, take, drop, None, sym, ap, ◌∙◌, subst, if◌then◌else◌, le-leb}
use Rattle.std.proofs.lemmas.List.{take-append-drop}
use Rattle.mw_model.specs.Terms.Object.{Object}
use Rattle.mw_model.specs.Texts.Lexemes.{Ends, Goes}
use Rattle.mw_model.specs.Texts.Grammar.{Book, book, and_events, reading, limit, cut_short}
use Rattle.mw_model.specs.Texts.Printing.{text_of}
use Rattle.mw_model.proofs.TextReadBack.{trees-text_of}
use Rattle.mw_heap.specs.Objects.{object_at, IsIn}
use Rattle.mw_read.specs.Parsing.{Fits, offset_of, meaning_of}
use Rattle.mw_read.specs.Standing.{Says, GivesAfter}
use Rattle.mw_read.specs.declared.parser.Parser.{Parser}
use Rattle.mw_read.specs.declared.step.Step.{Step}
use Rattle.mw_read.specs.declared.step.Step.TheVariants as steps
use Rattle.mw_read.proofs.Scanning.{fits_more}

same_first : (x y : Object) (b : Book) → book (x ∷ []) None ≡ and_events y b → y ≡ x
same_first x y b e = let events = ap (λ (b : Book). b.events) e in cc

reading-text_of : (x : Object) → length (text_of x) ≤ limit → reading Ends (text_of x) ≡ book (x ∷ []) None
reading-text_of x l =
    sym (ap (λ v. if v then reading Ends (text_of x) else cut_short (reading Goes (take limit (text_of x)))) (le-leb (length (text_of x)) limit l)) ∙ trees-text_of x l

module _ (old new : Parser) (x y : Object) (n : ℕ) (short : length (text_of x) ≤ limit) (gives : GivesAfter old [] [] (text_of x) y n new) where
  fits : Fits new.begun Ends (drop n (text_of x))
  fits =
      let room = limit - offset_of new in
      let left = drop n (text_of x) in
      subst (Fits new.begun Ends) (take-append-drop room left) (fits_more new.begun Ends (take room left) (drop room left) gives.left)

  alone : y ≡ x
  alone =
      let stands = gives.stands [] in
      let left = drop n (text_of x) in
      same_first x y (meaning_of Ends stands.state new left)
      (sym (reading-text_of x short) ∙ (ap (reading Ends) (sym (take-append-drop n (text_of x))) ∙ stands.means Ends left fits))

-- the datum that is given first of the text of an object
pub gives_object : (os : List Object) (old new : Parser) (text : List ℕ) (x : Object) (s : Step) (r n : ℕ) → text ≡ text_of x → length text ≤ limit → s ≡ steps.Datum r → Says os old [] [] text s n new → IsIn os r × (object_at os r ≡ x)
gives_object os old new text x s r n e short is says =
    let t = subst (λ (t : List ℕ). Says os old [] [] t (steps.Datum r) n new) e (subst (λ (s : Step). Says os old [] [] text s n new) is says) in
    (t.1.0, t.1.1 ∙ alone old new x t.0 n (subst (λ (t : List ℕ). length t ≤ limit) e short) t.2)
