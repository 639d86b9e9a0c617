-- The data that were answered are the first of the book, whatever follows.
use Rattle.std.proofs.Common.{◌≡◌, ℕ, zero, suc, ◌-◌, List, [], ◌∷◌, ◌++◌, length, take, drop, Option, None, sym, ap, ◌∙◌, subst, arith, append_assoc, append-nil, if◌then◌else◌}
use Rattle.std.proofs.lemmas.Bool.{le-leb}
use Rattle.mw_model.specs.Terms.Object.{Object}
use Rattle.mw_model.specs.Texts.Lexemes.{Fault, Ends, Goes}
use Rattle.mw_model.specs.Texts.Grammar.{Book, book, reading, limit, cut_short, trees}
use Rattle.mw_read.specs.Parsing.{Fits, meaning_of, offset_of}
use Rattle.mw_read.specs.Standing.{Stands, IsFree, Follows}
use Rattle.mw_read.specs.declared.parser.Begun.{Begun}
use Rattle.mw_read.specs.declared.parser.Begun.TheVariants.{Nothing, Comment, Token, Bars, Barred, Hash, AfterToken, AfterBar}
use Rattle.mw_read.specs.declared.parser.Parser.{Parser}
use Rattle.mw_read.proofs.Bare.{take_cut}
use Rattle.mw_read.proofs.Bytes.{onward_book}
use Rattle.mw_read.proofs.Prefixes.{free_fits, first_data}
use Rattle.mw_read.proofs.Scanning.{fits_more}
use Rattle.mw_read.proofs.Telling.{stands_goes}
use Rattle.mw_answers.specs.Answering.{IsBegunBy, AreFirst}

take_both : (k : ℕ) (x y : List ℕ) → take k (x ++ y) ≡ take k x ++ take (k - length x) y
take_both zero x y = ap (λ n. take n y) (let e : 0 ≡ 0 - length x = omega arith in e)
take_both (suc k) [] y = ap (λ n. take n y) (let e : suc k ≡ suc k - 0 = omega arith in e)
take_both (suc k) (c ∷ x) y = ap (λ u. c ∷ u) (take_both k x y ∙ ap (λ n. take k x ++ take n y) (let e : k - length x ≡ suc k - suc (length x) = omega arith in e))

-- what may follow may go on
follows_more : (p : Parser) (x y : List ℕ) → Follows p x → Follows p (x ++ y)
follows_more p x y f =
    let k = limit - offset_of p in
    subst (λ u. Fits p.begun Goes u) (sym (take_both k x y)) (fits_more p.begun Goes (take k x) (take (k - length x) y) f)

-- where nothing may follow, anything may
pub follows_free : (p : Parser) → Follows p [] → IsFree p
follows_free p f x = follows_more p [] x f

pub read_so_far : (os : List Object) (p : Parser) (g : List ℕ) (given : List Object) → Stands os p g given → IsFree p → reading Goes g ≡ book given None
read_so_far os p g given s f = stands_goes os p g given s (free_fits p f)

-- the data of the first bytes of a piece
pub data_of_first : (os : List Object) (p : Parser) (g piece : List ℕ) (at : ℕ) (given : List Object) → Stands os p (g ++ take at piece) given → Follows p (drop at piece) → AreFirst (g ++ piece) given
data_of_first os p g piece at given s f rest =
    let d = first_data os p (g ++ take at piece) given s (drop at piece ++ rest) (follows_more p (drop at piece) rest f) in
    (d.0, ap (λ u. (trees u).events) (append_assoc g piece rest ∙ take_cut g piece at rest) ∙ d.1)

-- those before the first fault
pub data_to_fault : (g piece : List ℕ) (given : List Object) (f : Option Fault) → ((rest : List ℕ) → trees (g ++ (piece ++ rest)) ≡ book given f) → AreFirst (g ++ piece) given
data_to_fault g piece given f h rest = ([], ap (λ u. (trees u).events) (append_assoc g piece rest) ∙ ap (λ (b : Book). b.events) (h rest) ∙ sym (append-nil given))

fits_end : (m : Begun) → Fits m Ends []
fits_end Nothing = tt
fits_end Comment = tt
fits_end Token = tt
fits_end Bars = tt
fits_end Barred = tt
fits_end Hash = tt
fits_end AfterToken = tt
fits_end AfterBar = tt

-- those of a book that has ended
pub data_of_ended : (os : List Object) (p : Parser) (g : List ℕ) (given : List Object) → Stands os p g given → IsBegunBy g given
data_of_ended os p g given s =
    let b = meaning_of Ends s.state p [] in
    let short : trees g ≡ reading Ends g = ap (λ v. if v then reading Ends g else cut_short (reading Goes (take limit g))) (le-leb (length g) limit s.short) in
    (b.events, ap (λ (y : Book). y.events) (short ∙ ap (reading Ends) (sym (append-nil g)) ∙ s.means Ends [] (fits_end p.begun) ∙ onward_book given b.events b.fault))
