-- The data that are read first are the first of the book, whatever follows.
use Rattle.std.proofs.Common.{◌≡◌, ℕ, zero, suc, ◌-◌, ◌≤◌, Bool, true, false, leb, leb-true, List, [], ◌∷◌, ◌++◌, length, length-append, append-nil, take, Option, Some, None, refl, ap, ◌∙◌, subst, arith, if◌then◌else◌}
use Rattle.std.proofs.lemmas.List.{take_all}
use Rattle.mw_model.specs.Terms.Object.{Object}
use Rattle.mw_model.specs.Texts.Lexemes.{Fault, Ending, Ends, Goes}
use Rattle.mw_model.specs.Texts.Grammar.{Book, book, reading, limit, cut_short, trees}
use Rattle.mw_read.specs.Parsing.{Fits, meaning_of}
use Rattle.mw_read.specs.Standing.{Stands, IsFree, Follows}
use Rattle.mw_read.specs.declared.parser.Parser.{Parser}
use Rattle.mw_read.proofs.Bytes.{onward_book}
use Rattle.mw_read.proofs.Scanning.{fits_more}

take_none : (n : ℕ) → take {A = ℕ} n [] ≡ []
take_none zero = refl
take_none (suc n) = refl

take_past : (h w : List ℕ) (m : ℕ) → length h ≤ m → take m (h ++ w) ≡ h ++ take (m - length h) w
take_past [] w m l = ap (λ n. take n w) (let e : m ≡ m - 0 = omega arith in e)
take_past (c ∷ h) w zero l = absurd (omega arith)
take_past (c ∷ h) w (suc m) l = ap (λ u. c ∷ u) (take_past h w m (omega arith) ∙ ap (λ n. h ++ take n w) (let e : m - length h ≡ suc m - suc (length h) = omega arith in e))

-- whatever follows may follow
pub free_fits : (p : Parser) → IsFree p → Fits p.begun Goes []
free_fits p f = subst (λ u. Fits p.begun Goes u) (take_none _) (f [])

cut_events : (b : Book) → (cut_short b).events ≡ b.events
cut_events b = go b.events b.fault
  where
    go : (xs : List Object) (f : Option Fault) → (cut_short (book xs f)).events ≡ xs
    go xs None = refl
    go xs (Some f) = refl

-- the data of what was read are the first of the book, where the rest may follow
pub first_data : (os : List Object) (p : Parser) (g : List ℕ) (given : List Object) → Stands os p g given → (rest : List ℕ) → Follows p rest → (more : List Object) × ((trees (g ++ rest)).events ≡ given ++ more)
first_data os p g given s rest f = go (leb (length (g ++ rest)) limit) refl
  where
    read : (e : Ending) (x : List ℕ) → Fits p.begun e x → (reading e (g ++ x)).events ≡ given ++ (meaning_of e s.state p x).events
    read e x fits = let b = meaning_of e s.state p x in ap (λ y. y.events) (s.means e x fits ∙ onward_book given b.events b.fault)

    room : Fits p.begun Goes (take (limit - length g) rest)
    room = subst (λ n. Fits p.begun Goes (take (limit - n) rest)) s.offset f

    whole : leb (length (g ++ rest)) limit ≡ true → Fits p.begun Ends rest
    whole l =
        let size = length-append g rest in
        let few : length rest ≤ limit - length g = (let k = leb-true (length (g ++ rest)) limit l in omega (arith, k, size)) in
        subst (Fits p.begun Ends) (append-nil rest) (fits_more p.begun Ends rest [] (subst (Fits p.begun Goes) (take_all (limit - length g) rest few) room))

    go : (v : Bool) → leb (length (g ++ rest)) limit ≡ v → (more : List Object) × ((if v then reading Ends (g ++ rest) else cut_short (reading Goes (take limit (g ++ rest)))).events ≡ given ++ more)
    go true l = ((meaning_of Ends s.state p rest).events, read Ends rest (whole l))
    go false l =
        let x = take (limit - length g) rest in (
          (meaning_of Goes s.state p x).events,
          ap (λ y. (cut_short (reading Goes y)).events) (take_past g rest limit s.short) ∙ cut_events (reading Goes (g ++ x)) ∙ read Goes x room,
        )
