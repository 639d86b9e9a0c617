-- What a book of one datum is read as.
use Rattle.std.proofs.Common.{◌≡◌, ℕ, true, List, [], ◌∷◌, ◌++◌, length, Option, Some, None, inl, inr, refl, sym, ap, ◌∙◌, append_assoc, append-nil, true≢false}
use Rattle.std.proofs.lemmas.Bool.{le-leb as leb-from}
use Rattle.mw_model.specs.Terms.Object.{Object, Natural, Symbol, Pair}
use Rattle.mw_model.specs.Texts.Lexemes.{Fault, fault, Ends}
use Rattle.mw_model.specs.Texts.Grammar.{Book, book, limit, reading, trees}
use Rattle.mw_model.specs.Events.Fate.{is_out_of_range}
use Rattle.mw_request.specs.Arguments.{symbol_among}
use Rattle.mw_read.specs.Parsing.{meaning_of}
use Rattle.mw_read.specs.Kinds.{kind_of}
use Rattle.mw_read.specs.Standing.{Stands}
use Rattle.mw_read.specs.Feeding.{Continues, GivesNext, UnreadFollows}
use Rattle.mw_read.specs.declared.parser.Parser.{Parser}
use Rattle.mw_read.specs.declared.reader.Reader.{Reader}
use Rattle.mw_read.specs.declared.step.Step.{Step}
use Rattle.mw_read.specs.declared.step.Step.TheVariants as steps
use Rattle.mw_read.proofs.Bytes.{onward_book}
use Rattle.mw_read.proofs.Telling.{fits_end}
use Rattle.mw_read.proofs.Prefixes.{first_data}

-- no symbol is the only datum
abbrev pub HasNone : List ℕ → Type 0
HasNone bytes = symbol_among (trees bytes).events (trees bytes).fault ≡ None

-- where there are none, or two, or the first is none, or there is a fault
faulty : (xs : List Object) (f : Fault) → symbol_among xs (Some f) ≡ None
faulty [] f = refl
faulty (Symbol s ∷ []) f = refl
faulty (Natural n ∷ []) f = refl
faulty (Pair a b ∷ []) f = refl
faulty (Symbol s ∷ y ∷ xs) f = refl
faulty (Natural n ∷ y ∷ xs) f = refl
faulty (Pair a b ∷ y ∷ xs) f = refl

none_of_two : (x y : Object) (more : List Object) (o : Option Fault) → symbol_among (x ∷ y ∷ more) o ≡ None
none_of_two x y more (Some f) = faulty (x ∷ y ∷ more) f
none_of_two (Symbol s) y more None = refl
none_of_two (Natural n) y more None = refl
none_of_two (Pair a b) y more None = refl

none_large : (x : Object) (more : List Object) (o : Option Fault) → is_out_of_range x ≡ true → symbol_among (x ∷ more) o ≡ None
none_large (Symbol s) more o h = absurd (true≢false (sym h))
none_large (Natural n) [] None h = refl
none_large (Natural n) [] (Some f) h = refl
none_large (Pair a b) [] None h = refl
none_large (Pair a b) [] (Some f) h = refl
none_large x (y ∷ more) o h = none_of_two x y more o

-- ---- the beginning of the book

-- the bytes that were read are the whole book
last_data : (os : List Object) (p : Parser) (g : List ℕ) (given : List Object) → Stands os p g given → (more : List Object) × ((trees g).events ≡ given ++ more)
last_data os p g given s =
    let b = meaning_of Ends s.state p [] in (
      b.events,
      rw (leb-from (length g) limit s.short) (ap (λ u. (reading Ends u).events) (sym (append-nil g)) ∙ ap (λ y. y.events) (s.means Ends [] (fits_end p.begun) ∙ onward_book given b.events b.fault)),
    )

-- what was given first begins the book
given_first : (old new : Reader) (g : List ℕ) (given : List Object) (y : Object) → GivesNext old g given y new → (more : List Object) × ((trees (g ++ old.unread)).events ≡ (given ++ y ∷ []) ++ more)
given_first old new g given y h =
    let d = go h.follows in
    (d.0, ap (λ u. (trees u).events) (ap (λ u. g ++ u) h.unread ∙ sym (append_assoc g h.taken new.unread)) ∙ d.1)
  where
    stands : Stands [] new.parser (g ++ h.taken) (given ++ y ∷ [])
    stands = h.stands []

    go : UnreadFollows new → (more : List Object) × ((trees ((g ++ h.taken) ++ new.unread)).events ≡ (given ++ y ∷ []) ++ more)
    go (inl f) = first_data [] new.parser (g ++ h.taken) (given ++ y ∷ []) stands new.unread f
    go (inr e) = let d = last_data [] new.parser (g ++ h.taken) (given ++ y ∷ []) stands in (d.0, ap (λ u. (trees ((g ++ h.taken) ++ u)).events) e.0 ∙ ap (λ u. (trees u).events) (append-nil (g ++ h.taken)) ∙ d.1)

-- a book that begins so
none_of : (bytes : List ℕ) (xs : List Object) → (trees bytes).events ≡ xs → symbol_among xs (trees bytes).fault ≡ None → HasNone bytes
none_of bytes xs e h = ap (λ ys. symbol_among ys (trees bytes).fault) e ∙ h

none_of_book : (bytes : List ℕ) (xs : List Object) (o : Option Fault) → trees bytes ≡ book xs o → symbol_among xs o ≡ None → HasNone bytes
none_of_book bytes xs o e h = ap (λ (b : Book). symbol_among b.events b.fault) e ∙ h

-- ---- what comes first, and second, of a book of which no more bytes come

module _ (old : Reader) (finished : old.finished ≡ true) where
  -- something else than a datum comes first
  pub none_first : (os : List Object) (t : Step) (new : Reader) → ((x : ℕ) → t ≡ steps.Datum x → ⊥) → (t ≡ steps.Memory → ⊥) → Continues os old [] [] t new → HasNone old.unread
  none_first os (steps.Datum x) new d m c = absurd (d x refl)
  none_first os (steps.TooBig w l) new d m c = let f = given_first old new [] [] c.0 c.2 in none_of old.unread (c.0 ∷ f.0) f.1 (none_large c.0 f.0 (trees old.unread).fault c.1.0)
  none_first os steps.More new d m c = absurd (true≢false (sym finished ∙ c.0))
  none_first os steps.End new d m c = none_of_book old.unread [] None c.4 refl
  none_first os (steps.Syntax k o) new d m c = none_of_book old.unread [] (Some (fault (kind_of k) o)) (ap trees (sym (append-nil old.unread)) ∙ c [] (λ e. refl)) (faulty [] (fault (kind_of k) o))
  none_first os steps.Memory new d m c = absurd (m refl)

  -- a datum comes first
  module _ (mid : Reader) (y : Object) (first : GivesNext old [] [] y mid) where
    all_unread : first.taken ++ mid.unread ≡ old.unread
    all_unread = sym first.unread

    goes_on : mid.finished ≡ true
    goes_on = first.finished ∙ finished

    -- and nothing else
    pub one_read : (os : List Object) (new : Reader) → Continues os mid first.taken (y ∷ []) steps.End new → trees old.unread ≡ book (y ∷ []) None
    one_read os new c = ap trees (sym all_unread) ∙ c.4

    -- and something else
    pub none_second : (os : List Object) (t : Step) (new : Reader) → (t ≡ steps.End → ⊥) → (t ≡ steps.Memory → ⊥) → Continues os mid first.taken (y ∷ []) t new → HasNone old.unread
    none_second os (steps.Datum x) new d m c = let f = given_first mid new first.taken (y ∷ []) c.0 c.2 in none_of old.unread (y ∷ c.0 ∷ f.0) (ap (λ u. (trees u).events) (sym all_unread) ∙ f.1) (none_of_two y c.0 f.0 (trees old.unread).fault)
    none_second os (steps.TooBig w l) new d m c = let f = given_first mid new first.taken (y ∷ []) c.0 c.2 in none_of old.unread (y ∷ c.0 ∷ f.0) (ap (λ u. (trees u).events) (sym all_unread) ∙ f.1) (none_of_two y c.0 f.0 (trees old.unread).fault)
    none_second os steps.More new d m c = absurd (true≢false (sym goes_on ∙ c.0))
    none_second os steps.End new d m c = absurd (d refl)
    none_second os (steps.Syntax k o) new d m c =
        none_of_book old.unread (y ∷ []) (Some (fault (kind_of k) o)) (ap trees (sym all_unread) ∙ ap (λ u. trees (first.taken ++ u)) (sym (append-nil mid.unread)) ∙ c [] (λ e. refl)) (faulty (y ∷ []) (fault (kind_of k) o))
    none_second os steps.Memory new d m c = absurd (m refl)
