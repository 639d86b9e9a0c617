-- The text with labels of an object, on its own and before more.
use Rattle.std.proofs.Common.{◌≡◌, ℕ, suc, ◌+◌, ◌≤◌, Bool, true, false, ◌&&◌, not, eqb, List, [], ◌∷◌, ◌++◌, length, Option, None, refl, sym, ap, ◌∙◌, if◌then◌else◌, arith, append-nil, eqb-true, codes}
use Rattle.std.proofs.lemmas.Bool.{and_parts, and_from, both_ways}
use Rattle.mw_model.specs.Terms.Object.{Object, Natural, Symbol, Pair, Name, nil_name, same_name, symbol, is_name, is_name_byte}
use Rattle.mw_model.specs.Texts.Lexemes.{Lexeme, Atom, Open, Mark, Ref, End, Fault, Ends, lexemes, lexemes_from, unfinished, is_digit}
use Rattle.std.specs.List.{list_all}
use Rattle.mw_model.specs.Texts.Grammar.{Labels as Begun, Unused, Got, Datum, read, book, and_data, and_events, enough, data_of}
use Rattle.mw_model.specs.Texts.Printing.{numeral, name_text, end_text, is_bare}
use Rattle.mw_model.specs.Texts.Written.{labels_begun, IsLabelled}
use Rattle.mw_model.proofs.Numerals.{numeral_is}
use Rattle.mw_print.specs.Labelling.{Labels, Labelled, Way, Again, New, Plain, label_text, again_text, way, and_then, after_byte, by_way, tail_way, datum, tail, labelled_text, labelled_next}
use Rattle.mw_print.proofs.LabelsKept.{fits-first}
use Rattle.mw_print.proofs.LabelledReads.{BeginsDatum, AreSmall, datum_says, labels_begun-append}

begins_more : (L M : List Lexeme) → BeginsDatum L → BeginsDatum (L ++ M)
begins_more [] M b = absurd b
begins_more (Atom o x ∷ L) M b = tt
begins_more (Open o ∷ L) M b = tt
begins_more (Mark o n ∷ L) M b = tt
begins_more (Ref o n ∷ L) M b = tt
begins_more (_ ∷ L) M b = absurd b

data_of-begins : (k : ℕ) (L : List Lexeme) → BeginsDatum L → data_of (suc k) L ≡ and_data (data_of k) (read (enough L) Datum Unused L)
data_of-begins k [] b = absurd b
data_of-begins k (Atom o x ∷ L) b = refl
data_of-begins k (Open o ∷ L) b = refl
data_of-begins k (Mark o n ∷ L) b = refl
data_of-begins k (Ref o n ∷ L) b = refl
data_of-begins k (_ ∷ L) b = absurd b

enough-append : (L r : List Lexeme) → length L + length L ≤ enough (L ++ r)
enough-append [] r = omega arith
enough-append (l ∷ L) r = let h = enough-append L r in omega arith

enough_some : (L : List Lexeme) → (n : ℕ) × (enough L ≡ suc n)
enough_some [] = (0, refl)
enough_some (l ∷ L) = (suc (enough L), refl)

module _ (x : Object) (after : Begun) where
  abbrev ReadsAs : List Lexeme → Type 0
  ReadsAs L = (k : ℕ) (r : List Lexeme) → length L + length L ≤ k → read k Datum Unused (L ++ r) ≡ Got x after r

  before_more : (k : ℕ) (L r : List Lexeme) → BeginsDatum L → ReadsAs L → data_of (suc k) (L ++ r) ≡ and_events x (data_of k r)
  before_more k L r b h = data_of-begins k (L ++ r) (begins_more L r b) ∙ ap (and_data (data_of k)) (h (enough (L ++ r)) r (enough-append L r))

  alone : (s : Option Fault) (L : List Lexeme) → BeginsDatum L → ReadsAs L → data_of (enough (L ++ End s ∷ [])) (L ++ End s ∷ []) ≡ book (x ∷ []) None
  alone s [] b h = absurd b
  alone s (l ∷ L) b h = before_more (suc (enough (L ++ End s ∷ []))) (l ∷ L) (End s ∷ []) b h

  before_atom : (o : ℕ) (y : Object) (s : Option Fault) (L : List Lexeme) → BeginsDatum L → ReadsAs L → data_of (enough (L ++ Atom o y ∷ End s ∷ [])) (L ++ Atom o y ∷ End s ∷ []) ≡ book (x ∷ y ∷ []) None
  before_atom o y s [] b h = absurd b
  before_atom o y s (l ∷ L) b h =
      let rest = Atom o y ∷ End s ∷ [] in
      let n = enough_some (L ++ rest) in
      before_more (suc (enough (L ++ rest))) (l ∷ L) rest b h ∙ ap (λ k. and_events x (data_of (suc k) rest)) n.1

-- ---- no line ends

abbrev is_inside : ℕ → Bool
is_inside b = not (eqb b 10)

all_both : (t u : List ℕ) → list_all is_inside t ≡ true → list_all is_inside u ≡ true → list_all is_inside (t ++ u) ≡ true
all_both [] u h k = k
all_both (c ∷ t) u h k = let a = and_parts (is_inside c) (list_all is_inside t) h in and_from (is_inside c) (list_all is_inside (t ++ u)) a.0 (all_both t u a.1 k)

inside_if : (p : ℕ → Bool) → p 10 ≡ false → (b : ℕ) → p b ≡ true → is_inside b ≡ true
inside_if p miss b h = go (eqb b 10) refl
  where
    go : (v : Bool) → eqb b 10 ≡ v → not v ≡ true
    go true e = absurd (both_ways (p 10) miss (ap p (sym (eqb-true b 10 e)) ∙ h))
    go false e = refl

all_inside : (p : ℕ → Bool) → p 10 ≡ false → (t : List ℕ) → list_all p t ≡ true → list_all is_inside t ≡ true
all_inside p miss [] h = refl
all_inside p miss (b ∷ t) h = let a = and_parts (p b) (list_all p t) h in and_from (is_inside b) (list_all is_inside t) (inside_if p miss b a.0) (all_inside p miss t a.1)

numeral_line : (n : ℕ) → list_all is_inside (numeral n) ≡ true
numeral_line n = all_inside is_digit refl (numeral n) (numeral_is n).0

names_all : (n : List ℕ) → list_all is_name_byte n ≡ list_all is_name_byte n
names_all [] = refl
names_all (c ∷ n) = ap (λ v. is_name_byte c && v) (names_all n)

bytes_line : (n : List ℕ) → is_name n ≡ true → list_all is_inside n ≡ true
bytes_line [] h = refl
bytes_line (c ∷ n) h = all_inside is_name_byte refl (c ∷ n) (ap (λ v. is_name_byte c && v) (sym (names_all n)) ∙ h)

name_line : (s : Name) → list_all is_inside (name_text s) ≡ true
name_line s = go (is_bare s)
  where
    bytes : list_all is_inside s.bytes ≡ true
    bytes = bytes_line s.bytes s.valid

    go : (v : Bool) → list_all is_inside (if v then s.bytes else 124 ∷ (s.bytes ++ 124 ∷ [])) ≡ true
    go true = bytes
    go false = all_both s.bytes (124 ∷ []) bytes refl

end_line : (v : Bool) (t : List ℕ) → list_all is_inside t ≡ true → list_all is_inside (end_text v t) ≡ true
end_line true t h = refl
end_line false t h = all_both t (41 ∷ []) h refl

label_line : (n b : ℕ) → is_inside b ≡ true → list_all is_inside (35 ∷ (numeral n ++ b ∷ [])) ≡ true
label_line n b h = all_both (numeral n) (b ∷ []) (numeral_line n) (and_from (is_inside b) true h refl)

abbrev IsLine : Labelled → Type 0
IsLine w = list_all is_inside w.text ≡ true

by_way_line : (v : Way) (x : Object) (l : Labels) (body : Labels → Labelled) → ((m : Labels) → IsLine (body m)) → IsLine (by_way v x l body)
by_way_line (Again n) x l body h = label_line n 35 refl
by_way_line New x l body h = all_both (label_text l.next) (body (record { given = l.given; next = suc l.next })).text (label_line l.next 61 refl) (h (record { given = l.given; next = suc l.next }))
by_way_line Plain x l body h = h l

tail_way_line : (v : Way) (x : Object) (l : Labels) (body : ℕ → Labels → Labelled) → ((m : Labels) → IsLine (body 40 m)) → ((m : Labels) → IsLine (body 32 m)) → IsLine (tail_way v x l body)
tail_way_line (Again n) x l body h k = all_both (again_text n) (41 ∷ []) (label_line n 35 refl) refl
tail_way_line New x l body h k = let w = by_way New x l (body 40) in all_both w.text (41 ∷ []) (by_way_line New x l (body 40) h) refl
tail_way_line Plain x l body h k = k l

module _ (s : Object → Bool) where
  mutual
    datum_line : (x : Object) (l : Labels) → IsLine (datum s x l)
    datum_line (Natural n) l = numeral_line n
    datum_line (Symbol y) l = name_line y
    datum_line (Pair a d) l =
        by_way_line (way s (Pair a d) l) (Pair a d) l (λ m. after_byte 40 (and_then (datum s a m) (tail s d)))
        (λ m. all_both (datum s a m).text (tail s d (datum s a m).after).text (datum_line a m) (tail_line d (datum s a m).after))

    tail_line : (d : Object) (l : Labels) → IsLine (tail s d l)
    tail_line (Natural n) l = end_line false (numeral n) (numeral_line n)
    tail_line (Symbol y) l = end_line (same_name y nil_name) (name_text y) (name_line y)
    tail_line (Pair a d) l =
        tail_way_line (way s (Pair a d) l) (Pair a d) l (λ b m. after_byte b (and_then (datum s a m) (tail s d)))
        (λ m. all_both (datum s a m).text (tail s d (datum s a m).after).text (datum_line a m) (tail_line d (datum s a m).after))
        (λ m. all_both (datum s a m).text (tail s d (datum s a m).after).text (datum_line a m) (tail_line d (datum s a m).after))

-- ---- the whole

pub none_small : (first : ℕ) → AreSmall (record { given = []; next = first })
none_small first y n h = cc

pub labelled_text_is : (s : Object → Bool) (x : Object) (first : ℕ) → IsLabelled x first (labelled_text s x first) (labelled_next s x first)
labelled_text_is s x first =
    let l : Labels = record { given = []; next = first } in
    let t = labelled_text s x first in
    let p = datum_says s x l (none_small first) 0 [] tt in
    let a = p.reads Unused (fits-first first) in
    let q = datum_says s x l (none_small first) 0 (codes " a") (refl, refl) in
    let c = q.reads Unused (fits-first first) in
    let whole : lexemes Ends t ≡ p.lexed ++ End (unfinished Ends (0 + length t)) ∷ [] = ap (lexemes_from Ends 0 0) (sym (append-nil t)) ∙ p.cut in
    record {
      reads = ap (λ r. data_of (enough r) r) whole ∙ alone x a.0 (unfinished Ends (0 + length t)) p.lexed p.begins a.3;
      reads_on = ap (λ r. data_of (enough r) r) q.cut ∙ before_atom x c.0 (suc (0 + length t)) (symbol "A") (unfinished Ends (suc (suc (0 + length t)))) q.lexed q.begins c.3;
      one_line = datum_line s x l;
      labels = p.many;
      numbered = ap labels_begun whole ∙ (labels_begun-append p.lexed (End (unfinished Ends (0 + length t)) ∷ []) ∙ (append-nil (labels_begun p.lexed) ∙ p.numbered));
      unused = p.next;
    }
