-- What is printed is read again: the lexemes of a text are read as its object, whatever comes after them.
use Rattle.std.proofs.Common.{◌≡◌, ℕ, zero, suc, ◌+◌, ◌≤◌, ◌<◌, Bool, true, false, List, [], ◌∷◌, ◌++◌, length, Option, None, refl, sym, ap, ◌∙◌, subst, if◌then◌else◌, arith, append_assoc, append-nil, le-leb, length-append, take}
use Rattle.mw_model.specs.Terms.Object.{Object, Natural, Symbol, Pair, Name, NIL, nil_name, same_name}
use Rattle.mw_model.specs.Texts.Lexemes.{Lexeme, Atom, Open, Close, Dot, Mark, End, Fault, unfinished, Ending, Ends, Goes, lexemes_from}
use Rattle.mw_model.specs.Texts.Grammar.{Labels, Unused, Got, and_then, and_tail, Datum, First, Tail, read, book, pairing, and_data, and_events, enough, data_of, reading, trees, limit, cut_short}
use Rattle.mw_model.specs.Texts.Printing.{text_of, tail_text, numeral, name_text, end_text}
use Rattle.mw_model.specs.Laws.Lines.{text_lines}
use Rattle.mw_model.specs.Texts.Written.{labels_begun}
use Rattle.mw_model.proofs.Names.{same_name-eq}
use Rattle.mw_model.proofs.Lexing.{Delimits}
use Rattle.mw_model.proofs.AtomText.{IsAtom, name_atom, natural_atom}

-- these lexemes begin a datum, and do not close a list
abbrev pub BeginsDatum : List Lexeme → Type 0
BeginsDatum [] = ⊥
BeginsDatum (Atom o x ∷ L) = Unit {0}
BeginsDatum (Open o ∷ L) = Unit {0}
BeginsDatum (_ ∷ L) = ⊥

begins_some : (L : List Lexeme) → BeginsDatum L → 0 < length L
begins_some [] b = absurd b
begins_some (l ∷ L) b = omega arith

begins_more : (L M : List Lexeme) → BeginsDatum L → BeginsDatum (L ++ M)
begins_more [] M b = absurd b
begins_more (Atom o x ∷ L) M b = tt
begins_more (Open o ∷ L) M b = tt
begins_more (_ ∷ L) M b = absurd b

read_first : (k : ℕ) (ls : Labels) (L : List Lexeme) → BeginsDatum L → read (suc k) First ls L ≡ and_then (read k Datum ls L) (and_tail (read k Tail))
read_first k ls [] b = absurd b
read_first k ls (Atom o x ∷ L) b = refl
read_first k ls (Open o ∷ L) b = refl
read_first k ls (_ ∷ L) b = absurd b

read_tail : (k : ℕ) (ls : Labels) (L : List Lexeme) → BeginsDatum L → read (suc k) Tail ls L ≡ and_then (read k Datum ls L) (and_tail (read k Tail))
read_tail k ls [] b = absurd b
read_tail k ls (Atom o x ∷ L) b = refl
read_tail k ls (Open o ∷ L) b = refl
read_tail k ls (_ ∷ L) b = absurd b

data_of-begins : (k : ℕ) (L : List Lexeme) → BeginsDatum L → data_of (suc k) L ≡ and_data (data_of k) (read (enough L) Datum Unused L)
data_of-begins k [] b = absurd b
data_of-begins k (Atom o x ∷ L) b = refl
data_of-begins k (Open o ∷ L) b = refl
data_of-begins k (_ ∷ L) b = absurd b

-- The text of a datum, before what ends a token, has lexemes L, and with two steps for each L is read as x.
pub record Prints (x : Object) (t : List ℕ) (e : Ending) (o : ℕ) (z : List ℕ) : Type 0 where
  pub lexed : List Lexeme
  pub cut : lexemes_from e o 0 (t ++ z) ≡ lexed ++ lexemes_from e (o + length t) 0 z
  pub begins : BeginsDatum lexed
  pub plain : labels_begun lexed ≡ []
  pub reads : (k : ℕ) (ls : Labels) (r : List Lexeme) → length lexed + length lexed ≤ k → read k Datum ls (lexed ++ r) ≡ Got x ls r

-- so too the text of a list's tail, its closing included
record Ends_list (d : Object) (t : List ℕ) (e : Ending) (o : ℕ) (z : List ℕ) : Type 0 where
  lexed : List Lexeme
  cut : lexemes_from e o 0 (t ++ z) ≡ lexed ++ lexemes_from e (o + length t) 0 z
  some : 0 < length lexed
  plain : labels_begun lexed ≡ []
  reads : (k : ℕ) (ls : Labels) (r : List Lexeme) → length lexed + length lexed ≤ k → read k Tail ls (lexed ++ r) ≡ Got d ls r

abbrev pub PrintsAll : Object → List ℕ → Type 0
PrintsAll x t = (e : Ending) (o : ℕ) (z : List ℕ) → Delimits e z → Prints x t e o z

abbrev EndsAll : Object → List ℕ → Type 0
EndsAll d t = (e : Ending) (o : ℕ) (z : List ℕ) → Ends_list d t e o z

read_atom : (x : Object) (o k : ℕ) (ls : Labels) (r : List Lexeme) → 0 < k → read k Datum ls (Atom o x ∷ r) ≡ Got x ls r
read_atom x o zero ls r h = absurd (omega arith)
read_atom x o (suc k) ls r h = refl

prints_atom : (x : Object) (t : List ℕ) → IsAtom x t → PrintsAll x t
prints_atom x t h e o z d = record { lexed = Atom o x ∷ []; cut = h e o z d; begins = tt; plain = refl; reads = λ k ls r l. read_atom x o k ls r (omega arith) }

-- what follows the first member of a list begins with a delimiter
tail_delimits : (d : Object) (e : Ending) (z : List ℕ) → Delimits e (tail_text d ++ z)
tail_delimits (Natural n) Ends z = (refl, refl)
tail_delimits (Natural n) Goes z = (refl, refl)
tail_delimits (Symbol s) e z = go e (same_name s nil_name)
  where
    go : (e : Ending) (v : Bool) → Delimits e (end_text v (name_text s) ++ z)
    go Ends true = (refl, refl)
    go Goes true = (refl, refl)
    go Ends false = (refl, refl)
    go Goes false = (refl, refl)
tail_delimits (Pair a d) Ends z = (refl, refl)
tail_delimits (Pair a d) Goes z = (refl, refl)

-- the end of a proper list
read_close : (o k : ℕ) (ls : Labels) (r : List Lexeme) → 0 < k → read k Tail ls (Close o ∷ r) ≡ Got NIL ls r
read_close o zero ls r h = absurd (omega arith)
read_close o (suc k) ls r h = refl

ends_nil : (t : List ℕ) → EndsAll NIL (end_text true t)
ends_nil t e o z = record { lexed = Close o ∷ []; cut = ap (λ n. Close o ∷ lexemes_from e n 0 z) (omega arith); some = omega arith; plain = refl; reads = λ k ls r l. read_close o k ls r (omega arith) }

-- a tail that is an atom, after a dot
read_last : (x : Object) (p q o k : ℕ) (ls : Labels) (r : List Lexeme) → 3 ≤ k → read k Tail ls (Dot p ∷ Atom q x ∷ Close o ∷ r) ≡ Got x ls r
read_last x p q o zero ls r h = absurd (omega arith)
read_last x p q o (suc zero) ls r h = absurd (omega arith)
read_last x p q o (suc (suc zero)) ls r h = absurd (omega arith)
read_last x p q o (suc (suc (suc k))) ls r h = refl

close_delimits : (e : Ending) (z : List ℕ) → Delimits e (41 ∷ z)
close_delimits Ends z = (refl, refl)
close_delimits Goes z = (refl, refl)

ends_atom : (x : Object) (t : List ℕ) → IsAtom x t → EndsAll x (end_text false t)
ends_atom x t h e o z =
    let p = suc (suc (suc o)) in record {
      lexed = Dot (suc o) ∷ Atom p x ∷ Close (p + length t) ∷ [];
      cut = ap (λ u. lexemes_from e o 0 (32 ∷ 46 ∷ 32 ∷ u)) (append_assoc t (41 ∷ []) z)
          ∙ ap (λ u. Dot (suc o) ∷ u) (h e p (41 ∷ z) (close_delimits e z))
          ∙ ap (λ k. Dot (suc o) ∷ Atom p x ∷ Close (p + length t) ∷ lexemes_from e k 0 z) (omega (arith, length-append t (41 ∷ [])));
      some = omega arith;
      plain = refl;
      reads = λ k ls r l. read_last x (suc o) p (p + length t) k ls r (omega arith);
    }

-- a member and the tail after it
after_member : (x d : Object) (L M r : List Lexeme) (k : ℕ) (ls : Labels) →
    read k Datum ls (L ++ (M ++ r)) ≡ Got x ls (M ++ r) → read k Tail ls (M ++ r) ≡ Got d ls r →
    and_then (read k Datum ls ((L ++ M) ++ r)) (and_tail (read k Tail)) ≡ Got (Pair x d) ls r
after_member x d L M r k ls h i =
    ap (λ u. and_then (read k Datum ls u) (and_tail (read k Tail))) (append_assoc L M r)
    ∙ ap (λ u. and_then u (and_tail (read k Tail))) h
    ∙ ap (λ u. and_then u (pairing x)) i

read_member : (x d : Object) (L M r : List Lexeme) (k : ℕ) (ls : Labels) → BeginsDatum L → 0 < length M →
    ((k : ℕ) (ls : Labels) (r : List Lexeme) → length L + length L ≤ k → read k Datum ls (L ++ r) ≡ Got x ls r) →
    ((k : ℕ) (ls : Labels) (r : List Lexeme) → length M + length M ≤ k → read k Tail ls (M ++ r) ≡ Got d ls r) →
    length (L ++ M) + length (L ++ M) ≤ k → read k Tail ls ((L ++ M) ++ r) ≡ Got (Pair x d) ls r
read_member x d L M r zero ls b s h i l = let n = begins_some L b in absurd (omega (arith, length-append L M))
read_member x d L M r (suc k) ls b s h i l =
    let n : 0 < length L = begins_some L b in
    let e : length (L ++ M) ≡ length L + length M = length-append L M in
    read_tail k ls ((L ++ M) ++ r) (begins_more (L ++ M) r (begins_more L M b))
    ∙ after_member x d L M r k ls (h k ls (M ++ r) (omega arith)) (i k ls r (omega arith))

read_pair : (x d : Object) (o : ℕ) (L M r : List Lexeme) (k : ℕ) (ls : Labels) → BeginsDatum L →
    ((k : ℕ) (ls : Labels) (r : List Lexeme) → length L + length L ≤ k → read k Datum ls (L ++ r) ≡ Got x ls r) →
    ((k : ℕ) (ls : Labels) (r : List Lexeme) → length M + length M ≤ k → read k Tail ls (M ++ r) ≡ Got d ls r) →
    suc (length (L ++ M)) + suc (length (L ++ M)) ≤ k → read k Datum ls (Open o ∷ ((L ++ M) ++ r)) ≡ Got (Pair x d) ls r
read_pair x d o L M r zero ls b h i l = absurd (omega arith)
read_pair x d o L M r (suc zero) ls b h i l = absurd (omega arith)
read_pair x d o L M r (suc (suc k)) ls b h i l =
    let e : length (L ++ M) ≡ length L + length M = length-append L M in
    read_first k ls ((L ++ M) ++ r) (begins_more (L ++ M) r (begins_more L M b))
    ∙ after_member x d L M r k ls (h k ls (M ++ r) (omega arith)) (i k ls r (omega arith))

-- two texts, one after the other
pub cut_both : (e : Ending) (o : ℕ) (t u z : List ℕ) (L M : List Lexeme) →
    lexemes_from e o 0 (t ++ (u ++ z)) ≡ L ++ lexemes_from e (o + length t) 0 (u ++ z) →
    lexemes_from e (o + length t) 0 (u ++ z) ≡ M ++ lexemes_from e (o + length t + length u) 0 z →
    lexemes_from e o 0 ((t ++ u) ++ z) ≡ (L ++ M) ++ lexemes_from e (o + length (t ++ u)) 0 z
cut_both e o t u z L M h i =
    ap (lexemes_from e o 0) (append_assoc t u z) ∙ h ∙ ap (λ r. L ++ r) i ∙ sym (append_assoc L M (lexemes_from e (o + length t + length u) 0 z))
    ∙ ap (λ k. (L ++ M) ++ lexemes_from e k 0 z) (omega (arith, length-append t u))

pub plain_both : (L M : List Lexeme) → labels_begun L ≡ [] → labels_begun M ≡ [] → labels_begun (L ++ M) ≡ []
plain_both [] M h k = k
plain_both (Mark o n ∷ L) M h k = cc
plain_both (_ ∷ L) M h k = plain_both L M h k

ends_pair : (a d : Object) (t u : List ℕ) → PrintsAll a t → EndsAll d u → ((e : Ending) (z : List ℕ) → Delimits e (u ++ z)) → EndsAll (Pair a d) (32 ∷ (t ++ u))
ends_pair a d t u ha hd del e o z =
    let p = ha e (suc o) (u ++ z) (del e z) in
    let q = hd e (suc o + length t) z in record {
      lexed = p.lexed ++ q.lexed;
      cut = cut_both e (suc o) t u z p.lexed q.lexed p.cut q.cut ∙ ap (λ k. (p.lexed ++ q.lexed) ++ lexemes_from e k 0 z) (omega arith);
      some = omega (arith, q.some, length-append p.lexed q.lexed);
      plain = plain_both p.lexed q.lexed p.plain q.plain;
      reads = λ k ls r l. read_member a d p.lexed q.lexed r k ls p.begins q.some p.reads q.reads l;
    }

prints_pair : (a d : Object) (t u : List ℕ) → PrintsAll a t → EndsAll d u → ((e : Ending) (z : List ℕ) → Delimits e (u ++ z)) → PrintsAll (Pair a d) (40 ∷ (t ++ u))
prints_pair a d t u ha hd del e o z _ =
    let p = ha e (suc o) (u ++ z) (del e z) in
    let q = hd e (suc o + length t) z in record {
      lexed = Open o ∷ (p.lexed ++ q.lexed);
      cut = ap (λ r. Open o ∷ r) (cut_both e (suc o) t u z p.lexed q.lexed p.cut q.cut ∙ ap (λ k. (p.lexed ++ q.lexed) ++ lexemes_from e k 0 z) (omega arith));
      begins = tt;
      plain = plain_both p.lexed q.lexed p.plain q.plain;
      reads = λ k ls r l. read_pair a d o p.lexed q.lexed r k ls p.begins p.reads q.reads l;
    }

ends_name : (s : Name) → EndsAll (Symbol s) (end_text (same_name s nil_name) (name_text s))
ends_name s = go (same_name s nil_name) refl
  where
    go : (v : Bool) → same_name s nil_name ≡ v → EndsAll (Symbol s) (end_text v (name_text s))
    go true q = subst (λ (d : Object). EndsAll d (end_text true (name_text s))) (ap Symbol (sym (same_name-eq s nil_name q))) (ends_nil (name_text s))
    go false q = ends_atom (Symbol s) (name_text s) (name_atom s)

mutual
  pub prints : (x : Object) → PrintsAll x (text_of x)
  prints (Natural n) = prints_atom (Natural n) (numeral n) (natural_atom n)
  prints (Symbol s) = prints_atom (Symbol s) (name_text s) (name_atom s)
  prints (Pair a d) = prints_pair a d (text_of a) (tail_text d) (prints a) (tails d) (tail_delimits d)

  tails : (d : Object) → EndsAll d (tail_text d)
  tails (Natural n) = ends_atom (Natural n) (numeral n) (natural_atom n)
  tails (Symbol s) = ends_name s
  tails (Pair a d) = ends_pair a d (text_of a) (tail_text d) (prints a) (tails d) (tail_delimits d)

-- a datum before others, with enough steps for all
enough-append : (L r : List Lexeme) → length L + length L ≤ enough (L ++ r)
enough-append [] r = omega arith
enough-append (l ∷ L) r = let h = enough-append L r in omega arith

lexed_some : (L r : List Lexeme) → BeginsDatum L → suc (enough r) ≤ enough (L ++ r)
lexed_some [] r b = absurd b
lexed_some (l ∷ L) r b = omega (arith, enough-longer L r)
  where
    enough-longer : (L r : List Lexeme) → enough r ≤ enough (L ++ r)
    enough-longer [] r = omega arith
    enough-longer (l ∷ L) r = let h = enough-longer L r in omega arith

pub data_of-datum : (k : ℕ) (x : Object) (L r : List Lexeme) → BeginsDatum L →
    ((k : ℕ) (ls : Labels) (r : List Lexeme) → length L + length L ≤ k → read k Datum ls (L ++ r) ≡ Got x ls r) →
    data_of (suc k) (L ++ r) ≡ and_events x (data_of k r)
data_of-datum k x L r b h =
    data_of-begins k (L ++ r) (begins_more L r b) ∙ ap (and_data (data_of k)) (h (enough (L ++ r)) Unused r (enough-append L r))

line_delimits : (z : List ℕ) → Delimits Ends (10 ∷ z)
line_delimits z = (refl, refl)

-- lines of text, read from some place on
lines_some : (xs : List Object) (o : ℕ) → length xs < enough (lexemes_from Ends o 0 (text_lines xs))
lines_some [] o = omega arith
lines_some (x ∷ xs) o =
    let p = prints x Ends o (10 ∷ text_lines xs) (line_delimits (text_lines xs)) in
    let n = lines_some xs (suc (o + length (text_of x))) in
    let h = lexed_some p.lexed (lexemes_from Ends (suc (o + length (text_of x))) 0 (text_lines xs)) p.begins in
    subst (λ L. suc (length xs) < enough L) (sym p.cut) (omega arith)

lines_read : (xs : List Object) (o k : ℕ) → length xs < k → data_of k (lexemes_from Ends o 0 (text_lines xs)) ≡ book xs None
lines_read xs o zero h = absurd (omega arith)
lines_read [] o (suc k) h = refl
lines_read (x ∷ xs) o (suc k) h =
    let p = prints x Ends o (10 ∷ text_lines xs) (line_delimits (text_lines xs)) in
    ap (data_of (suc k)) p.cut
    ∙ data_of-datum k x p.lexed (lexemes_from Ends (suc (o + length (text_of x))) 0 (text_lines xs)) p.begins p.reads
    ∙ ap (and_events x) (lines_read xs (suc (o + length (text_of x))) k (omega arith))

-- a text within the limit is read whole
pub within_limit : (text : List ℕ) → length text ≤ limit → trees text ≡ reading Ends text
within_limit text l = ap (λ v. if v then reading Ends text else cut_short (reading Goes (take limit text))) (le-leb (length text) limit l)

-- objects that are written one on each line are read as just these objects
pub trees-text_lines : (xs : List Object) → length (text_lines xs) ≤ limit → trees (text_lines xs) ≡ book xs None
trees-text_lines xs l = within_limit (text_lines xs) l ∙ lines_read xs 0 (enough (lexemes_from Ends 0 0 (text_lines xs))) (lines_some xs 0)

-- an object that is written with nothing after it
last_reads : (s : Option Fault) (x : Object) (L : List Lexeme) → BeginsDatum L →
    ((k : ℕ) (ls : Labels) (r : List Lexeme) → length L + length L ≤ k → read k Datum ls (L ++ r) ≡ Got x ls r) →
    data_of (enough (L ++ End s ∷ [])) (L ++ End s ∷ []) ≡ book (x ∷ []) None
last_reads s x [] b h = absurd b
last_reads s x (l ∷ L) b h = data_of-datum (suc (enough (L ++ End s ∷ []))) x (l ∷ L) (End s ∷ []) b h

pub reading-text_of : (x : Object) → reading Ends (text_of x) ≡ book (x ∷ []) None
reading-text_of x =
    let p = prints x Ends 0 [] tt in
    ap (λ t. data_of (enough (lexemes_from Ends 0 0 t)) (lexemes_from Ends 0 0 t)) (sym (append-nil (text_of x)))
    ∙ ap (λ r. data_of (enough r) r) p.cut
    ∙ last_reads (unfinished Ends (0 + length (text_of x))) x p.lexed p.begins p.reads

pub trees-text_of : (x : Object) → length (text_of x) ≤ limit → trees (text_of x) ≡ book (x ∷ []) None
trees-text_of x l = within_limit (text_of x) l ∙ reading-text_of x
