-- Data that are written one after another, labels running on, are read as the tail of a list.
use Rattle.std.proofs.Common.{◌≡◌, ℕ, zero, suc, ◌+◌, ◌≤◌, ◌<◌, Bool, true, false, ltb, List, [], ◌∷◌, ◌++◌, length, None, codes, refl, sym, ap, ◌∙◌, subst, arith, append_assoc, append-nil, length-append, zero-le, if◌then◌else◌}
use Rattle.std.proofs.lemmas.Bool.{and_left, false_from_ne_true, ne_eqb}
use Rattle.mw_model.specs.Terms.Object.{Object, Pair, symbol, NIL}
use Rattle.mw_model.specs.Values.Value.{pick}
use Rattle.mw_model.specs.Values.Truth.{Each}
use Rattle.mw_model.specs.Events.Fate.{longest}
use Rattle.mw_model.specs.Texts.Lexemes.{Lexeme, Atom, Open, Close, Dot, Mark, End, Ends, lexemes, lexemes_from, is_inside_comment}
use Rattle.mw_model.specs.Texts.Grammar.{Labels, Unused, Label, is_begun, Got, and_then, and_tail, pairing, Datum, Tail, read, enough, book, reading}
use Rattle.mw_model.specs.Texts.Printing.{text_of}
use Rattle.mw_model.specs.Texts.Written.{labels_begun, upwards, IsLabelled, IsWritten, AreWritten}
use Rattle.mw_model.proofs.Locality.{Alike, atoms, opens, closes, dots, quotes, marks, refs, AllAlike, none_alike, more_alike, tail_read, Begun, taken}
use Rattle.mw_model.proofs.TextReadBack.{BeginsDatum, prints, cut_both}
use Rattle.mw_model.proofs.Lexing.{Delimits}
use Rattle.mw_commands.proofs.LexingLines.{no_newline, has_comment, line, commented}
use Rattle.mw_commands.proofs.WrittenRead.{enough_is, alike_length, ReadAs, datum_read, datum_first, nothing_read}
use Rattle.mw_commands.proofs.LabelsBefore.{begun_in, and_older, after_older}

-- ---- labels

each_weaker : (P Q : ℕ → Type 0) → ((n : ℕ) → P n → Q n) → (ns : List ℕ) → Each P ns → Each Q ns
each_weaker P Q f [] h = tt
each_weaker P Q f (n ∷ ns) h = (f n h.0, each_weaker P Q f ns h.1)

abbrev pub Below : ℕ → Labels → Type 0
Below bound ls = Each (λ n. n < bound) (begun_in ls)

below_fresh : (bound n : ℕ) (ls : Labels) → Below bound ls → bound ≤ n → is_begun n ls ≡ false
below_fresh bound n Unused b h = refl
below_fresh bound n (Label m x ls) b h =
    ap (λ v. if v then true else is_begun n ls) (ne_eqb n m (λ e. let l : m < bound = b.0 in omega arith)) ∙ below_fresh bound n ls b.1 h

below_older : (bound : ℕ) (ls older : Labels) → Below bound ls → Below bound older → Below bound (and_older ls older)
below_older bound Unused older b c = c
below_older bound (Label m x ls) older b c = (b.0, below_older bound ls older b.1 c)

labels_front : (P : ℕ → Type 0) (L M : List Lexeme) → Each P (labels_begun (L ++ M)) → Each P (labels_begun L)
labels_front P [] M h = tt
labels_front P (Mark o n ∷ L) M h = (h.0, labels_front P L M h.1)
labels_front P (_ ∷ L) M h = labels_front P L M h

labels_alike : (L M : List Lexeme) → AllAlike L M → labels_begun L ≡ labels_begun M
labels_alike L M none_alike = refl
labels_alike L M (more_alike l m L' M' a h) = go l m a (labels_alike L' M' h)
  where
    go : (l m : Lexeme) → Alike l m → labels_begun L' ≡ labels_begun M' → labels_begun (l ∷ L') ≡ labels_begun (m ∷ M')
    go l m (atoms o p x) e = e
    go l m (opens o p) e = e
    go l m (closes o p) e = e
    go l m (dots o p) e = e
    go l m (quotes o p) e = e
    go l m (marks o p n) e = ap (λ z. n ∷ z) e
    go l m (refs o p n) e = e

abbrev Between : ℕ → ℕ → ℕ → Type 0
Between first next n = (first ≤ n) × (n < next)

upwards_between : (first k : ℕ) → Each (Between first (first + k)) (upwards first k)
upwards_between first zero = tt
upwards_between first (suc k) =
    ((omega arith, omega arith), each_weaker (Between (suc first) (suc first + k)) (Between first (first + suc k)) (λ n h. let a = h.0 in let b = h.1 in (omega arith, omega arith)) (upwards (suc first) k) (upwards_between (suc first) k))

-- ---- a datum before a delimiter, where older labels are in use

pub record Placed (x : Object) (text z : List ℕ) (o : ℕ) (ls : Labels) (next : ℕ) : Type 0 where
  pub lexed : List Lexeme
  pub cut : lexemes_from Ends o 0 (text ++ z) ≡ lexed ++ lexemes_from Ends (o + length text) 0 z
  pub begins : Begun Tail lexed
  pub after : Labels
  pub reads : (k : ℕ) (r : List Lexeme) → length lexed + length lexed ≤ k → read k Datum ls (lexed ++ r) ≡ Got x after r
  pub below : Below next after

plain_begins : (L : List Lexeme) → BeginsDatum L → Begun Tail L
plain_begins [] b = absurd b
plain_begins (Atom o x ∷ L) b = record { l = Atom o x; rest = L; is = refl; may = tt }
plain_begins (Open o ∷ L) b = record { l = Open o; rest = L; is = refl; may = tt }
plain_begins (_ ∷ L) b = absurd b

read_begins : (k : ℕ) (ls : Labels) (L : List Lexeme) (x : Object) (after : Labels) (r : List Lexeme) → read k Datum ls L ≡ Got x after r → Begun Tail L
read_begins zero ls L x after r h = cc
read_begins (suc k) ls [] x after r h = cc
read_begins (suc k) ls (Close o ∷ L) x after r h = cc
read_begins (suc k) ls (Dot o ∷ L) x after r h = cc
read_begins (suc k) ls (l ∷ L) x after r h = record { l = l; rest = L; is = refl; may = tt }

-- no comment is begun in what leaves none open
no_comment : (x : Object) (t : List ℕ) → reading Ends t ≡ book (x ∷ []) None → reading Ends (t ++ codes " a") ≡ book (x ∷ symbol "A" ∷ []) None → no_newline t ≡ true → has_comment 0 t ≡ false
no_comment x t h more one_line = false_from_ne_true (has_comment 0 t) left_open
  where
    left_open : has_comment 0 t ≡ true → ⊥
    left_open c =
        let d = datum_read x t h in
        let k = commented 32 (refl, refl) (97 ∷ []) t 0 0 0 d.one.front d.s refl zero-le one_line c d.one.is d.one.clean in
        let L = lexemes Ends (t ++ codes " a") in
        let alone : ReadAs L (x ∷ []) = subst (λ z. ReadAs z (x ∷ [])) (sym k.cut) (datum_first x [] (lexemes Ends t) d k.lexed (End k.end ∷ []) k.alike (nothing_read k.end)) in
        let both : x ∷ [] ≡ x ∷ symbol "A" ∷ [] = sym (ap (λ z. z.events) (alone (enough L) (omega (arith, enough_is L)))) ∙ ap (λ z. z.events) more in
        cc

module _ (d : ℕ) (ends : Delimits Ends (d ∷ [])) (rest : List ℕ) where
  place_labelled : (x : Object) (first next : ℕ) (t : List ℕ) (o : ℕ) (ls : Labels) → IsLabelled x first t next → Below first ls → Placed x t (d ∷ rest) o ls next
  place_labelled x first next t o ls w b =
      let m = datum_read x t w.reads in
      let front = m.one.front in
      let l = line d ends rest t 0 o 0 front m.s zero-le (and_left (has_comment 0 t) (is_inside_comment d) (no_comment x t w.reads w.reads_on w.one_line)) m.one.is m.one.clean in
      let begun : Each (Between first (first + w.labels)) (labels_begun front) =
      labels_front (Between first (first + w.labels)) front (End m.s ∷ []) (subst (λ z. Each (Between first (first + w.labels)) (labels_begun z)) m.one.is (subst (Each (Between first (first + w.labels))) (sym w.numbered) (upwards_between first w.labels))) in
      let j = length l.lexed + length l.lexed in
      let alone : read j Datum Unused l.lexed ≡ Got x m.after [] =
      ap (read j Datum Unused) (sym (append-nil l.lexed)) ∙ m.one.reads j l.lexed [] l.alike (omega (arith, alike_length front l.lexed l.alike)) in
      let a = after_older ls (Between first (first + w.labels)) (λ n p. below_fresh first n ls b p.0) j Datum Unused l.lexed x m.after [] alone (subst (Each (Between first (first + w.labels))) (labels_alike front l.lexed l.alike) begun) in
      let t' = taken j Datum ls l.lexed x (and_older m.after ls) [] a.reads in
      let same : t'.front ≡ l.lexed = sym (t'.is ∙ append-nil t'.front) in
      record {
        lexed = l.lexed;
        cut = l.cut;
        begins = read_begins j ls l.lexed x (and_older m.after ls) [] a.reads;
        after = and_older m.after ls;
        reads = λ k r n. subst (λ u. read k Datum ls (u ++ r) ≡ Got x (and_older m.after ls) r) same (t'.reads k t'.front r t'.clean (omega (arith, ap length same)));
        below = below_older next m.after ls
            (each_weaker (Between first (first + w.labels)) (λ n. n < next) (λ n p. let q = p.1 in let u = w.unused in omega arith) (begun_in m.after) (a.begins tt))
            (each_weaker (λ n. n < first) (λ n. n < next) (λ n p. let u = w.unused in omega arith) (begun_in ls) b);
      }

  place_short : (x : Object) (first next : ℕ) (t : List ℕ) (o : ℕ) (ls : Labels) → t ≡ text_of x → next ≡ first → Below first ls → Placed x t (d ∷ rest) o ls next
  place_short x first next t o ls e u b =
      let p = prints x Ends o (d ∷ rest) ends in
      subst (λ n. Placed x t (d ∷ rest) o ls n) (sym u)
      (subst (λ z. Placed x z (d ∷ rest) o ls first) (sym e) (record { lexed = p.lexed; cut = p.cut; begins = plain_begins p.lexed p.begins; after = ls; reads = λ k r n. p.reads k ls r n; below = b }))

  pub place : (x : Object) (first next : ℕ) (t : List ℕ) (o : ℕ) (ls : Labels) → IsWritten x first t next → Below first ls → Placed x t (d ∷ rest) o ls next
  place x first next t o ls w b = go (ltb longest (length (text_of x))) w.0
    where
      go : (v : Bool) → pick v (IsLabelled x first t next) ((t ≡ text_of x) × (next ≡ first)) → Placed x t (d ∷ rest) o ls next
      go true w = place_labelled x first next t o ls w b
      go false w = place_short x first next t o ls w.0 w.1 b

-- ---- the members of a list, before its closing

abbrev pub list_of : List Object → Object
list_of [] = NIL
list_of (x ∷ xs) = Pair x (list_of xs)

-- what stands after data, or after none, is a delimiter
pub record Delimited (text z : List ℕ) : Type 0 where
  pub d : ℕ
  pub rest : List ℕ
  pub is : text ++ 41 ∷ z ≡ d ∷ rest
  pub ends : Delimits Ends (d ∷ [])

pub delimited : (xs : List Object) (first : ℕ) (text z : List ℕ) → AreWritten xs first text → Delimited text z
delimited [] first text z w = record { d = 41; rest = z; is = ap (λ t. t ++ 41 ∷ z) w; ends = (refl, refl) }
delimited (x ∷ xs) first text z w = record { d = 32; rest = (w.0 ++ w.1) ++ 41 ∷ z; is = ap (λ t. t ++ 41 ∷ z) w.3; ends = (refl, refl) }

pub record MembersPlaced (xs : List Object) (text z : List ℕ) (o : ℕ) (ls : Labels) : Type 0 where
  pub lexed : List Lexeme
  pub cut : lexemes_from Ends o 0 (text ++ 41 ∷ z) ≡ lexed ++ lexemes_from Ends (o + length text) 0 (41 ∷ z)
  pub after : Labels
  pub reads : (q k : ℕ) (r : List Lexeme) → suc (length lexed) + suc (length lexed) ≤ k → read k Tail ls (lexed ++ Close q ∷ r) ≡ Got (list_of xs) after r

no_members : (q k : ℕ) (ls : Labels) (r : List Lexeme) → 2 ≤ k → read k Tail ls (Close q ∷ r) ≡ Got NIL ls r
no_members q zero ls r h = absurd (omega arith)
no_members q (suc k) ls r h = refl

more_members : (x : Object) (xs : List Object) (one text z : List ℕ) (o p next : ℕ) (ls : Labels) (m : Placed x one (text ++ 41 ∷ z) o ls next) (n : MembersPlaced xs text z p m.after) (q k : ℕ) (r : List Lexeme) → suc (length (m.lexed ++ n.lexed)) + suc (length (m.lexed ++ n.lexed)) ≤ k → read k Tail ls ((m.lexed ++ n.lexed) ++ Close q ∷ r) ≡ Got (list_of (x ∷ xs)) n.after r
more_members x xs one text z o p next ls m n q zero r h = absurd (omega arith)
more_members x xs one text z o p next ls m n q (suc k) r h =
    let b = m.begins in
    let tail = n.lexed ++ Close q ∷ r in
    let whole : (m.lexed ++ n.lexed) ++ Close q ∷ r ≡ b.l ∷ (b.rest ++ tail) = append_assoc m.lexed n.lexed (Close q ∷ r) ∙ ap (λ u. u ++ tail) b.is in
    let some : length m.lexed ≡ suc (length b.rest) = ap length b.is in
    let both : length (m.lexed ++ n.lexed) ≡ length m.lexed + length n.lexed = length-append m.lexed n.lexed in
    ap (read (suc k) Tail ls) whole
    ∙ (tail_read k ls b.l (b.rest ++ tail) b.may
    ∙ (ap (λ u. and_then (read k Datum ls u) (and_tail (read k Tail))) (ap (λ u. u ++ tail) (sym b.is))
    ∙ (ap (λ u. and_then u (and_tail (read k Tail))) (m.reads k tail (omega arith)) ∙ ap (λ u. and_then u (pairing x)) (n.reads q k r (omega arith)))))

pub place_members : (xs : List Object) (first : ℕ) (text z : List ℕ) (o : ℕ) (ls : Labels) → AreWritten xs first text → Below first ls → MembersPlaced xs text z o ls
place_members [] first text z o ls w b =
    subst (λ t. MembersPlaced [] t z o ls) (sym w) (record { lexed = []; cut = ap (λ n. lexemes_from Ends n 0 (41 ∷ z)) (omega arith); after = ls; reads = λ q k r h. no_members q k ls r (omega arith) })
place_members (x ∷ xs) first text z o ls w b =
    let v = delimited xs w.2 w.1 z w.5 in
    let m : Placed x w.0 (w.1 ++ 41 ∷ z) (suc o) ls w.2 = subst (λ u. Placed x w.0 u (suc o) ls w.2) (sym v.is) (place v.d v.ends v.rest x first w.2 w.0 (suc o) ls w.4 b) in
    let n = place_members xs w.2 w.1 z (suc o + length w.0) m.after w.5 m.below in
    subst (λ t. MembersPlaced (x ∷ xs) t z o ls) (sym w.3)
    (record {
      lexed = m.lexed ++ n.lexed;
      cut = cut_both Ends (suc o) w.0 w.1 (41 ∷ z) m.lexed n.lexed m.cut n.cut ∙ ap (λ k. (m.lexed ++ n.lexed) ++ lexemes_from Ends k 0 (41 ∷ z)) (omega arith);
      after = n.after;
      reads = more_members x xs w.0 w.1 z (suc o) (suc o + length w.0) w.2 ls m n;
    })
