-- A text with labels is read as its object, whatever comes after it.
use Rattle.std.proofs.Common.{◌≡◌, ℕ, zero, suc, ◌+◌, ◌≤◌, ◌<◌, Bool, true, false, ◌&&◌, leb, List, [], ◌∷◌, ◌++◌, length, Option, Some, None, refl, sym, ap, ap₂, ◌∙◌, subst, if◌then◌else◌, arith, append_assoc, append-nil, length-append, leb-true}
use Rattle.std.proofs.lemmas.Bool.{and_parts}
use Rattle.mw_model.specs.Terms.Object.{Object, Natural, Symbol, Pair, Name, NIL, nil_name, same_name, same_object}
use Rattle.mw_model.specs.Texts.Lexemes.{Lexeme, LABEL, Atom, Open, Close, Dot, Mark, Ref, Ends, lexemes_from}
use Rattle.mw_model.specs.Texts.Grammar.{Labels as Begun, Label, Got, is_begun, labelled as labelled_in, complete, labelling as completing, and_then as then_read, and_tail, pairing, closing, reference, halt, Part, Datum, First, Tail, Last, read}
use Rattle.mw_model.specs.Texts.Printing.{numeral, name_text, end_text}
use Rattle.mw_model.specs.Texts.Written.{labels_begun, upwards}
use Rattle.mw_model.proofs.Names.{same_name-eq}
use Rattle.mw_model.proofs.Lexing.{Delimits}
use Rattle.mw_print.specs.Labelling.{Labels, Labelled, Way, Again, New, Plain, written, number_of, most_label, one_more, give, label_text, again_text, way_by, way, and_then, after_byte, labelling, by_way, dotted, tail_way, datum, tail}
use Rattle.mw_print.proofs.AtomLexemes.{IsAtom, name_atom, natural_atom}
use Rattle.mw_print.proofs.LabelLexemes.{mark_lexed, again_lexed}
use Rattle.mw_print.proofs.LabelsKept.{Fits, Keeps, keeps-refl, keeps-trans, fits-new, fits-given, keeps-given}

-- these lexemes begin a datum
abbrev pub BeginsDatum : List Lexeme → Type 0
BeginsDatum [] = ⊥
BeginsDatum (Atom o x ∷ L) = Unit {0}
BeginsDatum (Open o ∷ L) = Unit {0}
BeginsDatum (Mark o n ∷ L) = Unit {0}
BeginsDatum (Ref o n ∷ L) = Unit {0}
BeginsDatum (_ ∷ L) = ⊥

abbrev pub IsSome : List Lexeme → Type 0
IsSome L = 0 < length L

begins_some : (L : List Lexeme) → BeginsDatum L → 0 < length L
begins_some [] b = absurd b
begins_some (l ∷ L) b = omega arith

-- what holds of each of the four
datum_cases : (P : List Lexeme → Type 0) → ((o : ℕ) (x : Object) (L : List Lexeme) → P (Atom o x ∷ L)) → ((o : ℕ) (L : List Lexeme) → P (Open o ∷ L)) → ((o n : ℕ) (L : List Lexeme) → P (Mark o n ∷ L)) → ((o n : ℕ) (L : List Lexeme) → P (Ref o n ∷ L)) → (L : List Lexeme) → BeginsDatum L → P L
datum_cases P atom opening mark again [] b = absurd b
datum_cases P atom opening mark again (Atom o x ∷ L) b = atom o x L
datum_cases P atom opening mark again (Open o ∷ L) b = opening o L
datum_cases P atom opening mark again (Mark o n ∷ L) b = mark o n L
datum_cases P atom opening mark again (Ref o n ∷ L) b = again o n L
datum_cases P atom opening mark again (_ ∷ L) b = absurd b

begins_more : (L M : List Lexeme) → BeginsDatum L → BeginsDatum (L ++ M)
begins_more L M b = datum_cases (λ L. BeginsDatum (L ++ M)) (λ o x L. tt) (λ o L. tt) (λ o n L. tt) (λ o n L. tt) L b

module _ (k : ℕ) (ls : Begun) where
  read_first : (L : List Lexeme) → BeginsDatum L → read (suc k) First ls L ≡ then_read (read k Datum ls L) (and_tail (read k Tail))
  read_first L b = datum_cases (λ L. read (suc k) First ls L ≡ then_read (read k Datum ls L) (and_tail (read k Tail))) (λ o x L. refl) (λ o L. refl) (λ o n L. refl) (λ o n L. refl) L b

  read_tail : (L : List Lexeme) → BeginsDatum L → read (suc k) Tail ls L ≡ then_read (read k Datum ls L) (and_tail (read k Tail))
  read_tail L b = datum_cases (λ L. read (suc k) Tail ls L ≡ then_read (read k Datum ls L) (and_tail (read k Tail))) (λ o x L. refl) (λ o L. refl) (λ o n L. refl) (λ o n L. refl) L b

  read_last : (L : List Lexeme) → BeginsDatum L → read (suc k) Last ls L ≡ then_read (read k Datum ls L) closing
  read_last L b = datum_cases (λ L. read (suc k) Last ls L ≡ then_read (read k Datum ls L) closing) (λ o x L. refl) (λ o L. refl) (λ o n L. refl) (λ o n L. refl) L b

-- ---- the labels that lexemes begin

pub labels_begun-append : (L M : List Lexeme) → labels_begun (L ++ M) ≡ labels_begun L ++ labels_begun M
labels_begun-append [] M = refl
labels_begun-append (Mark o n ∷ L) M = ap (λ u. n ∷ u) (labels_begun-append L M)
labels_begun-append (_ ∷ L) M = labels_begun-append L M

upwards-append : (first m k : ℕ) → upwards first m ++ upwards (first + m) k ≡ upwards first (m + k)
upwards-append first zero k =
    let e : first + 0 ≡ first = omega arith in
    let f : k ≡ 0 + k = omega arith in
    ap (λ n. upwards n k) e ∙ ap (upwards first) f
upwards-append first (suc m) k =
    let e : first + suc m ≡ suc first + m = omega arith in
    let f : suc (m + k) ≡ suc m + k = omega arith in
    ap (λ n. first ∷ (upwards (suc first) m ++ upwards n k)) e ∙ (ap (λ u. first ∷ u) (upwards-append (suc first) m k) ∙ ap (upwards first) f)

numbered_both : (L M : List Lexeme) (first m k : ℕ) → labels_begun L ≡ upwards first m → labels_begun M ≡ upwards (first + m) k → labels_begun (L ++ M) ≡ upwards first (m + k)
numbered_both L M first m k h i = labels_begun-append L M ∙ (ap₂ (λ u v. u ++ v) h i ∙ upwards-append first m k)

-- ---- what is said of a text

abbrev pub AreSmall : Labels → Type 0
AreSmall l = (y : Object) (n : ℕ) → number_of y l ≡ Some n → n ≤ most_label

-- The text that is written with these labels, before z, has these lexemes, and by two steps for each they are read as x.
pub record Says (P : Part) (Begins : List Lexeme → Type 0) (x : Object) (l : Labels) (w : Labelled) (o : ℕ) (z : List ℕ) : Type 0 where
  pub lexed : List Lexeme
  pub cut : lexemes_from Ends o 0 (w.text ++ z) ≡ lexed ++ lexemes_from Ends (o + length w.text) 0 z
  pub begins : Begins lexed
  pub many : ℕ
  pub numbered : labels_begun lexed ≡ upwards l.next many
  pub next : w.after.next ≡ l.next + many
  pub small : AreSmall w.after
  pub reads : (ls : Begun) → Fits ls l → (after : Begun) × Fits after w.after × Keeps ls after × ((k : ℕ) (r : List Lexeme) → length lexed + length lexed ≤ k → read k P ls (lexed ++ r) ≡ Got x after r)

abbrev pub SaysDatum : Object → Labels → Labelled → Type 0
SaysDatum x l w = (o : ℕ) (z : List ℕ) → Delimits Ends z → Says Datum BeginsDatum x l w o z

abbrev pub SaysTail : Object → Labels → Labelled → Type 0
SaysTail x l w = (o : ℕ) (z : List ℕ) → Says Tail IsSome x l w o z

-- two texts, one after the other
cut_both : (o : ℕ) (t u z : List ℕ) (L M : List Lexeme) →
    lexemes_from Ends o 0 (t ++ (u ++ z)) ≡ L ++ lexemes_from Ends (o + length t) 0 (u ++ z) →
    lexemes_from Ends (o + length t) 0 (u ++ z) ≡ M ++ lexemes_from Ends (o + length t + length u) 0 z →
    lexemes_from Ends o 0 ((t ++ u) ++ z) ≡ (L ++ M) ++ lexemes_from Ends (o + length (t ++ u)) 0 z
cut_both o t u z L M h i =
    ap (lexemes_from Ends o 0) (append_assoc t u z) ∙ h ∙ ap (λ r. L ++ r) i ∙ sym (append_assoc L M (lexemes_from Ends (o + length t + length u) 0 z))
    ∙ ap (λ k. (L ++ M) ++ lexemes_from Ends k 0 z) (omega (arith, length-append t u))

-- ---- atoms

read_atom : (x : Object) (o k : ℕ) (ls : Begun) (r : List Lexeme) → 0 < k → read k Datum ls (Atom o x ∷ r) ≡ Got x ls r
read_atom x o zero ls r h = absurd (omega arith)
read_atom x o (suc k) ls r h = refl

no_more : (n : ℕ) → n ≡ n + 0
no_more n = omega arith

says_atom : (x : Object) (t : List ℕ) (l : Labels) → IsAtom x t → AreSmall l → SaysDatum x l (written t l)
says_atom x t l h small o z d = record {
  lexed = Atom o x ∷ [];
  cut = h o z d;
  begins = tt;
  many = 0;
  numbered = refl;
  next = no_more l.next;
  small = small;
  reads = λ ls f. (ls, f, keeps-refl ls, λ k r m. read_atom x o k ls r (omega (arith, m)));
}

read_close : (o k : ℕ) (ls : Begun) (r : List Lexeme) → 0 < k → read k Tail ls (Close o ∷ r) ≡ Got NIL ls r
read_close o zero ls r h = absurd (omega arith)
read_close o (suc k) ls r h = refl

says_nil : (t : List ℕ) (l : Labels) → AreSmall l → SaysTail NIL l (written (end_text true t) l)
says_nil t l small o z = record {
  lexed = Close o ∷ [];
  cut = ap (λ n. Close o ∷ lexemes_from Ends n 0 z) (omega arith);
  begins = omega arith;
  many = 0;
  numbered = refl;
  next = no_more l.next;
  small = small;
  reads = λ ls f. (ls, f, keeps-refl ls, λ k r m. read_close o k ls r (omega (arith, m)));
}

-- ---- a tail that is written after a dot

read_dot : (x : Object) (p q k : ℕ) (ls after : Begun) (L r : List Lexeme) → BeginsDatum L → ((k : ℕ) (r : List Lexeme) → length L + length L ≤ k → read k Datum ls (L ++ r) ≡ Got x after r) →
    length (Dot p ∷ (L ++ Close q ∷ [])) + length (Dot p ∷ (L ++ Close q ∷ [])) ≤ k → read k Tail ls (Dot p ∷ ((L ++ Close q ∷ []) ++ r)) ≡ Got x after r
read_dot x p q zero ls after L r b h m = absurd (omega arith)
read_dot x p q (suc zero) ls after L r b h m = absurd (omega (arith, length-append L (Close q ∷ [])))
read_dot x p q (suc (suc k)) ls after L r b h m =
    ap (λ u. read (suc k) Last ls u) (append_assoc L (Close q ∷ []) r)
    ∙ (read_last k ls (L ++ (Close q ∷ r)) (begins_more L (Close q ∷ r) b)
    ∙ ap (λ u. then_read u closing) (h k (Close q ∷ r) (omega (arith, m, length-append L (Close q ∷ [])))))

says_dotted : (x : Object) (l : Labels) (w : Labelled) → SaysDatum x l w → SaysTail x l (dotted w)
says_dotted x l w says o z =
    let p = suc (suc (suc o)) in
    let d = says p (41 ∷ z) (refl, refl) in
    let q = p + length w.text in record {
      lexed = Dot (suc o) ∷ (d.lexed ++ Close q ∷ []);
      cut =
          ap (λ u. lexemes_from Ends o 0 (32 ∷ 46 ∷ 32 ∷ u)) (append_assoc w.text (41 ∷ []) z)
          ∙ (ap (λ u. Dot (suc o) ∷ u) (d.cut ∙ sym (append_assoc d.lexed (Close q ∷ []) (lexemes_from Ends (suc q) 0 z)))
          ∙ ap (λ k. Dot (suc o) ∷ ((d.lexed ++ Close q ∷ []) ++ lexemes_from Ends k 0 z)) (omega (arith, length-append w.text (41 ∷ []))));
      begins = omega arith;
      many = d.many;
      numbered = labels_begun-append d.lexed (Close q ∷ []) ∙ (append-nil (labels_begun d.lexed) ∙ d.numbered);
      next = d.next;
      small = d.small;
      reads = λ ls f. let a = d.reads ls f in (a.0, a.1, a.2, λ k r m. read_dot x (suc o) q k ls a.0 d.lexed r d.begins a.3 m);
    }

says_end : (x : Object) (t : List ℕ) (l : Labels) → IsAtom x t → AreSmall l → SaysTail x l (written (end_text false t) l)
says_end x t l h small = says_dotted x l (written t l) (says_atom x t l h small)

says_name : (s : Name) (l : Labels) → AreSmall l → SaysTail (Symbol s) l (written (end_text (same_name s nil_name) (name_text s)) l)
says_name s l small = go (same_name s nil_name) refl
  where
    go : (v : Bool) → same_name s nil_name ≡ v → SaysTail (Symbol s) l (written (end_text v (name_text s)) l)
    go true q = subst (λ (d : Object). SaysTail d l (written (end_text true (name_text s)) l)) (ap Symbol (sym (same_name-eq s nil_name q))) (says_nil (name_text s) l small)
    go false q = says_end (Symbol s) (name_text s) l (name_atom s) small

-- ---- pairs

after_member : (x d : Object) (L M r : List Lexeme) (k : ℕ) (ls middle after : Begun) →
    read k Datum ls (L ++ (M ++ r)) ≡ Got x middle (M ++ r) → read k Tail middle (M ++ r) ≡ Got d after r →
    then_read (read k Datum ls ((L ++ M) ++ r)) (and_tail (read k Tail)) ≡ Got (Pair x d) after r
after_member x d L M r k ls middle after h i =
    ap (λ u. then_read (read k Datum ls u) (and_tail (read k Tail))) (append_assoc L M r)
    ∙ ap (λ u. then_read u (and_tail (read k Tail))) h
    ∙ ap (λ u. then_read u (pairing x)) i

module _ (x d : Object) (L M : List Lexeme) (ls middle after : Begun) (b : BeginsDatum L) (some : 0 < length M)
    (h : (k : ℕ) (r : List Lexeme) → length L + length L ≤ k → read k Datum ls (L ++ r) ≡ Got x middle r)
    (i : (k : ℕ) (r : List Lexeme) → length M + length M ≤ k → read k Tail middle (M ++ r) ≡ Got d after r)
  where
    read_member : (k : ℕ) (r : List Lexeme) → length (L ++ M) + length (L ++ M) ≤ k → read k Tail ls ((L ++ M) ++ r) ≡ Got (Pair x d) after r
    read_member zero r l = let n = begins_some L b in absurd (omega (arith, length-append L M))
    read_member (suc k) r l =
        let n : 0 < length L = begins_some L b in
        let e : length (L ++ M) ≡ length L + length M = length-append L M in
        read_tail k ls ((L ++ M) ++ r) (begins_more (L ++ M) r (begins_more L M b))
        ∙ after_member x d L M r k ls middle after (h k (M ++ r) (omega arith)) (i k r (omega arith))

    read_pair : (o k : ℕ) (r : List Lexeme) → suc (length (L ++ M)) + suc (length (L ++ M)) ≤ k → read k Datum ls (Open o ∷ ((L ++ M) ++ r)) ≡ Got (Pair x d) after r
    read_pair o zero r l = absurd (omega arith)
    read_pair o (suc zero) r l = absurd (omega arith)
    read_pair o (suc (suc k)) r l =
        let e : length (L ++ M) ≡ length L + length M = length-append L M in
        read_first k ls ((L ++ M) ++ r) (begins_more (L ++ M) r (begins_more L M b))
        ∙ after_member x d L M r k ls middle after (h k (M ++ r) (omega arith)) (i k r (omega arith))

module _ (a d : Object) (l : Labels) (w v : Labelled) (first : SaysDatum a l w) (rest : SaysTail d w.after v) (del : (z : List ℕ) → Delimits Ends (v.text ++ z)) where
  says_pair : SaysDatum (Pair a d) l (written (40 ∷ (w.text ++ v.text)) v.after)
  says_pair o z _ =
      let p = first (suc o) (v.text ++ z) (del z) in
      let q = rest (suc o + length w.text) z in record {
        lexed = Open o ∷ (p.lexed ++ q.lexed);
        cut = ap (λ r. Open o ∷ r) (cut_both (suc o) w.text v.text z p.lexed q.lexed p.cut q.cut ∙ ap (λ k. (p.lexed ++ q.lexed) ++ lexemes_from Ends k 0 z) (omega arith));
        begins = tt;
        many = p.many + q.many;
        numbered = numbered_both p.lexed q.lexed l.next p.many q.many p.numbered (q.numbered ∙ ap (λ n. upwards n q.many) p.next);
        next = q.next ∙ (ap (λ n. n + q.many) p.next ∙ (let e : l.next + p.many + q.many ≡ l.next + (p.many + q.many) = omega arith in e));
        small = q.small;
        reads = λ ls f.
            let r = p.reads ls f in
            let t = q.reads r.0 r.1 in
            (t.0, t.1, keeps-trans ls r.0 t.0 r.2 t.2, λ k u m. read_pair a d p.lexed q.lexed ls r.0 t.0 p.begins q.begins r.3 t.3 o k u m);
      }

  says_member : SaysTail (Pair a d) l (written (32 ∷ (w.text ++ v.text)) v.after)
  says_member o z =
      let p = first (suc o) (v.text ++ z) (del z) in
      let q = rest (suc o + length w.text) z in record {
        lexed = p.lexed ++ q.lexed;
        cut = cut_both (suc o) w.text v.text z p.lexed q.lexed p.cut q.cut ∙ ap (λ k. (p.lexed ++ q.lexed) ++ lexemes_from Ends k 0 z) (omega arith);
        begins = omega (arith, q.begins, length-append p.lexed q.lexed);
        many = p.many + q.many;
        numbered = numbered_both p.lexed q.lexed l.next p.many q.many p.numbered (q.numbered ∙ ap (λ n. upwards n q.many) p.next);
        next = q.next ∙ (ap (λ n. n + q.many) p.next ∙ (let e : l.next + p.many + q.many ≡ l.next + (p.many + q.many) = omega arith in e));
        small = q.small;
        reads = λ ls f.
            let r = p.reads ls f in
            let t = q.reads r.0 r.1 in
            (t.0, t.1, keeps-trans ls r.0 t.0 r.2 t.2, λ k u m. read_member a d p.lexed q.lexed ls r.0 t.0 p.begins q.begins r.3 t.3 k u m);
      }

-- ---- labels

read_again : (x : Object) (o n k : ℕ) (ls : Begun) (r : List Lexeme) → labelled_in n ls ≡ Some x → 0 < k → read k Datum ls (Ref o n ∷ r) ≡ Got x ls r
read_again x o n zero ls r h l = absurd (omega arith)
read_again x o n (suc k) ls r h l = ap (λ u. reference o u ls r) h

says_again : (x : Object) (n : ℕ) (l : Labels) → number_of x l ≡ Some n → AreSmall l → SaysDatum x l (written (again_text n) l)
says_again x n l h small o z d = record {
  lexed = Ref o n ∷ [];
  cut = again_lexed Ends o n z (small x n h);
  begins = tt;
  many = 0;
  numbered = refl;
  next = no_more l.next;
  small = small;
  reads = λ ls f. (ls, f, keeps-refl ls, λ k r m. read_again x o n k ls r (f.known x n h) (omega (arith, m)));
}

read_mark : (x : Object) (o n k : ℕ) (ls after : Begun) (L r : List Lexeme) → is_begun n ls ≡ false →
    ((k : ℕ) (r : List Lexeme) → length L + length L ≤ k → read k Datum (Label n None ls) (L ++ r) ≡ Got x after r) → suc (length L) + suc (length L) ≤ k → read k Datum ls (Mark o n ∷ (L ++ r)) ≡ Got x (complete n x after) r
read_mark x o n zero ls after L r new h m = absurd (omega arith)
read_mark x o n (suc k) ls after L r new h m =
    ap (λ v. if v then halt LABEL o else then_read (read k Datum (Label n None ls) (L ++ r)) (completing n)) new
    ∙ ap (λ u. then_read u (completing n)) (h k r (omega (arith, m)))

small_given : (x : Object) (n : ℕ) (l : Labels) → n ≤ most_label → AreSmall l → AreSmall (give x n l)
small_given x n l h small y m i = go (same_object x y) i
  where
    go : (v : Bool) → (if v then Some n else number_of y l) ≡ Some m → m ≤ most_label
    go true i = let same : n ≡ m = only i in omega (arith, same)
      where
        only : Some n ≡ Some m → n ≡ m
        only j = cc
    go false i = small y m i

says_new : (x : Object) (l : Labels) (w : Labelled) → l.next ≤ most_label → SaysDatum x (one_more l) w → SaysDatum x l (labelling x l.next w)
says_new x l w h says o z d =
    let n = l.next in
    let t = label_text n in
    let p = says (o + length t) z d in record {
      lexed = Mark o n ∷ p.lexed;
      cut = cut_both o t w.text z (Mark o n ∷ []) p.lexed (mark_lexed Ends o n (w.text ++ z) h) p.cut;
      begins = tt;
      many = suc p.many;
      numbered = ap (λ u. n ∷ u) p.numbered;
      next = p.next ∙ (let e : suc n + p.many ≡ n + suc p.many = omega arith in e);
      small = small_given x n w.after h p.small;
      reads = λ ls f.
          let a = p.reads (Label n None ls) (fits-new ls l f) in
          (complete n x a.0, fits-given ls l f x a.0 w.after a.1 a.2, keeps-given ls l f x a.0 w.after a.1 a.2, λ k r m. read_mark x o n k ls a.0 p.lexed r (f.fresh n (omega arith)) a.3 m);
    }

-- ---- the ways

again_is : (o : Option ℕ) (b : Bool) (n : ℕ) → way_by o b ≡ Again n → o ≡ Some n
again_is (Some m) b n h = cc
again_is None true n h = cc
again_is None false n h = cc

new_is : (o : Option ℕ) (b : Bool) → way_by o b ≡ New → b ≡ true
new_is (Some m) b h = cc
new_is None true h = refl
new_is None false h = cc

module _ (s : Object → Bool) where
  small_next : (x : Object) (l : Labels) → way s x l ≡ New → l.next ≤ most_label
  small_next x l h = leb-true l.next most_label (and_parts (s x) (leb l.next most_label) (new_is (number_of x l) (s x && leb l.next most_label) h)).1

  says_way : (x : Object) (l : Labels) (body : Labels → Labelled) (v : Way) → way s x l ≡ v → AreSmall l → SaysDatum x l (body l) → SaysDatum x (one_more l) (body (one_more l)) → SaysDatum x l (by_way v x l body)
  says_way x l body (Again n) e small h i = says_again x n l (again_is (number_of x l) (s x && leb l.next most_label) n e) small
  says_way x l body New e small h i = says_new x l (body (one_more l)) (small_next x l e) i
  says_way x l body Plain e small h i = h

  tail_says_way : (x : Object) (l : Labels) (body : ℕ → Labels → Labelled) (v : Way) → way s x l ≡ v → AreSmall l → SaysTail x l (body 32 l) → SaysDatum x (one_more l) (body 40 (one_more l)) → SaysTail x l (tail_way v x l body)
  tail_says_way x l body (Again n) e small h i = says_dotted x l (written (again_text n) l) (says_again x n l (again_is (number_of x l) (s x && leb l.next most_label) n e) small)
  tail_says_way x l body New e small h i = says_dotted x l (labelling x l.next (body 40 (one_more l))) (says_new x l (body 40 (one_more l)) (small_next x l e) i)
  tail_says_way x l body Plain e small h i = h

  -- what follows the first member of a list begins with a delimiter
  way_delimits : (v : Way) (x : Object) (l : Labels) (body : Labels → Labelled) (z : List ℕ) → Delimits Ends ((tail_way v x l (λ b m. after_byte b (body m))).text ++ z)
  way_delimits (Again n) x l body z = (refl, refl)
  way_delimits New x l body z = (refl, refl)
  way_delimits Plain x l body z = (refl, refl)

  tail_delimits : (d : Object) (l : Labels) (z : List ℕ) → Delimits Ends ((tail s d l).text ++ z)
  tail_delimits (Natural n) l z = (refl, refl)
  tail_delimits (Symbol y) l z = go (same_name y nil_name)
    where
      go : (v : Bool) → Delimits Ends (end_text v (name_text y) ++ z)
      go true = (refl, refl)
      go false = (refl, refl)
  tail_delimits (Pair a d) l z = way_delimits (way s (Pair a d) l) (Pair a d) l (λ m. and_then (datum s a m) (tail s d)) z

  mutual
    pub datum_says : (x : Object) (l : Labels) → AreSmall l → SaysDatum x l (datum s x l)
    datum_says (Natural n) l small = says_atom (Natural n) (numeral n) l (natural_atom n) small
    datum_says (Symbol y) l small = says_atom (Symbol y) (name_text y) l (name_atom y) small
    datum_says (Pair a d) l small =
        let body = λ (m : Labels). after_byte 40 (and_then (datum s a m) (tail s d)) in
        says_way (Pair a d) l body (way s (Pair a d) l) refl small
        (says_pair a d l (datum s a l) (tail s d (datum s a l).after) (datum_says a l small) (tail_says d (datum s a l).after ((datum_says a l small) 0 [] tt).small) (tail_delimits d (datum s a l).after))
        (says_pair a d (one_more l) (datum s a (one_more l)) (tail s d (datum s a (one_more l)).after) (datum_says a (one_more l) small) (tail_says d (datum s a (one_more l)).after ((datum_says a (one_more l) small) 0 [] tt).small) (tail_delimits d (datum s a (one_more l)).after))

    pub tail_says : (d : Object) (l : Labels) → AreSmall l → SaysTail d l (tail s d l)
    tail_says (Natural n) l small = says_end (Natural n) (numeral n) l (natural_atom n) small
    tail_says (Symbol y) l small = says_name y l small
    tail_says (Pair a d) l small =
        let body = λ (b : ℕ) (m : Labels). after_byte b (and_then (datum s a m) (tail s d)) in
        tail_says_way (Pair a d) l body (way s (Pair a d) l) refl small
        (says_member a d l (datum s a l) (tail s d (datum s a l).after) (datum_says a l small) (tail_says d (datum s a l).after ((datum_says a l small) 0 [] tt).small) (tail_delimits d (datum s a l).after))
        (says_pair a d (one_more l) (datum s a (one_more l)) (tail s d (datum s a (one_more l)).after) (datum_says a (one_more l) small) (tail_says d (datum s a (one_more l)).after ((datum_says a (one_more l) small) 0 [] tt).small) (tail_delimits d (datum s a (one_more l)).after))
