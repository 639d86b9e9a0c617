-- Reading a datum depends only on its own lexemes, and not on where they stand: so alike ones before anything are read alike.
use Rattle.std.proofs.Common.{◌≡◌, ℕ, zero, suc, ◌+◌, ◌≤◌, ◌<◌, Bool, true, false, List, [], ◌∷◌, ◌++◌, length, Option, Some, None, refl, sym, ap, ap₂, ◌∙◌, subst, arith, append_assoc, length-append, if◌then◌else◌}
use Rattle.mw_model.specs.Terms.Object.{Object, Pair, NIL}
use Rattle.mw_model.specs.Texts.Lexemes.{Lexeme, Atom, Open, Close, Dot, Quote, Mark, Ref, LABEL}
use Rattle.mw_model.specs.Texts.Grammar.{Labels, Label, Read, Got, Stop, and_then, quoted, quoting, labelling, pairing, and_tail, halt, closing, reference, complete, Part, Datum, First, Tail, Last, read, labelled, is_begun}

-- ---- the same lexemes, at other places

pub data Alike : Lexeme → Lexeme → Type 0 where
  atoms : (o p : ℕ) (x : Object) → Alike (Atom o x) (Atom p x)
  opens : (o p : ℕ) → Alike (Open o) (Open p)
  closes : (o p : ℕ) → Alike (Close o) (Close p)
  dots : (o p : ℕ) → Alike (Dot o) (Dot p)
  quotes : (o p : ℕ) → Alike (Quote o) (Quote p)
  marks : (o p n : ℕ) → Alike (Mark o n) (Mark p n)
  refs : (o p n : ℕ) → Alike (Ref o n) (Ref p n)

pub data AllAlike : List Lexeme → List Lexeme → Type 0 where
  none_alike : AllAlike [] []
  more_alike : (l m : Lexeme) (L M : List Lexeme) → Alike l m → AllAlike L M → AllAlike (l ∷ L) (m ∷ M)

pub alike_both : (L M J K : List Lexeme) → AllAlike L M → AllAlike J K → AllAlike (L ++ J) (M ++ K)
alike_both L M J K none_alike k = k
alike_both L M J K (more_alike l m L' M' a h) k = more_alike l m (L' ++ J) (M' ++ K) a (alike_both L' M' J K h k)

-- a list alike two, one after the other
pub record Split (L J M : List Lexeme) : Type 0 where
  pub left : List Lexeme
  pub right : List Lexeme
  pub is : M ≡ left ++ right
  pub left_alike : AllAlike L left
  pub right_alike : AllAlike J right

pub split : (L J M : List Lexeme) → AllAlike (L ++ J) M → Split L J M
split [] J M h = record { left = []; right = M; is = refl; left_alike = none_alike; right_alike = h }
split (l ∷ L) J M h = go (l ∷ (L ++ J)) M refl h (split L J)
  where
    go : (K M : List Lexeme) → K ≡ l ∷ (L ++ J) → AllAlike K M → ((M : List Lexeme) → AllAlike (L ++ J) M → Split L J M) → Split (l ∷ L) J M
    go K M e none_alike ih = cc
    go K M e (more_alike k m K' M' a h) ih =
        let head : k ≡ l = cc in
        let tail : K' ≡ L ++ J = cc in
        let s = ih M' (subst (λ z. AllAlike z M') tail h) in
        record { left = m ∷ s.left; right = s.right; is = ap (λ z. m ∷ z) s.is; left_alike = more_alike l m L s.left (subst (λ z. Alike z m) head a) s.left_alike; right_alike = s.right_alike }

-- ---- what is taken

-- reading L gives x, and takes the lexemes in front; alike ones before anything are read alike, with two steps for each
pub record Taken (p : Part) (ls : Labels) (L : List Lexeme) (x : Object) (after : Labels) (r : List Lexeme) : Type 0 where
  pub front : List Lexeme
  pub is : L ≡ front ++ r
  pub clean : AllAlike front front
  pub some : 0 < length front
  pub reads : (j : ℕ) (other M : List Lexeme) → AllAlike front other → length front + length front ≤ j → read j p ls (other ++ M) ≡ Got x after M

got_one : {x y : Object} {ls ms : Labels} {r s : List Lexeme} → Got x ls r ≡ Got y ms s → (x ≡ y) × (ls ≡ ms) × (r ≡ s)
got_one h = (cc, cc, cc)

pub record Then (m : Read) (f : Object → Labels → List Lexeme → Read) (y : Object) (ms : Labels) (s : List Lexeme) : Type 0 where
  pub x : Object
  pub ls : Labels
  pub r : List Lexeme
  pub is : m ≡ Got x ls r
  pub next : f x ls r ≡ Got y ms s

pub then_got : (m : Read) (f : Object → Labels → List Lexeme → Read) (y : Object) (ms : Labels) (s : List Lexeme) → and_then m f ≡ Got y ms s → Then m f y ms s
then_got (Got x ls r) f y ms s h = record { x = x; ls = ls; r = r; is = refl; next = h }
then_got (Stop s') f y ms s h = cc

-- a single lexeme
one_taken : (p : Part) (ls : Labels) (l : Lexeme) (r : List Lexeme) (x : Object) (after : Labels) → Alike l l → ((j : ℕ) (m : Lexeme) (M : List Lexeme) → Alike l m → read (suc j) p ls (m ∷ M) ≡ Got x after M) → Taken p ls (l ∷ r) x after r
one_taken p ls l r x after c f = record { front = l ∷ []; is = refl; clean = more_alike l l [] [] c none_alike; some = omega arith; reads = λ j other M a h. go j (l ∷ []) other M refl a h }
  where
    go : (j : ℕ) (L other M : List Lexeme) → L ≡ l ∷ [] → AllAlike L other → 2 ≤ j → read j p ls (other ++ M) ≡ Got x after M
    go zero L other M e a h = absurd (omega arith)
    go (suc j) L other M e none_alike h = cc
    go (suc j) L other M e (more_alike k m [] [] a none_alike) h = let head : k ≡ l = cc in f j m M (subst (λ z. Alike z m) head a)
    go (suc j) L other M e (more_alike k m (k' ∷ K) N a b) h = cc
    go (suc j) L other M e (more_alike k m [] (n ∷ N) a b) h = elim b [ ]

-- a lexeme, and then what is read after it
then_taken : (p q : Part) (ls ms : Labels) (l : Lexeme) (L : List Lexeme) (x y : Object) (after last : Labels) (r : List Lexeme) → Alike l l → Taken q ms L x after r → ((j : ℕ) (m : Lexeme) (N M : List Lexeme) → Alike l m → read j q ms N ≡ Got x after M → read (suc j) p ls (m ∷ N) ≡ Got y last M) → Taken p ls (l ∷ L) y last r
then_taken p q ls ms l L x y after last r c t f = record { front = l ∷ t.front; is = ap (λ z. l ∷ z) t.is; clean = more_alike l l t.front t.front c t.clean; some = omega arith; reads = λ j other M a h. go j (l ∷ t.front) other M refl a h }
  where
    go : (j : ℕ) (K other M : List Lexeme) → K ≡ l ∷ t.front → AllAlike K other → suc (length t.front) + suc (length t.front) ≤ j → read j p ls (other ++ M) ≡ Got y last M
    go zero K other M e a h = absurd (omega arith)
    go (suc j) K other M e none_alike h = cc
    go (suc j) K other M e (more_alike k m K' N a b) h =
        let head : k ≡ l = cc in
        let tail : K' ≡ t.front = cc in
        f j m (N ++ M) M (subst (λ z. Alike z m) head a) (t.reads j N M (subst (λ z. AllAlike z N) tail b) (omega arith))

-- ---- the parts of a list

-- neither the end of a list nor, in a tail, its dot
abbrev pub MayBegin : Part → Lexeme → Type 0
MayBegin First (Close o) = ⊥
MayBegin Tail (Close o) = ⊥
MayBegin Tail (Dot o) = ⊥
MayBegin Last (Close o) = ⊥
MayBegin p l = Unit {0}

begins_alike : (p : Part) (l m : Lexeme) → Alike l m → MayBegin p l → MayBegin p m
begins_alike Datum l m a h = tt
begins_alike First l m (atoms o q x) h = tt
begins_alike First l m (opens o q) h = tt
begins_alike First l m (closes o q) h = absurd h
begins_alike First l m (dots o q) h = tt
begins_alike First l m (quotes o q) h = tt
begins_alike First l m (marks o q n) h = tt
begins_alike First l m (refs o q n) h = tt
begins_alike Tail l m (atoms o q x) h = tt
begins_alike Tail l m (opens o q) h = tt
begins_alike Tail l m (closes o q) h = absurd h
begins_alike Tail l m (dots o q) h = absurd h
begins_alike Tail l m (quotes o q) h = tt
begins_alike Tail l m (marks o q n) h = tt
begins_alike Tail l m (refs o q n) h = tt
begins_alike Last l m (atoms o q x) h = tt
begins_alike Last l m (opens o q) h = tt
begins_alike Last l m (closes o q) h = absurd h
begins_alike Last l m (dots o q) h = tt
begins_alike Last l m (quotes o q) h = tt
begins_alike Last l m (marks o q n) h = tt
begins_alike Last l m (refs o q n) h = tt

-- how the parts of a list are read that begin with a datum
first_read : (k : ℕ) (ls : Labels) (l : Lexeme) (L : List Lexeme) → MayBegin First l → read (suc k) First ls (l ∷ L) ≡ and_then (read k Datum ls (l ∷ L)) (and_tail (read k Tail))
first_read k ls (Close o) L b = absurd b
first_read k ls _ L b = refl

pub tail_read : (k : ℕ) (ls : Labels) (l : Lexeme) (L : List Lexeme) → MayBegin Tail l → read (suc k) Tail ls (l ∷ L) ≡ and_then (read k Datum ls (l ∷ L)) (and_tail (read k Tail))
tail_read k ls (Close o) L b = absurd b
tail_read k ls (Dot o) L b = absurd b
tail_read k ls _ L b = refl

last_read : (k : ℕ) (ls : Labels) (l : Lexeme) (L : List Lexeme) → MayBegin Last l → read (suc k) Last ls (l ∷ L) ≡ and_then (read k Datum ls (l ∷ L)) closing
last_read k ls (Close o) L b = absurd b
last_read k ls _ L b = refl

-- what is alike a list that begins so begins so
pub record Begun (p : Part) (other : List Lexeme) : Type 0 where
  pub l : Lexeme
  pub rest : List Lexeme
  pub is : other ≡ l ∷ rest
  pub may : MayBegin p l

begun : (p : Part) (l : Lexeme) (L r front other : List Lexeme) → MayBegin p l → l ∷ L ≡ front ++ r → 0 < length front → AllAlike front other → Begun p other
begun p l L r front other b e s none_alike = absurd (omega arith)
begun p l L r front other b e s (more_alike k m K M a h) = let head : l ≡ k = cc in record { l = m; rest = M; is = refl; may = begins_alike p k m a (subst (MayBegin p) head b) }

-- a datum, and what is read after it
list_taken : (p : Part) (k : ℕ) (ls : Labels) (l : Lexeme) (L : List Lexeme) (y : Object) (ms : Labels) (s : List Lexeme) → MayBegin p l →
    ((j : ℕ) (ls : Labels) (m : Lexeme) (M : List Lexeme) → MayBegin p m → read (suc j) p ls (m ∷ M) ≡ and_then (read j Datum ls (m ∷ M)) (and_tail (read j Tail))) →
    ((x : Object) (after : Labels) (r : List Lexeme) → read k Datum ls (l ∷ L) ≡ Got x after r → Taken Datum ls (l ∷ L) x after r) →
    ((ls : Labels) (r : List Lexeme) (x : Object) → read k Tail ls r ≡ Got x ms s → Taken Tail ls r x ms s) →
    read (suc k) p ls (l ∷ L) ≡ Got y ms s → Taken p ls (l ∷ L) y ms s
list_taken p k ls l L y ms s b open_up t1 t2 h =
    let a = then_got (read k Datum ls (l ∷ L)) (and_tail (read k Tail)) y ms s (sym (open_up k ls l L b) ∙ h) in
    let c = then_got (read k Tail a.ls a.r) (pairing a.x) y ms s a.next in
    let same = got_one c.next in
    let first = t1 a.x a.ls a.r a.is in
    let rest = t2 a.ls a.r c.x (c.is ∙ ap₂ (Got c.x) same.1 same.2) in
    record {
      front = first.front ++ rest.front;
      is = first.is ∙ (ap (λ z. first.front ++ z) rest.is ∙ sym (append_assoc first.front rest.front s));
      clean = alike_both first.front first.front rest.front rest.front first.clean rest.clean;
      some = omega (arith, first.some, length-append first.front rest.front);
      reads = λ j other M e n. both_read j other M first rest e n same.0;
    }
  where
    both_read : (j : ℕ) (other M : List Lexeme) {x z : Object} {after : Labels} {r : List Lexeme} (first : Taken Datum ls (l ∷ L) x after r) (rest : Taken Tail after r z ms s) → AllAlike (first.front ++ rest.front) other → length (first.front ++ rest.front) + length (first.front ++ rest.front) ≤ j → Pair x z ≡ y → read j p ls (other ++ M) ≡ Got y ms M
    both_read zero other M first rest e n q = absurd (omega (arith, first.some, length-append first.front rest.front))
    both_read (suc j) other M {x} {z} {after} {r} first rest e n q =
        let d = split first.front rest.front other e in
        let g = begun p l L r first.front d.left b first.is first.some d.left_alike in
        let same : other ++ M ≡ g.l ∷ (g.rest ++ (d.right ++ M)) = ap (λ u. u ++ M) d.is ∙ (append_assoc d.left d.right M ∙ ap (λ u. u ++ (d.right ++ M)) g.is) in
        let one : read j Datum ls (g.l ∷ (g.rest ++ (d.right ++ M))) ≡ Got x after (d.right ++ M) =
        sym (ap (λ u. read j Datum ls (u ++ (d.right ++ M))) g.is) ∙ first.reads j d.left (d.right ++ M) d.left_alike (omega (arith, rest.some, length-append first.front rest.front)) in
        let two : read j Tail after (d.right ++ M) ≡ Got z ms M = rest.reads j d.right M d.right_alike (omega (arith, first.some, length-append first.front rest.front)) in
        ap (read (suc j) p ls) same
        ∙ (open_up j ls g.l (g.rest ++ (d.right ++ M)) g.may
        ∙ (ap (λ u. and_then u (and_tail (read j Tail))) one
        ∙ (ap (λ u. and_then u (pairing x)) two ∙ ap (λ u. Got u ms M) q)))

-- a datum after a dot, and the closing
pub record Closed (x : Object) (ls : Labels) (r : List Lexeme) (y : Object) (ms : Labels) (s : List Lexeme) : Type 0 where
  pub o : ℕ
  pub is : r ≡ Close o ∷ s
  pub same_object : x ≡ y
  pub same_labels : ls ≡ ms

pub closed : (x : Object) (ls : Labels) (r : List Lexeme) (y : Object) (ms : Labels) (s : List Lexeme) → closing x ls r ≡ Got y ms s → Closed x ls r y ms s
closed x ls [] y ms s h = cc
closed x ls (Close o ∷ r) y ms s h = let g = got_one h in record { o = o; is = ap (λ z. Close o ∷ z) g.2; same_object = g.0; same_labels = g.1 }
closed x ls (_ ∷ r) y ms s h = cc

close_alike : (o : ℕ) (L other : List Lexeme) → L ≡ Close o ∷ [] → AllAlike L other → (p : ℕ) × (other ≡ Close p ∷ [])
close_alike o L other e none_alike = cc
close_alike o L other e (more_alike k m [] [] (closes q p) none_alike) = (p, refl)
close_alike o L other e (more_alike k m [] [] (atoms q p x) none_alike) = cc
close_alike o L other e (more_alike k m [] [] (opens q p) none_alike) = cc
close_alike o L other e (more_alike k m [] [] (dots q p) none_alike) = cc
close_alike o L other e (more_alike k m [] [] (quotes q p) none_alike) = cc
close_alike o L other e (more_alike k m [] [] (marks q p n) none_alike) = cc
close_alike o L other e (more_alike k m [] [] (refs q p n) none_alike) = cc
close_alike o L other e (more_alike k m (k' ∷ K) M a b) = cc
close_alike o L other e (more_alike k m [] (n ∷ N) a b) = elim b [ ]

last_taken : (k : ℕ) (ls : Labels) (l : Lexeme) (L : List Lexeme) (y : Object) (ms : Labels) (s : List Lexeme) → MayBegin Last l →
    ((x : Object) (after : Labels) (r : List Lexeme) → read k Datum ls (l ∷ L) ≡ Got x after r → Taken Datum ls (l ∷ L) x after r) →
    read (suc k) Last ls (l ∷ L) ≡ Got y ms s → Taken Last ls (l ∷ L) y ms s
last_taken k ls l L y ms s b t1 h =
    let a = then_got (read k Datum ls (l ∷ L)) closing y ms s (sym (last_read k ls l L b) ∙ h) in
    let c = closed a.x a.ls a.r y ms s a.next in
    let first = t1 a.x a.ls a.r a.is in
    record {
      front = first.front ++ Close c.o ∷ [];
      is = first.is ∙ (ap (λ z. first.front ++ z) c.is ∙ sym (append_assoc first.front (Close c.o ∷ []) s));
      clean = alike_both first.front first.front (Close c.o ∷ []) (Close c.o ∷ []) first.clean (more_alike (Close c.o) (Close c.o) [] [] (closes c.o c.o) none_alike);
      some = omega (arith, first.some, length-append first.front (Close c.o ∷ []));
      reads = λ j other M e n. both_read j other M c.o first e n c.same_object c.same_labels;
    }
  where
    both_read : (j : ℕ) (other M : List Lexeme) (o : ℕ) {x : Object} {after : Labels} {r : List Lexeme} (first : Taken Datum ls (l ∷ L) x after r) → AllAlike (first.front ++ Close o ∷ []) other → length (first.front ++ Close o ∷ []) + length (first.front ++ Close o ∷ []) ≤ j → x ≡ y → after ≡ ms → read j Last ls (other ++ M) ≡ Got y ms M
    both_read zero other M o first e n q v = absurd (omega (arith, first.some, length-append first.front (Close o ∷ [])))
    both_read (suc j) other M o {x} {after} {r} first e n q v =
        let d = split first.front (Close o ∷ []) other e in
        let g = begun Last l L r first.front d.left b first.is first.some d.left_alike in
        let w = close_alike o (Close o ∷ []) d.right refl d.right_alike in
        let same : other ++ M ≡ g.l ∷ (g.rest ++ (Close w.0 ∷ M)) = ap (λ u. u ++ M) d.is ∙ (append_assoc d.left d.right M ∙ ap₂ (λ u v. u ++ (v ++ M)) g.is w.1) in
        let one : read j Datum ls (g.l ∷ (g.rest ++ (Close w.0 ∷ M))) ≡ Got x after (Close w.0 ∷ M) =
        sym (ap (λ u. read j Datum ls (u ++ (Close w.0 ∷ M))) g.is) ∙ first.reads j d.left (Close w.0 ∷ M) d.left_alike (omega (arith, length-append first.front (Close o ∷ []))) in
        ap (read (suc j) Last ls) same
        ∙ (last_read j ls g.l (g.rest ++ (Close w.0 ∷ M)) g.may
        ∙ (ap (λ u. and_then u closing) one ∙ ap₂ (λ u v. Got u v M) q v))

-- ---- each reading is so

retyped : (p : Part) (ls : Labels) (L : List Lexeme) (x y : Object) (after last : Labels) (r s : List Lexeme) → Taken p ls L x after r → Got x after r ≡ Got y last s → Taken p ls L y last s
retyped p ls L x y after last r s t h =
    let g = got_one h in subst (λ z. Taken p ls L z last s) g.0 (subst (λ z. Taken p ls L x z s) g.1 (subst (λ z. Taken p ls L x after z) g.2 t))

read_atom : (o : ℕ) (y : Object) (ls : Labels) (j : ℕ) (m : Lexeme) (M : List Lexeme) → Alike (Atom o y) m → read (suc j) Datum ls (m ∷ M) ≡ Got y ls M
read_atom o y ls j m M (atoms q p z) = refl

read_open : (o : ℕ) (ls : Labels) (x : Object) (after : Labels) (j : ℕ) (m : Lexeme) (N M : List Lexeme) → Alike (Open o) m → read j First ls N ≡ Got x after M → read (suc j) Datum ls (m ∷ N) ≡ Got x after M
read_open o ls x after j m N M (opens q p) h = h

read_quote : (o : ℕ) (ls : Labels) (x : Object) (after : Labels) (j : ℕ) (m : Lexeme) (N M : List Lexeme) → Alike (Quote o) m → read j Datum ls N ≡ Got x after M → read (suc j) Datum ls (m ∷ N) ≡ Got (quoted x) after M
read_quote o ls x after j m N M (quotes q p) h = ap (λ u. and_then u quoting) h

read_mark : (o n : ℕ) (ls : Labels) (x : Object) (after : Labels) → is_begun n ls ≡ false → (j : ℕ) (m : Lexeme) (N M : List Lexeme) → Alike (Mark o n) m → read j Datum (Label n None ls) N ≡ Got x after M → read (suc j) Datum ls (m ∷ N) ≡ Got x (complete n x after) M
read_mark o n ls x after e j m N M (marks q p k) h =
    ap (λ b. if b then halt LABEL p else and_then (read j Datum (Label n None ls) N) (labelling n)) e ∙ ap (λ u. and_then u (labelling n)) h

read_ref : (o n : ℕ) (ls : Labels) (y : Object) → labelled n ls ≡ Some y → (j : ℕ) (m : Lexeme) (M : List Lexeme) → Alike (Ref o n) m → read (suc j) Datum ls (m ∷ M) ≡ Got y ls M
read_ref o n ls y e j m M (refs q p k) = ap (λ u. reference p u ls M) e

read_end : (p : Part) (o : ℕ) (ls : Labels) (j : ℕ) (m : Lexeme) (M : List Lexeme) → Alike (Close o) m → read (suc j) First ls (m ∷ M) ≡ Got NIL ls M
read_end p o ls j m M (closes q r) = refl

read_tail_end : (o : ℕ) (ls : Labels) (j : ℕ) (m : Lexeme) (M : List Lexeme) → Alike (Close o) m → read (suc j) Tail ls (m ∷ M) ≡ Got NIL ls M
read_tail_end o ls j m M (closes q r) = refl

read_dot : (o : ℕ) (ls : Labels) (x : Object) (after : Labels) (j : ℕ) (m : Lexeme) (N M : List Lexeme) → Alike (Dot o) m → read j Last ls N ≡ Got x after M → read (suc j) Tail ls (m ∷ N) ≡ Got x after M
read_dot o ls x after j m N M (dots q p) h = h

quote_taken : (k : ℕ) (ls : Labels) (o : ℕ) (L : List Lexeme) (x : Object) (after : Labels) (r : List Lexeme) → ((y : Object) (ms : Labels) (s : List Lexeme) → read k Datum ls L ≡ Got y ms s → Taken Datum ls L y ms s) → and_then (read k Datum ls L) quoting ≡ Got x after r → Taken Datum ls (Quote o ∷ L) x after r
quote_taken k ls o L x after r t h =
    let a = then_got (read k Datum ls L) quoting x after r h in
    retyped Datum ls (Quote o ∷ L) (quoted a.x) x a.ls after a.r r (then_taken Datum Datum ls ls (Quote o) L a.x (quoted a.x) a.ls a.ls a.r (quotes o o) (t a.x a.ls a.r a.is) (read_quote o ls a.x a.ls)) a.next

mark_taken : (k : ℕ) (ls : Labels) (o n : ℕ) (L : List Lexeme) (x : Object) (after : Labels) (r : List Lexeme) → ((y : Object) (ms : Labels) (s : List Lexeme) → read k Datum (Label n None ls) L ≡ Got y ms s → Taken Datum (Label n None ls) L y ms s) → (b : Bool) → is_begun n ls ≡ b → (if b then halt LABEL o else and_then (read k Datum (Label n None ls) L) (labelling n)) ≡ Got x after r → Taken Datum ls (Mark o n ∷ L) x after r
mark_taken k ls o n L x after r t true e h = cc
mark_taken k ls o n L x after r t false e h =
    let a = then_got (read k Datum (Label n None ls) L) (labelling n) x after r h in
    retyped Datum ls (Mark o n ∷ L) a.x x (complete n a.x a.ls) after a.r r (then_taken Datum Datum ls (Label n None ls) (Mark o n) L a.x a.x a.ls (complete n a.x a.ls) a.r (marks o o n) (t a.x a.ls a.r a.is) (read_mark o n ls a.x a.ls e)) a.next

ref_taken : (ls : Labels) (o n : ℕ) (L : List Lexeme) (x : Object) (after : Labels) (r : List Lexeme) → (y : Option Object) → labelled n ls ≡ y → reference o y ls L ≡ Got x after r → Taken Datum ls (Ref o n ∷ L) x after r
ref_taken ls o n L x after r None e h = cc
ref_taken ls o n L x after r (Some y) e h = retyped Datum ls (Ref o n ∷ L) y x ls after L r (one_taken Datum ls (Ref o n) L y ls (refs o o n) (read_ref o n ls y e)) h

pub taken : (k : ℕ) (p : Part) (ls : Labels) (L : List Lexeme) (x : Object) (after : Labels) (r : List Lexeme) → read k p ls L ≡ Got x after r → Taken p ls L x after r
taken zero p ls L x after r h = cc
taken (suc k) Datum ls [] x after r h = cc
taken (suc k) First ls [] x after r h = cc
taken (suc k) Tail ls [] x after r h = cc
taken (suc k) Last ls [] x after r h = cc
taken (suc k) Datum ls (Atom o y ∷ L) x after r h = retyped Datum ls (Atom o y ∷ L) y x ls after L r (one_taken Datum ls (Atom o y) L y ls (atoms o o y) (read_atom o y ls)) h
taken (suc k) Datum ls (Open o ∷ L) x after r h = then_taken Datum First ls ls (Open o) L x x after after r (opens o o) (taken k First ls L x after r h) (read_open o ls x after)
taken (suc k) Datum ls (Quote o ∷ L) x after r h = quote_taken k ls o L x after r (λ y ms s e. taken k Datum ls L y ms s e) h
taken (suc k) Datum ls (Mark o n ∷ L) x after r h = mark_taken k ls o n L x after r (λ y ms s e. taken k Datum (Label n None ls) L y ms s e) (is_begun n ls) refl h
taken (suc k) Datum ls (Ref o n ∷ L) x after r h = ref_taken ls o n L x after r (labelled n ls) refl h
taken (suc k) Datum ls (_ ∷ L) x after r h = cc
taken (suc k) First ls (Close o ∷ L) x after r h = retyped First ls (Close o ∷ L) NIL x ls after L r (one_taken First ls (Close o) L NIL ls (closes o o) (read_end First o ls)) h
taken (suc k) First ls (l ∷ L) x after r h = list_taken First k ls l L x after r tt first_read (λ y ms s e. taken k Datum ls (l ∷ L) y ms s e) (λ ms s y e. taken k Tail ms s y after r e) h
taken (suc k) Tail ls (Close o ∷ L) x after r h = retyped Tail ls (Close o ∷ L) NIL x ls after L r (one_taken Tail ls (Close o) L NIL ls (closes o o) (read_tail_end o ls)) h
taken (suc k) Tail ls (Dot o ∷ L) x after r h = then_taken Tail Last ls ls (Dot o) L x x after after r (dots o o) (taken k Last ls L x after r h) (read_dot o ls x after)
taken (suc k) Tail ls (l ∷ L) x after r h = list_taken Tail k ls l L x after r tt tail_read (λ y ms s e. taken k Datum ls (l ∷ L) y ms s e) (λ ms s y e. taken k Tail ms s y after r e) h
taken (suc k) Last ls (Close o ∷ L) x after r h = cc
taken (suc k) Last ls (l ∷ L) x after r h = last_taken k ls l L x after r tt (λ y ms s e. taken k Datum ls (l ∷ L) y ms s e) h
