-- A datum is read alike after labels that it does not begin, and begins just its own.
use Rattle.std.proofs.Common.{◌≡◌, ℕ, zero, suc, Bool, true, false, eqb, List, [], ◌∷◌, ◌++◌, Option, Some, None, refl, sym, ap, ap₂, ◌∙◌, subst, if◌then◌else◌}
use Rattle.mw_model.specs.Terms.Object.{Object}
use Rattle.mw_model.specs.Values.Truth.{Each}
use Rattle.mw_model.specs.Texts.Lexemes.{Lexeme, LABEL, Atom, Open, Close, Dot, Quote, Mark, Ref}
use Rattle.mw_model.specs.Texts.Grammar.{Labels, Unused, Label, is_begun, labelled, complete, Read, Got, Stop, and_then, quoting, labelling, pairing, and_tail, halt, closing, reference, Part, Datum, First, Tail, Last, read}
use Rattle.mw_model.specs.Texts.Written.{labels_begun}
use Rattle.mw_model.proofs.Locality.{then_got, closed, taken}

-- the labels that are begun, the last one first
abbrev pub begun_in : Labels → List ℕ
begun_in Unused = []
begun_in (Label n x ls) = n ∷ begun_in ls

complete_begins : (n : ℕ) (x : Object) (ls : Labels) → begun_in (complete n x ls) ≡ begun_in ls
complete_begins n x Unused = refl
complete_begins n x (Label m y ls) = go (eqb n m) (complete_begins n x ls)
  where
    go : (v : Bool) → begun_in (complete n x ls) ≡ begun_in ls → begun_in (if v then Label m (Some x) ls else Label m y (complete n x ls)) ≡ m ∷ begun_in ls
    go true h = refl
    go false h = ap (λ z. m ∷ z) h

-- the lexemes that are left begin no more
labels_parts : (P : ℕ → Type 0) (L M : List Lexeme) → Each P (labels_begun (L ++ M)) → Each P (labels_begun M)
labels_parts P [] M h = h
labels_parts P (Mark o n ∷ L) M h = labels_parts P L M h.1
labels_parts P (_ ∷ L) M h = labels_parts P L M h

labels_left : (P : ℕ → Type 0) (k : ℕ) (p : Part) (ls : Labels) (L : List Lexeme) (x : Object) (after : Labels) (r : List Lexeme) → read k p ls L ≡ Got x after r → Each P (labels_begun L) → Each P (labels_begun r)
labels_left P k p ls L x after r h b = let t = taken k p ls L x after r h in labels_parts P t.front r (subst (λ z. Each P (labels_begun z)) t.is b)

-- newer labels, and older ones
abbrev pub and_older : Labels → Labels → Labels
and_older Unused older = older
and_older (Label n x ls) older = Label n x (and_older ls older)

abbrev read_after : Labels → Read → Read
read_after older (Got x ls r) = Got x (and_older ls older) r
read_after older (Stop s) = Stop s

module _ (older : Labels) (P : ℕ → Type 0) (fresh : (n : ℕ) → P n → is_begun n older ≡ false) where
  older_begun : (n : ℕ) (ls : Labels) → P n → is_begun n ls ≡ false → is_begun n (and_older ls older) ≡ false
  older_begun n Unused p h = fresh n p
  older_begun n (Label m x ls) p h = go (eqb n m) h (older_begun n ls p)
    where
      go : (v : Bool) → (if v then true else is_begun n ls) ≡ false → (is_begun n ls ≡ false → is_begun n (and_older ls older) ≡ false) → (if v then true else is_begun n (and_older ls older)) ≡ false
      go true h ih = h
      go false h ih = ih h

  older_labelled : (n : ℕ) (ls : Labels) (y : Object) → labelled n ls ≡ Some y → labelled n (and_older ls older) ≡ Some y
  older_labelled n Unused y h = cc
  older_labelled n (Label m x ls) y h = go (eqb n m) h (older_labelled n ls y)
    where
      go : (v : Bool) → (if v then x else labelled n ls) ≡ Some y → (labelled n ls ≡ Some y → labelled n (and_older ls older) ≡ Some y) → (if v then x else labelled n (and_older ls older)) ≡ Some y
      go true h ih = h
      go false h ih = ih h

  complete_none : (n : ℕ) (x : Object) (ls : Labels) → is_begun n ls ≡ false → complete n x ls ≡ ls
  complete_none n x Unused h = refl
  complete_none n x (Label m y ls) h = go (eqb n m) h (complete_none n x ls)
    where
      go : (v : Bool) → (if v then true else is_begun n ls) ≡ false → (is_begun n ls ≡ false → complete n x ls ≡ ls) → (if v then Label m (Some x) ls else Label m y (complete n x ls)) ≡ Label m y ls
      go true h ih = cc
      go false h ih = ap (Label m y) (ih h)

  older_complete : (n : ℕ) (x : Object) (ls : Labels) → P n → complete n x (and_older ls older) ≡ and_older (complete n x ls) older
  older_complete n x Unused p = complete_none n x older (fresh n p)
  older_complete n x (Label m y ls) p = go (eqb n m) (older_complete n x ls p)
    where
      go : (v : Bool) → complete n x (and_older ls older) ≡ and_older (complete n x ls) older → (if v then Label m (Some x) (and_older ls older) else Label m y (complete n x (and_older ls older))) ≡ and_older (if v then Label m (Some x) ls else Label m y (complete n x ls)) older
      go true h = refl
      go false h = ap (Label m y) h

  -- what is read is read after older labels too, and begins labels of this kind alone
  pub record After (k : ℕ) (p : Part) (ls : Labels) (L : List Lexeme) (x : Object) (after : Labels) (r : List Lexeme) : Type 0 where
    pub reads : read k p (and_older ls older) L ≡ Got x (and_older after older) r
    pub begins : Each P (begun_in ls) → Each P (begun_in after)

  abbrev Goes : ℕ → Part → Labels → List Lexeme → Type 0
  Goes k p ls L = (x : Object) (after : Labels) (r : List Lexeme) → read k p ls L ≡ Got x after r → Each P (labels_begun L) → After k p ls L x after r

  -- one lexeme
  at_once : (k : ℕ) (p : Part) (ls : Labels) (L : List Lexeme) (x y : Object) (after : Labels) (r s : List Lexeme) → read k p (and_older ls older) L ≡ Got y (and_older ls older) s → Got y ls s ≡ Got x after r → After k p ls L x after r
  at_once k p ls L x y after r s h e =
      let same : ls ≡ after = cc in record { reads = h ∙ ap (read_after older) e; begins = λ b. subst (λ z. Each P (begun_in z)) same b }

  ref_after : (k : ℕ) (ls : Labels) (o n : ℕ) (L : List Lexeme) (x : Object) (after : Labels) (r : List Lexeme) → (y : Option Object) → labelled n ls ≡ y → reference o y ls L ≡ Got x after r → After (suc k) Datum ls (Ref o n ∷ L) x after r
  ref_after k ls o n L x after r None e h = cc
  ref_after k ls o n L x after r (Some y) e h = at_once (suc k) Datum ls (Ref o n ∷ L) x y after r L (ap (λ u. reference o u (and_older ls older) L) (older_labelled n ls y e)) h

  quote_after : (k : ℕ) (ls : Labels) (o : ℕ) (L : List Lexeme) → Goes k Datum ls L → Goes (suc k) Datum ls (Quote o ∷ L)
  quote_after k ls o L g x after r h b =
      let a = then_got (read k Datum ls L) quoting x after r h in
      let i = g a.x a.ls a.r a.is b in
      let same : a.ls ≡ after = let n = a.next in cc in
      record { reads = ap (λ u. and_then u quoting) i.reads ∙ ap (read_after older) a.next; begins = λ c. subst (λ z. Each P (begun_in z)) same (i.begins c) }

  mark_after : (k : ℕ) (ls : Labels) (o n : ℕ) (L : List Lexeme) (x : Object) (after : Labels) (r : List Lexeme) → Goes k Datum (Label n None ls) L → P n → Each P (labels_begun L) → (v : Bool) → is_begun n ls ≡ v → (if v then halt LABEL o else and_then (read k Datum (Label n None ls) L) (labelling n)) ≡ Got x after r → After (suc k) Datum ls (Mark o n ∷ L) x after r
  mark_after k ls o n L x after r g p b true e h = cc
  mark_after k ls o n L x after r g p b false e h =
      let a = then_got (read k Datum (Label n None ls) L) (labelling n) x after r h in
      let i = g a.x a.ls a.r a.is b in
      let same : complete n a.x a.ls ≡ after = let m = a.next in cc in
      record {
        reads = ap (λ u. if u then halt LABEL o else and_then (read k Datum (Label n None (and_older ls older)) L) (labelling n)) (older_begun n ls p e)
            ∙ (ap (λ u. and_then u (labelling n)) i.reads
            ∙ (ap (λ u. Got a.x u a.r) (older_complete n a.x a.ls p) ∙ ap (read_after older) a.next));
        begins = λ c. subst (λ z. Each P (begun_in z)) same (subst (Each P) (sym (complete_begins n a.x a.ls)) (i.begins (p, c)));
      }

  list_after : (k : ℕ) (p : Part) (ls : Labels) (L : List Lexeme) → ((ms : Labels) → read (suc k) p ms L ≡ and_then (read k Datum ms L) (and_tail (read k Tail))) → Goes k Datum ls L → ((ms : Labels) (M : List Lexeme) → Goes k Tail ms M) → Goes (suc k) p ls L
  list_after k p ls L open_up g t x after r h b =
      let a = then_got (read k Datum ls L) (and_tail (read k Tail)) x after r (sym (open_up ls) ∙ h) in
      let c = then_got (read k Tail a.ls a.r) (pairing a.x) x after r a.next in
      let i = g a.x a.ls a.r a.is b in
      let j = t a.ls a.r c.x c.ls c.r c.is (labels_left P k Datum ls L a.x a.ls a.r a.is b) in
      let same : c.ls ≡ after = let m = c.next in cc in
      record {
        reads = open_up (and_older ls older) ∙ (ap (λ u. and_then u (and_tail (read k Tail))) i.reads ∙ (ap (λ u. and_then u (pairing a.x)) j.reads ∙ ap (read_after older) c.next));
        begins = λ d. subst (λ z. Each P (begun_in z)) same (j.begins (i.begins d));
      }

  last_after : (k : ℕ) (ls : Labels) (L : List Lexeme) → ((ms : Labels) → read (suc k) Last ms L ≡ and_then (read k Datum ms L) closing) → Goes k Datum ls L → Goes (suc k) Last ls L
  last_after k ls L open_up g x after r h b =
      let a = then_got (read k Datum ls L) closing x after r (sym (open_up ls) ∙ h) in
      let c = closed a.x a.ls a.r x after r a.next in
      let i = g a.x a.ls a.r a.is b in
      record {
        reads = open_up (and_older ls older) ∙ (ap (λ u. and_then u closing) i.reads ∙ (ap (closing a.x (and_older a.ls older)) c.is ∙ ap₂ (λ y ms. Got y (and_older ms older) r) c.same_object c.same_labels));
        begins = λ d. subst (λ z. Each P (begun_in z)) c.same_labels (i.begins d);
      }

  pub after_older : (k : ℕ) (p : Part) (ls : Labels) (L : List Lexeme) → Goes k p ls L
  after_older zero p ls L x after r h b = cc
  after_older (suc k) Datum ls [] x after r h b = cc
  after_older (suc k) First ls [] x after r h b = cc
  after_older (suc k) Tail ls [] x after r h b = cc
  after_older (suc k) Last ls [] x after r h b = cc
  after_older (suc k) Datum ls (Atom o y ∷ L) x after r h b = at_once (suc k) Datum ls (Atom o y ∷ L) x y after r L refl h
  after_older (suc k) Datum ls (Open o ∷ L) x after r h b = let i = after_older k First ls L x after r h b in record { reads = i.reads; begins = i.begins }
  after_older (suc k) Datum ls (Quote o ∷ L) x after r h b = quote_after k ls o L (λ y ms s e c. after_older k Datum ls L y ms s e c) x after r h b
  after_older (suc k) Datum ls (Mark o n ∷ L) x after r h b = mark_after k ls o n L x after r (λ y ms s e c. after_older k Datum (Label n None ls) L y ms s e c) b.0 b.1 (is_begun n ls) refl h
  after_older (suc k) Datum ls (Ref o n ∷ L) x after r h b = ref_after k ls o n L x after r (labelled n ls) refl h
  after_older (suc k) Datum ls (_ ∷ L) x after r h b = cc
  after_older (suc k) First ls (Close o ∷ L) x after r h b = at_once (suc k) First ls (Close o ∷ L) x _ after r L refl h
  after_older (suc k) First ls (l ∷ L) x after r h b = list_after k First ls (l ∷ L) (λ ms. refl) (λ y ms s e c. after_older k Datum ls (l ∷ L) y ms s e c) (λ ms M y ns s e c. after_older k Tail ms M y ns s e c) x after r h b
  after_older (suc k) Tail ls (Close o ∷ L) x after r h b = at_once (suc k) Tail ls (Close o ∷ L) x _ after r L refl h
  after_older (suc k) Tail ls (Dot o ∷ L) x after r h b = let i = after_older k Last ls L x after r h b in record { reads = i.reads; begins = i.begins }
  after_older (suc k) Tail ls (l ∷ L) x after r h b = list_after k Tail ls (l ∷ L) (λ ms. refl) (λ y ms s e c. after_older k Datum ls (l ∷ L) y ms s e c) (λ ms M y ns s e c. after_older k Tail ms M y ns s e c) x after r h b
  after_older (suc k) Last ls (Close o ∷ L) x after r h b = cc
  after_older (suc k) Last ls (l ∷ L) x after r h b = last_after k ls (l ∷ L) (λ ms. refl) (λ y ms s e c. after_older k Datum ls (l ∷ L) y ms s e c) x after r h b
