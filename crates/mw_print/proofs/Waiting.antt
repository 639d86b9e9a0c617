-- What a piece writes is what comes before its parts, and then what these write.
use Rattle.std.proofs.Common.{◌≡◌, ℕ, ◌+◌, ◌<◌, suc, Bool, true, false, ◌&&◌, leb, nat_eq, cond, List, [], ◌∷◌, ◌++◌, length, All, Option, Some, None, is_some, ◌⊎◌, inl, inr, refl, sym, ap, ap₂, ◌∙◌, subst, append-nil, append_assoc, arith}
use Rattle.std.specs.List.{list_any}
use Rattle.std.specs.Map.{lookup}
use Rattle.std.proofs.lemmas.List.Elements.{All-append, All-cons, All-nil, All-pop}
use Rattle.mw_model.specs.Terms.Object.{Object, Natural, Symbol, Pair, weight}
use Rattle.mw_model.specs.Values.Primitive.{is_pair}
use Rattle.mw_model.specs.Texts.Printing.{text_of, tail_text}
use Rattle.mw_heap.specs.Objects.{object_at, IsIn, AreDistinct}
use Rattle.mw_print.specs.Labelling.{Labels, Labelled, Way, Again, New, Plain, number_of, most_label, one_more, give, label_text, again_text, written, way, way_by, and_then, after_byte, by_way, tail_way, dotted, datum, tail, labelled_text, labelled_next}
use Rattle.mw_print.specs.declared.piece.Piece.{Piece}
use Rattle.mw_print.specs.declared.piece.Piece.TheVariants.{Text, Tail, Given, Close}
use Rattle.mw_print.specs.Waiting.{is_one_of, HasLabels, IsPiece, Advances, after_bytes, piece_weight, pieces_weight, piece_written, pieces_written}
use Rattle.mw_print.proofs.References.{same-references, list_any-references}

-- ---- the texts of pieces one after another

and_then-assoc : (w : Labelled) (f g : Labels → Labelled) → and_then (and_then w f) g ≡ and_then w (λ l. and_then (f l) g)
and_then-assoc w f g =
    let u = f w.after in
    let v = g u.after in
    ap (λ t. written t v.after) (append_assoc w.text u.text v.text)

and_then-end : (w : Labelled) → w ≡ and_then w (λ l. written [] l)
and_then-end w = ap (λ t. written t w.after) (sym (append-nil w.text))

alone : (t : List ℕ) (l : Labels) → written t l ≡ after_bytes t (written [] l)
alone t l = ap (λ u. written u l) (sym (append-nil t))

pieces_weight-append : (os : List Object) (ps qs : List Piece) → pieces_weight os (ps ++ qs) ≡ pieces_weight os qs + pieces_weight os ps
pieces_weight-append os [] qs = omega arith
pieces_weight-append os (p ∷ ps) qs = omega (arith, pieces_weight-append os ps qs)

pub pieces_fall : (os : List Object) (rest new_ps ps : List Piece) (p : Piece) → ps ≡ rest ++ p ∷ [] → pieces_weight os new_ps < piece_weight os p + pieces_weight os rest → pieces_weight os new_ps < pieces_weight os ps
pieces_fall os rest new_ps ps p e less = omega (arith, less, pieces_weight-append os rest (p ∷ []), ap (pieces_weight os) e)

pub All-one : {X : Type 0} (P : X → Type 0) (x : X) → P x → All P (x ∷ [])
All-one P x h = All-cons P x [] h (All-nil P)

module _ (s : Object → Bool) (os : List Object) where
  pub pieces_written-append : (ps qs : List Piece) (l : Labels) → pieces_written s os (ps ++ qs) l ≡ and_then (pieces_written s os qs l) (pieces_written s os ps)
  pieces_written-append [] qs l = and_then-end (pieces_written s os qs l)
  pieces_written-append (p ∷ ps) qs l =
      ap (λ w. and_then w (piece_written s os p)) (pieces_written-append ps qs l)
      ∙ and_then-assoc (pieces_written s os qs l) (pieces_written s os ps) (piece_written s os p)

  -- the piece p writes the bytes t, and then what the pieces qs write with the labels m
  module _ (p : Piece) (ps qs : List Piece) (t old : List ℕ) (l m : Labels) (begins : piece_written s os p l ≡ after_bytes t (pieces_written s os qs m)) where
    begun-same : after_bytes (old ++ t) (pieces_written s os (ps ++ qs) m) ≡ after_bytes old (and_then (piece_written s os p l) (pieces_written s os ps))
    begun-same =
        let w = pieces_written s os qs m in
        let u = pieces_written s os ps w.after in
        ap (after_bytes (old ++ t)) (pieces_written-append ps qs m)
        ∙ (ap (λ v. written v u.after) (append_assoc old t (w.text ++ u.text) ∙ ap (λ v. old ++ v) (sym (append_assoc t w.text u.text)))
        ∙ ap (λ v. after_bytes old (and_then v (pieces_written s os ps))) (sym begins))

  pub advances : (p : Piece) (ps qs new_ps : List Piece) (given new_given : List (ℕ × ℕ)) (next new_next : ℕ) (t old new : List ℕ) →
      All (IsPiece os) ps → new_ps ≡ ps ++ qs → new ≡ old ++ t → All (IsPiece os) qs → pieces_weight os qs < piece_weight os p →
      ((l : Labels) → HasLabels os given next l → (m : Labels) × HasLabels os new_given new_next m × (piece_written s os p l ≡ after_bytes t (pieces_written s os qs m))) →
      Advances s os p ps new_ps given new_given next new_next old new
  advances p ps qs new_ps given new_given next new_next t old new all e f ins less begins = record {
    text = λ l h.
        let b = begins l h in
        (b.0, b.1, ap₂ (λ rs u. after_bytes u (pieces_written s os rs b.0)) e f ∙ begun-same p ps qs t old l b.0 b.2);
    within = subst (All (IsPiece os)) (sym e) (All-append (IsPiece os) ps qs all ins);
    lighter = omega (arith, less, pieces_weight-append os ps qs, ap (pieces_weight os) e);
  }

  -- ---- the text of a natural or a symbol

  datum-atom : (x : Object) (l : Labels) → is_pair x ≡ false → datum s x l ≡ written (text_of x) l
  datum-atom (Natural n) l h = refl
  datum-atom (Symbol y) l h = refl
  datum-atom (Pair a d) l h = cc

  tail-atom : (x : Object) (l : Labels) → is_pair x ≡ false → tail s x l ≡ written (tail_text x) l
  tail-atom (Natural n) l h = refl
  tail-atom (Symbol y) l h = refl
  tail-atom (Pair a d) l h = cc

  -- ---- the text of a pair, by its way

  way-again : (x : Object) (l : Labels) (n : ℕ) → number_of x l ≡ Some n → way s x l ≡ Again n
  way-again x l n h = ap (λ o. way_by o (s x && leb l.next most_label)) h

  way-new : (x : Object) (l : Labels) → number_of x l ≡ None → (s x && leb l.next most_label) ≡ true → way s x l ≡ New
  way-new x l h t = ap₂ way_by h t

  way-plain : (x : Object) (l : Labels) → number_of x l ≡ None → (s x && leb l.next most_label) ≡ false → way s x l ≡ Plain
  way-plain x l h t = ap₂ way_by h t

  abbrev parts : ℕ → Object → Object → Labels → Labelled
  parts b a d m = after_byte b (and_then (datum s a m) (tail s d))

  datum-way : (y a d : Object) (l : Labels) (v : Way) → y ≡ Pair a d → way s y l ≡ v → datum s y l ≡ by_way v y l (parts 40 a d)
  datum-way y a d l v e w = subst (λ z. way s z l ≡ v → datum s z l ≡ by_way v z l (parts 40 a d)) (sym e) (λ h. ap (λ u. by_way u (Pair a d) l (parts 40 a d)) h) w

  tail-way : (y a d : Object) (l : Labels) (v : Way) → y ≡ Pair a d → way s y l ≡ v → tail s y l ≡ tail_way v y l (λ b. parts b a d)
  tail-way y a d l v e w = subst (λ z. way s z l ≡ v → tail s z l ≡ tail_way v z l (λ b. parts b a d)) (sym e) (λ h. ap (λ u. tail_way u (Pair a d) l (λ b. parts b a d)) h) w

  module _ (x a d : ℕ) (pair : object_at os x ≡ Pair (object_at os a) (object_at os d)) (l : Labels) where
    begins-again : (n : ℕ) → number_of (object_at os x) l ≡ Some n → datum s (object_at os x) l ≡ after_bytes (again_text n) (pieces_written s os [] l)
    begins-again n h = datum-way (object_at os x) (object_at os a) (object_at os d) l (Again n) pair (way-again (object_at os x) l n h) ∙ alone (again_text n) l

    begins-plain : number_of (object_at os x) l ≡ None → (s (object_at os x) && leb l.next most_label) ≡ false → datum s (object_at os x) l ≡ after_bytes (40 ∷ []) (pieces_written s os (Tail d ∷ Text a ∷ []) l)
    begins-plain h t = datum-way (object_at os x) (object_at os a) (object_at os d) l Plain pair (way-plain (object_at os x) l h t)

    begins-new : number_of (object_at os x) l ≡ None → (s (object_at os x) && leb l.next most_label) ≡ true →
        datum s (object_at os x) l ≡ after_bytes (label_text l.next ++ 40 ∷ []) (pieces_written s os (Given x l.next ∷ Tail d ∷ Text a ∷ []) (one_more l))
    begins-new h t =
        let w = and_then (datum s (object_at os a) (one_more l)) (tail s (object_at os d)) in
        datum-way (object_at os x) (object_at os a) (object_at os d) l New pair (way-new (object_at os x) l h t)
        ∙ ap (λ u. written u (give (object_at os x) l.next w.after)) (sym (append_assoc (label_text l.next) (40 ∷ []) (w.text ++ []) ∙ ap (λ u. label_text l.next ++ (40 ∷ u)) (append-nil w.text)))

    goes_on-plain : number_of (object_at os x) l ≡ None → (s (object_at os x) && leb l.next most_label) ≡ false → tail s (object_at os x) l ≡ after_bytes (32 ∷ []) (pieces_written s os (Tail d ∷ Text a ∷ []) l)
    goes_on-plain h t = tail-way (object_at os x) (object_at os a) (object_at os d) l Plain pair (way-plain (object_at os x) l h t)

    goes_on-again : (n : ℕ) → number_of (object_at os x) l ≡ Some n → tail s (object_at os x) l ≡ after_bytes (32 ∷ 46 ∷ 32 ∷ []) (pieces_written s os (Close ∷ Text x ∷ []) l)
    goes_on-again n h =
        let w = way-again (object_at os x) l n h in
        tail-way (object_at os x) (object_at os a) (object_at os d) l (Again n) pair w
        ∙ ap dotted (sym (datum-way (object_at os x) (object_at os a) (object_at os d) l (Again n) pair w))

    goes_on-new : number_of (object_at os x) l ≡ None → (s (object_at os x) && leb l.next most_label) ≡ true → tail s (object_at os x) l ≡ after_bytes (32 ∷ 46 ∷ 32 ∷ []) (pieces_written s os (Close ∷ Text x ∷ []) l)
    goes_on-new h t =
        let w = way-new (object_at os x) l h t in
        tail-way (object_at os x) (object_at os a) (object_at os d) l New pair w
        ∙ ap dotted (sym (datum-way (object_at os x) (object_at os a) (object_at os d) l New pair w))

-- ---- the steps at a pair

none_if : (o : Option ℕ) → is_some o ≡ false → o ≡ None
none_if None h = refl
none_if (Some n) h = cc

module _ (os : List Object) (distinct : AreDistinct os) (refs : List ℕ) (x a d : ℕ) (x_in : IsIn os x) (a_in : IsIn os a) (d_in : IsIn os d) (pair : object_at os x ≡ Pair (object_at os a) (object_at os d)) where
  labelled_if : (next : ℕ) (l : Labels) (b : Bool) → next ≡ l.next → (list_any (nat_eq x) refs && leb next most_label) ≡ b → (is_one_of os refs (object_at os x) && leb l.next most_label) ≡ b
  labelled_if next l b e t = ap₂ (λ u n. u && leb n most_label) (sym (list_any-references os distinct refs x x_in)) (sym e) ∙ t

  opened_in : All (IsPiece os) (Tail d ∷ Text a ∷ [])
  opened_in = All-append (IsPiece os) (Tail d ∷ []) (Text a ∷ []) (All-one (IsPiece os) (Tail d) d_in) (All-one (IsPiece os) (Text a) a_in)

  module _ (ps new_ps : List Piece) (given : List (ℕ × ℕ)) (next : ℕ) (old new : List ℕ) (all : All (IsPiece os) ps) where
    pub plain_text_advances : new_ps ≡ ps ++ Tail d ∷ Text a ∷ [] → new ≡ old ++ 40 ∷ [] → None ≡ lookup (nat_eq x) given → (list_any (nat_eq x) refs && leb next most_label) ≡ false →
        Advances (is_one_of os refs) os (Text x) ps new_ps given given next next old new
    plain_text_advances e f none t = advances (is_one_of os refs) os (Text x) ps (Tail d ∷ Text a ∷ []) new_ps given given next next (40 ∷ []) old new all e f opened_in
        (omega (arith, ap weight pair))
        (λ l h. (l, h, begins-plain (is_one_of os refs) os x a d pair l (sym (h.0 x x_in) ∙ sym none) (labelled_if next l false h.1 t)))

    pub new_text_advances : (middle : List ℕ) (labelled : List Piece) (new_next : ℕ) → labelled ≡ ps ++ Given x next ∷ [] → middle ≡ old ++ label_text next → new_next ≡ suc next → new_ps ≡ labelled ++ Tail d ∷ Text a ∷ [] → new ≡ middle ++ 40 ∷ [] →
        None ≡ lookup (nat_eq x) given → (list_any (nat_eq x) refs && leb next most_label) ≡ true →
        Advances (is_one_of os refs) os (Text x) ps new_ps given given next new_next old new
    new_text_advances middle labelled new_next el em en e f none t = advances (is_one_of os refs) os (Text x) ps (Given x next ∷ Tail d ∷ Text a ∷ []) new_ps given given next new_next (label_text next ++ 40 ∷ []) old new all
        (e ∙ (ap (λ qs. qs ++ Tail d ∷ Text a ∷ []) el ∙ append_assoc ps (Given x next ∷ []) (Tail d ∷ Text a ∷ [])))
        (f ∙ (ap (λ u. u ++ 40 ∷ []) em ∙ append_assoc old (label_text next) (40 ∷ [])))
        (All-append (IsPiece os) (Given x next ∷ []) (Tail d ∷ Text a ∷ []) (All-one (IsPiece os) (Given x next) x_in) opened_in)
        (omega (arith, ap weight pair))
        (λ l h. (
          one_more l,
          (h.0, en ∙ ap suc h.1),
          begins-new (is_one_of os refs) os x a d pair l (sym (h.0 x x_in) ∙ sym none) (labelled_if next l true h.1 t)
              ∙ ap (λ n. after_bytes (label_text n ++ 40 ∷ []) (pieces_written (is_one_of os refs) os (Given x n ∷ Tail d ∷ Text a ∷ []) (one_more l))) (sym h.1),
        ))

    pub plain_tail_advances : new_ps ≡ ps ++ Tail d ∷ Text a ∷ [] → new ≡ old ++ 32 ∷ [] → is_some (lookup (nat_eq x) given) ≡ false → (list_any (nat_eq x) refs && leb next most_label) ≡ false →
        Advances (is_one_of os refs) os (Tail x) ps new_ps given given next next old new
    plain_tail_advances e f none t = advances (is_one_of os refs) os (Tail x) ps (Tail d ∷ Text a ∷ []) new_ps given given next next (32 ∷ []) old new all e f opened_in
        (omega (arith, ap weight pair))
        (λ l h. (l, h, goes_on-plain (is_one_of os refs) os x a d pair l (sym (h.0 x x_in) ∙ none_if (lookup (nat_eq x) given) none) (labelled_if next l false h.1 t)))

    dot_in : All (IsPiece os) (Close ∷ Text x ∷ [])
    dot_in = All-append (IsPiece os) (Close ∷ []) (Text x ∷ []) (All-one (IsPiece os) Close tt) (All-one (IsPiece os) (Text x) x_in)

    pub dotted_tail_advances : new_ps ≡ ps ++ Close ∷ Text x ∷ [] → new ≡ old ++ 32 ∷ 46 ∷ 32 ∷ [] → (is_some (lookup (nat_eq x) given) ≡ true) ⊎ ((is_some (lookup (nat_eq x) given) ≡ false) × ((list_any (nat_eq x) refs && leb next most_label) ≡ true)) →
        Advances (is_one_of os refs) os (Tail x) ps new_ps given given next next old new
    dotted_tail_advances e f way = advances (is_one_of os refs) os (Tail x) ps (Close ∷ Text x ∷ []) new_ps given given next next (32 ∷ 46 ∷ 32 ∷ []) old new all e f dot_in
        (omega arith)
        (λ l h. (l, h, by l h way))
      where
        found : (l : Labels) → HasLabels os given next l → (o : Option ℕ) → lookup (nat_eq x) given ≡ o → is_some o ≡ true → tail (is_one_of os refs) (object_at os x) l ≡ after_bytes (32 ∷ 46 ∷ 32 ∷ []) (pieces_written (is_one_of os refs) os (Close ∷ Text x ∷ []) l)
        found l h (Some n) k i = goes_on-again (is_one_of os refs) os x a d pair l n (sym (h.0 x x_in) ∙ k)
        found l h None k i = cc

        by : (l : Labels) → HasLabels os given next l → (is_some (lookup (nat_eq x) given) ≡ true) ⊎ ((is_some (lookup (nat_eq x) given) ≡ false) × ((list_any (nat_eq x) refs && leb next most_label) ≡ true)) → tail (is_one_of os refs) (object_at os x) l ≡ after_bytes (32 ∷ 46 ∷ 32 ∷ []) (pieces_written (is_one_of os refs) os (Close ∷ Text x ∷ []) l)
        by l h (inl i) = found l h (lookup (nat_eq x) given) refl i
        by l h (inr n) = goes_on-new (is_one_of os refs) os x a d pair l (sym (h.0 x x_in) ∙ none_if (lookup (nat_eq x) given) n.0) (labelled_if next l true h.1 n.1)

-- ---- a label is given

module _ (s : Object → Bool) (os : List Object) (distinct : AreDistinct os) (x n : ℕ) (x_in : IsIn os x) where
  pub label_advances : (ps : List Piece) (given new_given : List (ℕ × ℕ)) (next new_next : ℕ) (old : List ℕ) → All (IsPiece os) ps →
      ((r : ℕ) → lookup (nat_eq r) new_given ≡ cond (nat_eq x r) (Some n) (lookup (nat_eq r) given)) → new_next ≡ next →
      Advances s os (Given x n) ps ps given new_given next new_next old old
  label_advances ps given new_given next new_next old all e f = advances s os (Given x n) ps [] ps given new_given next new_next [] old old all (sym (append-nil ps)) (sym (append-nil old)) (All-nil (IsPiece os))
      (omega arith)
      (λ l h. (
        give (object_at os x) n l,
        ((λ r r_in. e r ∙ ap₂ (λ b o. cond b (Some n) o) (same-references os distinct x r x_in r_in) (h.0 r r_in)), f ∙ h.1),
        refl,
      ))

-- ---- all that is written

module _ (s : Object → Bool) (os : List Object) (x first : ℕ) where
  abbrev whole : Labelled
  whole = datum s (object_at os x) (record { given = []; next = first })

  -- what is written, and then what is still to be written, is the text of x
  pub record IsUnderWay (ps : List Piece) (given : List (ℕ × ℕ)) (next : ℕ) (out : List ℕ) : Type 0 where
    pub labels : Labels
    pub has : HasLabels os given next labels
    pub same : after_bytes out (pieces_written s os ps labels) ≡ whole
    pub within : All (IsPiece os) ps

  first_writing : IsIn os x → IsUnderWay (Text x ∷ []) [] first []
  first_writing i = record {
    labels = record { given = []; next = first };
    has = (λ r h. refl, refl);
    same = refl;
    within = All-one (IsPiece os) (Text x) i;
  }

  pub writing_starts : (ps : List Piece) (given : List (ℕ × ℕ)) (out : List ℕ) → IsIn os x → ps ≡ Text x ∷ [] → given ≡ [] → out ≡ [] → IsUnderWay ps given first out
  writing_starts ps given out i e f g =
      subst (λ t. IsUnderWay ps given first t) (sym g) (subst (λ g. IsUnderWay ps g first []) (sym f) (subst (λ l. IsUnderWay l [] first []) (sym e) (first_writing i)))

  module _ (rest : List Piece) (p : Piece) (given : List (ℕ × ℕ)) (next : ℕ) (out : List ℕ) (w : IsUnderWay (rest ++ p ∷ []) given next out) where
    pub writing_rest : All (IsPiece os) rest × IsPiece os p
    writing_rest = let k = All-pop (IsPiece os) (rest ++ p ∷ []) rest (Some p) refl w.within in (k.0, k.1)

    pub writing_goes_on : (new_ps : List Piece) (new_given : List (ℕ × ℕ)) (new_next : ℕ) (new : List ℕ) → Advances s os p rest new_ps given new_given next new_next out new → IsUnderWay new_ps new_given new_next new
    writing_goes_on new_ps new_given new_next new a =
        let k = a.text w.labels w.has in
        record {
          labels = k.0;
          has = k.1;
          same = k.2 ∙ (ap (after_bytes out) (sym (pieces_written-append s os rest (p ∷ []) w.labels)) ∙ w.same);
          within = a.within;
        }

  pub writing_ends : (ps : List Piece) (given : List (ℕ × ℕ)) (next : ℕ) (out : List ℕ) → ps ≡ [] → IsUnderWay ps given next out → (out ≡ labelled_text s (object_at os x) first) × (next ≡ labelled_next s (object_at os x) first)
  writing_ends ps given next out e w =
      let same = ap (λ l. after_bytes out (pieces_written s os l w.labels)) (sym e) ∙ w.same in (
        sym (append-nil out) ∙ ap (λ (z : Labelled). z.text) same,
        w.has.1 ∙ ap (λ (z : Labelled). z.after.next) same,
      )

pub empty_list : {X : Type 0} (xs : List X) → length xs ≡ 0 → xs ≡ []
empty_list [] h = refl
empty_list (x ∷ xs) h = absurd (omega arith)
