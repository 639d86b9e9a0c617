-- What is known of a block stays so as more is noted, and as the heap grows.
use Rattle.std.proofs.Common.{◌≡◌, ℕ, nat_eq, zero, suc, ◌+◌, ◌<◌, ◌≤◌, Bool, true, false, cond, ◌||◌, List, [], ◌∷◌, ◌++◌, All, length, drop, get_or, None, Some, Result, Ok, Err, OnOk, refl, sym, ap, ◌∙◌, subst, eqb-true, arith}
use Rattle.std.specs.Map.{lookup}
use Rattle.std.proofs.lemmas.List.{drop_more, drop_all}
use Rattle.mw_model.specs.Terms.Object.{Name, Object}
use Rattle.mw_model.specs.Terms.Reading.{term_of, terms_of}
use Rattle.mw_model.specs.Values.Definition.{Function}
use Rattle.mw_model.proofs.ReadBack.{some_one}
use Rattle.mw_heap.specs.Objects.{object_at, IsIn, Grows}
use Rattle.mw_heap.proofs.Objects.{object_at-Grows, IsIn-Grows}
use Rattle.mw_term.specs.Parts.{names_at, AreSymbols}
use Rattle.mw_define.specs.declared.piece.Piece.{Piece}
use Rattle.mw_define.specs.declared.piece.Piece.TheVariants as piece
use Rattle.mw_define.specs.declared.known.Known.{Known}
use Rattle.mw_define.specs.contracts.piece.PiecePartialEq.TheImpl.{ghosts}
use Rattle.mw_define.specs.Collecting.{HasNames}
use Rattle.mw_define.specs.Mentioning.{piece_mentions, some_mentions, IsPiece, Splits}
use Rattle.mw_define.specs.Knowing.{known_of, denial_of, denial_object, AreKnownOf, AreDenials, AreKnown, IsAnswer}
use Rattle.mw_define.proofs.Witnessed.{symbols-Grows, names-Grows}

piece-eq : (p q : Piece) → ghosts.eq p q ≡ true → p ≡ q
piece-eq (piece.Term r) (piece.Term s) h = ap piece.Term (eqb-true r s h)
piece-eq (piece.Term r) (piece.Terms s) h = cc
piece-eq (piece.Terms r) (piece.Term s) h = cc
piece-eq (piece.Terms r) (piece.Terms s) h = ap piece.Terms (eqb-true r s h)

pub on-ok : {T E X : Type 0} (r : Result T E) → X → OnOk r X
on-ok (Ok x) h = h
on-ok (Err e) h = tt

-- nothing is known at first
never : {X : Type 0} {x : X} → None ≡ Some x → ⊥
never h = cc

pub known-none : (os : List Object) (keys : List ℕ) (k : Known) → AreSymbols os keys → k.names.keys ≡ keys → k.pieces.entries ≡ [] → k.denials.entries ≡ [] → AreKnown os keys k
known-none os keys k symbols same none nor = record {
  same = same;
  symbols = symbols;
  pieces = λ p b e. absurd (never (sym (ap (lookup (ghosts.eq p)) none) ∙ e));
  denials = λ t r e. absurd (never (sym (ap (lookup (nat_eq t)) nor) ∙ e));
}

-- what is known of the names that it has, and what was known before of the names that it had
pub known-own : (os : List Object) (keys : List ℕ) (k : Known) → AreKnown os keys k → AreKnown os k.names.keys k
known-own os keys k h = subst (λ ks. AreKnown os ks k) (sym h.same) h

pub known-before : (old new : List Object) (keys : List ℕ) (k more : Known) → AreKnown old keys k → AreKnown new k.names.keys more → AreKnown new keys more
known-before old new keys k more h = subst (λ ks. AreKnown new ks more) h.same

-- a block of the names of one has those of the other
pub has-own : (os : List Object) (keys : List ℕ) (k : Known) → AreKnown os keys k → (B : List Function) → HasNames B (names_at os keys) → HasNames B (names_at os k.names.keys)
has-own os keys k h B = subst (λ ks. HasNames B (names_at os ks)) (sym h.same)

-- one more piece
known-noted : (os : List Object) (keys : List ℕ) (k more : Known) (p : Piece) (b : Bool) → AreKnown os keys k → IsPiece os p → ((B : List Function) → HasNames B (names_at os keys) → b ≡ piece_mentions B os p) → ((q : Piece) → known_of more q ≡ cond (ghosts.eq p q) (Some b) (known_of k q)) → AreKnownOf (names_at os keys) os more
known-noted os keys k more p b h within is puts q a e = go (ghosts.eq p q) refl (sym (puts q) ∙ e)
  where
    go : (c : Bool) → ghosts.eq p q ≡ c → cond c (Some b) (known_of k q) ≡ Some a → IsPiece os q × ((B : List Function) → HasNames B (names_at os keys) → a ≡ piece_mentions B os q)
    go true same d =
        let r = piece-eq p q same in
        (subst (IsPiece os) r within, λ B n. sym (some_one d) ∙ (is B n ∙ ap (piece_mentions B os) r))
    go false other d = h.pieces q a d

-- a larger heap
piece-Grows : (old new : List Object) → Grows old new → (p : Piece) → IsPiece old p → IsPiece new p
piece-Grows old new g (piece.Term x) h = (IsIn-Grows old new g x h.0, h.1, ap term_of (object_at-Grows old new g x h.0) ∙ h.2)
piece-Grows old new g (piece.Terms x) h = (IsIn-Grows old new g x h.0, h.1, ap terms_of (object_at-Grows old new g x h.0) ∙ h.2)

mentions-Grows : (B : List Function) (old new : List Object) → Grows old new → (p : Piece) → IsPiece old p → piece_mentions B old p ≡ piece_mentions B new p
mentions-Grows B old new g (piece.Term x) h = sym (let e = object_at-Grows old new g x h.0 in rw e refl)
mentions-Grows B old new g (piece.Terms x) h = sym (let e = object_at-Grows old new g x h.0 in rw e refl)

pub known_of-Grows : (old new : List Object) (keys : List ℕ) (k : Known) → Grows old new → AreSymbols old keys → AreKnownOf (names_at old keys) old k → AreKnownOf (names_at new keys) new k
known_of-Grows old new keys k g s h p b e =
    let q = h p b e in
    (piece-Grows old new g p q.0, λ B n. q.1 B (n ∙ names-Grows old new keys g s) ∙ mentions-Grows B old new g p q.0)

pub known-same : (names : List Name) (os : List Object) (k more : Known) → AreKnownOf names os k → ((q : Piece) → known_of more q ≡ known_of k q) → AreKnownOf names os more
known-same names os k more h same p b e = h p b (sym (same p) ∙ e)

pub denials-Grows : (old new : List Object) (k : Known) → Grows old new → AreDenials old k → AreDenials new k
denials-Grows old new k g h t r e =
    let q = h t r e in
    (IsIn-Grows old new g t q.0, IsIn-Grows old new g r q.1, object_at-Grows old new g r q.1 ∙ (q.2 ∙ ap denial_object (sym (object_at-Grows old new g t q.0))))

denials-same : (os : List Object) (k more : Known) → AreDenials os k → ((t : ℕ) → denial_of more t ≡ denial_of k t) → AreDenials os more
denials-same os k more h same t r e = h t r (sym (same t) ∙ e)

pub denials-noted : (os : List Object) (k more : Known) (t r : ℕ) → AreDenials os k → IsIn os t → IsIn os r → object_at os r ≡ denial_object (object_at os t) → ((u : ℕ) → denial_of more u ≡ cond (nat_eq t u) (Some r) (denial_of k u)) → AreDenials os more
denials-noted os k more t r h i j is puts u a e = go (nat_eq t u) refl (sym (puts u) ∙ e)
  where
    go : (c : Bool) → nat_eq t u ≡ c → cond c (Some r) (denial_of k u) ≡ Some a → IsIn os u × IsIn os a × (object_at os a ≡ denial_object (object_at os u))
    go true same d =
        let s = eqb-true t u same in
        let q = some_one d in
        (subst (IsIn os) s i, subst (IsIn os) q j, ap (object_at os) (sym q) ∙ (is ∙ ap (λ c. denial_object (object_at os c)) s))
    go false other d = h u a d

-- what is noted, where there is memory for it
pub noted : {T E : Type 0} (r : Result T E) (os : List Object) (keys : List ℕ) (k more : Known) (p : Piece) (b : Bool) → more.names ≡ k.names → AreKnown os keys k → IsPiece os p → ((B : List Function) → HasNames B (names_at os keys) → b ≡ piece_mentions B os p) → OnOk r ((q : Piece) → known_of more q ≡ cond (ghosts.eq p q) (Some b) (known_of k q)) → OnOk r ((t : ℕ) → denial_of more t ≡ denial_of k t) → OnOk r (AreKnown os keys more)
noted (Ok x) os keys k more p b names h within is puts same = record {
  same = ap (λ l. l.keys) names ∙ h.same;
  symbols = h.symbols;
  pieces = known-noted os keys k more p b h within is puts;
  denials = denials-same os k more h.denials same;
}
noted (Err e) os keys k more p b names h within is puts same = tt

pub known-Grows : (old new : List Object) (keys : List ℕ) (k : Known) → Grows old new → AreKnown old keys k → AreKnown new keys k
known-Grows old new keys k g h = record {
  same = h.same;
  symbols = symbols-Grows old new keys g h.symbols;
  pieces = known_of-Grows old new keys k g h.symbols h.pieces;
  denials = denials-Grows old new k g h.denials;
}

-- its names are the same as before the heap grew
pub known-names : (old new : List Object) (keys : List ℕ) (k : Known) → Grows old new → AreSymbols old keys → AreKnown new keys k → names_at new k.names.keys ≡ names_at old keys
known-names old new keys k g s h = ap (names_at new) h.same ∙ names-Grows old new keys g s

-- The pieces before some place are known to be free, if b is true.
abbrev pub AreFreeBefore : Known → List Piece → ℕ → Bool → Type 0
AreFreeBefore k ps i b = b ≡ true → (names : List Name) (os : List Object) → AreKnownOf names os k → (B : List Function) → HasNames B names → some_mentions B os (drop i ps) ≡ some_mentions B os ps

module _ (k : Known) (ps : List Piece) (i : ℕ) (p : Piece) (below : i < length ps) (is : p ≡ get_or ps i p) where
  shape : drop i ps ≡ p ∷ drop (i + 1) ps
  shape = drop_more ps i p below ∙ ap (λ q. q ∷ drop (i + 1) ps) (sym is)

  pub free-next : (b : Bool) → AreFreeBefore k ps i b → known_of k p ≡ Some false → AreFreeBefore k ps (i + 1) b
  free-next b h e t names os known B n =
      ap (λ a. a || some_mentions B os (drop (i + 1) ps)) ((known p false e).1 B n)
      ∙ (sym (ap (some_mentions B os) shape) ∙ h t names os known B n)

pub free-end : (k : Known) (ps : List Piece) (i : ℕ) (b : Bool) → length ps ≤ i → b ≡ true → AreFreeBefore k ps i b → IsAnswer k ps false
free-end k ps i b below t h names os known B n = sym (ap (some_mentions B os) (drop_all i ps below)) ∙ h t names os known B n

or-right : (a : Bool) {b : Bool} → b ≡ true → (a || b) ≡ true
or-right true h = refl
or-right false h = h

pub one-mentions : (k : Known) (ps : List Piece) (i : ℕ) (p : Piece) → i < length ps → p ≡ get_or ps i p → known_of k p ≡ Some true → IsAnswer k ps true
one-mentions k ps i p below is e names os known B n =
    sym (from ps i (ap (λ l. some_mentions B os l) (shape k ps i p below is) ∙ ap (λ b. b || some_mentions B os (drop (i + 1) ps)) (sym ((known p true e).1 B n))))
  where
    from : (qs : List Piece) (j : ℕ) → some_mentions B os (drop j qs) ≡ true → some_mentions B os qs ≡ true
    from [] j h = sym (ap (some_mentions B os) (drop_all j [] (omega arith))) ∙ h
    from (q ∷ qs) zero h = h
    from (q ∷ qs) (suc j) h = or-right (piece_mentions B os q) (from qs j h)

-- what a piece is split into
module _ (names : List Name) (os : List Object) (p : Piece) (ps none : List Piece) (empty : none ≡ []) (s : Splits names os p none ps) where
  only : ps ≡ s.more
  only = s.pushed ∙ ap (λ l. l ++ s.more) empty

  pub split-mention : (B : List Function) → HasNames B names → some_mentions B os ps ≡ piece_mentions B os p
  split-mention B n = ap (some_mentions B os) only ∙ s.mention B n

  pub split-pieces : All (IsPiece os) ps
  split-pieces = subst (All (IsPiece os)) (sym only) s.pieces
