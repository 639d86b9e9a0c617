-- A walk over the parts of a term, each once, that gathers its variables.
use Rattle.std.proofs.Common.{◌≡◌, ℕ, ◌<◌, true, false, cond, List, [], ◌∷◌, ◌++◌, Contains, ◌⊎◌, inl, inr, refl, sym, ap, ◌∙◌, subst, append_assoc, arith}
use Rattle.std.proofs.lemmas.List.{append-nil}
use Rattle.std.proofs.lemmas.List.Elements.{Contains-push, Contains-push_cases, Contains-append_left, Contains-append_cases}
use Rattle.mw_model.specs.Terms.Object.{Name, Object, Natural, Symbol, Pair, symbol, same_object}
use Rattle.mw_model.specs.Terms.Term.{is_among}
use Rattle.mw_model.specs.Values.Primitive.{is_pair, is_symbol, name_of}
use Rattle.mw_heap.specs.Objects.{object_at, IsIn}
use Rattle.mw_term.specs.declared.part.Part.{Part}
use Rattle.mw_term.specs.declared.part.Part.TheVariants.{Term, Terms}
use Rattle.mw_term.specs.Parts.{names_at, AreSymbols}
use Rattle.mw_term.specs.Occurrences.{object_occurrences, objects_occurrences, object_variables, gather, place, IsPartIn, part_occurrences, waiting_occurrences, AreFound, IsLooked}
use Rattle.mw_term.proofs.Symbols.{symbol_is}
use Rattle.mw_term.proofs.Gathered.{names, among_left, among_right, among_cases, gather-append, gather-keeps, gather-has, gather-known, gather-all}

none_in : (p : Part) → Contains [] p → ⊥
none_in p h = absurd (omega (arith, h.1))

one_of : (q p : Part) → Contains (q ∷ []) p → q ≡ p
one_of q p m = elim (Contains-push_cases [] q p m) [ inl n ↦ absurd (none_in p n) | inr e ↦ e ]

-- the last of a list is that of its second half, where this has one
last_half : (rest below above : List Part) (x : Part) → rest ++ x ∷ [] ≡ below ++ above → (above ≡ []) ⊎ ((a : List Part) × (above ≡ a ++ x ∷ []) × (rest ≡ below ++ a))
last_half rest [] above x h = inr (rest, sym h, refl)
last_half [] (b ∷ []) above x h = inl cc
last_half [] (b ∷ (c ∷ bs)) above x h = cc
last_half (r ∷ rs) (b ∷ bs) above x h =
    let head : r ≡ b = cc in
    let tail : rs ++ x ∷ [] ≡ bs ++ above = cc in
    elim (last_half rs bs above x tail) [
      | inl e ↦ inl e
      | inr k ↦ inr (k.0, k.1, ap (λ l. r ∷ l) k.2 ∙ ap (λ y. y ∷ (bs ++ k.0)) head)
    ]

module _ (os : List Object) where
  waiting-append : (ps qs : List Part) → waiting_occurrences os (ps ++ qs) ≡ waiting_occurrences os qs ++ waiting_occurrences os ps
  waiting-append [] qs = sym (append-nil (waiting_occurrences os qs))
  waiting-append (p ∷ ps) qs = ap (λ l. l ++ part_occurrences os p) (waiting-append ps qs) ∙ append_assoc (waiting_occurrences os qs) (waiting_occurrences os ps) (part_occurrences os p)

  -- of a part that was looked at, the variables were found or wait in its own parts, which wait above all others
  pub record IsUnderWay (part : Part) (found : List ℕ) (waiting : List Part) : Type 0 where
    pub below : List Part
    pub above : List Part
    pub split : waiting ≡ below ++ above
    pub before : (p : Part) → Contains above p → place p < place part
    pub known : (z : Name) → is_among z (part_occurrences os part) ≡ true → (is_among z (names_at os found) ≡ true) ⊎ (is_among z (waiting_occurrences os above) ≡ true)

  -- what was found and what waits make the variables of the term
  pub record IsGathering (term : ℕ) (found : List ℕ) (looked waiting : List Part) : Type 0 where
    pub symbols : AreSymbols os found
    pub inside : (p : Part) → Contains waiting p → IsPartIn os p
    pub looked_inside : (p : Part) → Contains looked p → IsPartIn os p
    pub answer : gather is_among (names_at os found) (waiting_occurrences os waiting) ≡ object_variables (object_at os term)
    pub under_way : (p : Part) → Contains looked p → IsUnderWay p found waiting

  pub gathering-start : (term : ℕ) (found : List ℕ) (looked waiting : List Part) → IsIn os term → found ≡ [] → looked ≡ [] → waiting ≡ Term term ∷ [] → IsGathering term found looked waiting
  gathering-start term found looked waiting within no_found no_looked one = record {
    symbols = subst (AreSymbols os) (sym no_found) tt;
    inside = λ p m. subst (IsPartIn os) (one_of (Term term) p (subst (λ l. Contains l p) one m)) within;
    looked_inside = λ p m. absurd (none_in p (subst (λ l. Contains l p) no_looked m));
    answer = ap (λ l. gather is_among (names_at os l) (waiting_occurrences os waiting)) no_found ∙ (ap (λ l. gather is_among [] (waiting_occurrences os l)) one ∙ gather-all names (part_occurrences os (Term term)));
    under_way = λ p m. absurd (none_in p (subst (λ l. Contains l p) no_looked m));
  }

  module _ (part : Part) (found new : List ℕ) (rest waiting : List Part) (l : IsLooked os part found new rest waiting) where
    -- a variable of the part was found, or waits in its parts
    split : (z : Name) → is_among z (part_occurrences os part) ≡ true → (is_among z (names_at os new) ≡ true) ⊎ (is_among z (waiting_occurrences os l.more) ≡ true)
    split z h =
        elim (among_cases names z l.first (waiting_occurrences os l.more) (subst (λ k. is_among z k ≡ true) l.occurrences h)) [
          | inl k ↦ inl (subst (λ k. is_among z k ≡ true) (sym l.finds.names) (gather-has names (names_at os found) l.first z k))
          | inr k ↦ inr k
        ]

    keeps : (z : Name) → is_among z (names_at os found) ≡ true → is_among z (names_at os new) ≡ true
    keeps z h = subst (λ k. is_among z k ≡ true) (sym l.finds.names) (gather-keeps names (names_at os found) l.first z h)

    now_under_way : IsUnderWay part new waiting
    now_under_way = record { below = rest; above = l.more; split = l.longer; before = l.before; known = split }

    still_under_way : (q : Part) → IsUnderWay q found (rest ++ part ∷ []) → IsUnderWay q new waiting
    still_under_way q w =
        elim (last_half rest w.below w.above part w.split) [
          | inl none ↦
              record {
                below = waiting;
                above = [];
                split = sym (append-nil waiting);
                before = λ p m. absurd (none_in p m);
                known = λ z h. elim (w.known z h) [ inl k ↦ inl (keeps z k) | inr k ↦ let k' : is_among z [] ≡ true = subst (λ a. is_among z (waiting_occurrences os a) ≡ true) none k in cc ];
              }
          | inr half ↦
              let a = half.0 in
              record {
                below = w.below;
                above = a ++ l.more;
                split = l.longer ∙ (ap (λ k. k ++ l.more) half.2 ∙ append_assoc w.below a l.more);
                before = λ p m.
                    let here = w.before part (subst (λ k. Contains k part) (sym half.1) (Contains-push a part)) in
                    elim (Contains-append_cases a l.more p m) [
                      | inl k ↦ w.before p (subst (λ k. Contains k p) (sym half.1) (Contains-append_left a (part ∷ []) p k))
                      | inr k ↦ omega (arith, here, l.before p k)
                    ];
                known = λ z h.
                    let to : is_among z (waiting_occurrences os l.more ++ waiting_occurrences os a) ≡ true → is_among z (waiting_occurrences os (a ++ l.more)) ≡ true = λ k. subst (λ m. is_among z m ≡ true) (sym (waiting-append a l.more)) k in
                    elim (w.known z h) [
                      | inl k ↦ inl (keeps z k)
                      | inr k ↦
                          elim (among_cases names z (part_occurrences os part) (waiting_occurrences os a) (subst (λ m. is_among z m ≡ true) (ap (waiting_occurrences os) half.1 ∙ waiting-append a (part ∷ [])) k)) [
                            | inl i ↦ elim (split z i) [ inl j ↦ inl j | inr j ↦ inr (to (among_left names z (waiting_occurrences os l.more) (waiting_occurrences os a) j)) ]
                            | inr i ↦ inr (to (among_right names z (waiting_occurrences os l.more) (waiting_occurrences os a) i))
                          ]
                    ];
              }
        ]

    same_answer : gather is_among (names_at os new) (waiting_occurrences os waiting) ≡ gather is_among (names_at os found) (waiting_occurrences os (rest ++ part ∷ []))
    same_answer =
        let W = waiting_occurrences os in
        ap (λ k. gather is_among (names_at os new) (W k)) l.longer
        ∙ (ap (gather is_among (names_at os new)) (waiting-append rest l.more)
        ∙ (ap (λ k. gather is_among k (W l.more ++ W rest)) l.finds.names
        ∙ (sym (gather-append names (names_at os found) l.first (W l.more ++ W rest))
        ∙ (ap (gather is_among (names_at os found)) (sym (append_assoc l.first (W l.more) (W rest)) ∙ ap (λ k. k ++ W rest) (sym l.occurrences))
        ∙ ap (gather is_among (names_at os found)) (sym (waiting-append rest (part ∷ [])))))))

    -- one more part was looked at
    pub gathering-step : (term : ℕ) (looked looked_new : List Part) → IsGathering term found looked (rest ++ part ∷ []) → ((p : Part) → Contains looked_new p → Contains looked p ⊎ (p ≡ part)) → IsGathering term new looked_new waiting
    gathering-step term looked looked_new g cases = record {
      symbols = l.finds.symbols;
      inside = λ p m.
          elim (Contains-append_cases rest l.more p (subst (λ k. Contains k p) l.longer m)) [
            | inl k ↦ g.inside p (Contains-append_left rest (part ∷ []) p k)
            | inr k ↦ l.inside p k
          ];
      looked_inside = λ p m. elim (cases p m) [ inl k ↦ g.looked_inside p k | inr e ↦ subst (IsPartIn os) (sym e) (g.inside part (Contains-push rest part)) ];
      answer = same_answer ∙ g.answer;
      under_way = λ p m. elim (cases p m) [ inl k ↦ still_under_way p (g.under_way p k) | inr e ↦ subst (λ q. IsUnderWay q new waiting) (sym e) now_under_way ];
    }

  -- a part that was looked at before adds nothing: each of its variables was found
  pub looked_before : (term : ℕ) (part : Part) (found : List ℕ) (looked rest : List Part) → IsGathering term found looked (rest ++ part ∷ []) → Contains looked part → IsLooked os part found found rest rest
  looked_before term part found looked rest g m = record {
    first = part_occurrences os part;
    more = [];
    longer = sym (append-nil rest);
    few = omega arith;
    inside = λ p k. absurd (none_in p k);
    before = λ p k. absurd (none_in p k);
    occurrences = sym (append-nil (part_occurrences os part));
    finds = record { symbols = g.symbols; names = sym (gather-known names (names_at os found) (part_occurrences os part) all_known) };
  }
    where
      all_known : (z : Name) → is_among z (part_occurrences os part) ≡ true → is_among z (names_at os found) ≡ true
      all_known z h =
          let w = g.under_way part m in
          elim (last_half rest w.below w.above part w.split) [
            | inl none ↦ elim (w.known z h) [ inl k ↦ k | inr k ↦ let k' : is_among z [] ≡ true = subst (λ a. is_among z (waiting_occurrences os a) ≡ true) none k in cc ]
            | inr half ↦ absurd (let here = w.before part (subst (λ k. Contains k part) (sym half.1) (Contains-push half.0 part)) in omega (arith, here))
          ]

-- a part by what it is
module _ (os : List Object) (part : Part) (found : List ℕ) (waited : List Part) where
  pub looked-none : AreSymbols os found → part_occurrences os part ≡ [] → IsLooked os part found found waited waited
  looked-none symbols none = record {
    first = [];
    more = [];
    longer = sym (append-nil waited);
    few = omega arith;
    inside = λ p m. absurd (none_in p m);
    before = λ p m. absurd (none_in p m);
    occurrences = none;
    finds = record { symbols = symbols; names = refl };
  }

  pub looked-symbol : (new : List ℕ) (x : ℕ) → part ≡ Term x → is_symbol (object_at os x) ≡ true → AreFound os found new (name_of (object_at os x) ∷ []) → IsLooked os part found new waited waited
  looked-symbol new x is symbol finds = record {
    first = name_of (object_at os x) ∷ [];
    more = [];
    longer = sym (append-nil waited);
    few = omega arith;
    inside = λ p m. absurd (none_in p m);
    before = λ p m. absurd (none_in p m);
    occurrences = ap (part_occurrences os) is ∙ ap object_occurrences (symbol_is (object_at os x) symbol);
    finds = finds;
  }

  pub looked-call : (waiting : List Part) (x h d : ℕ) → AreSymbols os found → part ≡ Term x → object_at os x ≡ Pair (object_at os h) (object_at os d) → same_object (object_at os h) (symbol "QUOTE") ≡ false → IsIn os d → d < x → waiting ≡ waited ++ Terms d ∷ [] → IsLooked os part found found waited waiting
  looked-call waiting x h d symbols is shape plain within below put = record {
    first = [];
    more = Terms d ∷ [];
    longer = put;
    few = omega arith;
    inside = λ p m. subst (IsPartIn os) (one_of (Terms d) p m) within;
    before = λ p m. subst (λ q. place p < place q) (sym is) (subst (λ q. place q < x) (one_of (Terms d) p m) below);
    occurrences = ap (part_occurrences os) is ∙ (ap object_occurrences shape ∙ ap (λ b. cond b [] (objects_occurrences (object_at os d))) plain);
    finds = record { symbols = symbols; names = refl };
  }

  pub looked-list : (middle waiting : List Part) (x a d : ℕ) → AreSymbols os found → part ≡ Terms x → object_at os x ≡ Pair (object_at os a) (object_at os d) → IsIn os a → IsIn os d → a < x → d < x → middle ≡ waited ++ Terms d ∷ [] → waiting ≡ middle ++ Term a ∷ [] → IsLooked os part found found waited waiting
  looked-list middle waiting x a d symbols is shape in_a in_d below_a below_d first second = record {
    first = [];
    more = Terms d ∷ (Term a ∷ []);
    longer = second ∙ (ap (λ l. l ++ Term a ∷ []) first ∙ append_assoc waited (Terms d ∷ []) (Term a ∷ []));
    few = omega arith;
    inside = λ p m.
        elim (Contains-append_cases (Terms d ∷ []) (Term a ∷ []) p m) [
          | inl k ↦ subst (IsPartIn os) (one_of (Terms d) p k) in_d
          | inr k ↦ subst (IsPartIn os) (one_of (Term a) p k) in_a
        ];
    before = λ p m.
        subst (λ q. place p < place q) (sym is) (elim (Contains-append_cases (Terms d ∷ []) (Term a ∷ []) p m) [
          | inl k ↦ subst (λ q. place q < x) (one_of (Terms d) p k) below_d
          | inr k ↦ subst (λ q. place q < x) (one_of (Term a) p k) below_a
        ]);
    occurrences = ap (part_occurrences os) is ∙ ap objects_occurrences shape;
    finds = record { symbols = symbols; names = refl };
  }

pub no_list-none : (os : List Object) (part : Part) (x : ℕ) → part ≡ Terms x → is_pair (object_at os x) ≡ false → part_occurrences os part ≡ []
no_list-none os part x is h = ap (part_occurrences os) is ∙ go (object_at os x) h
  where
    go : (o : Object) → is_pair o ≡ false → objects_occurrences o ≡ []
    go (Natural n) k = refl
    go (Symbol s) k = refl
    go (Pair a b) k = cc
