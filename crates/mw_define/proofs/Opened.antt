-- The items that a part is opened into have its calls.
use Rattle.std.proofs.Common.{◌≡◌, ℕ, true, false, List, [], ◌∷◌, ◌++◌, map, Option, Some, None, refl, sym, ap, ap₂, ◌∙◌, subst}
use Rattle.std.proofs.lemmas.List.{append-nil, append_assoc}
use Rattle.mw_model.specs.Terms.Object.{Name, Object, Pair, symbol, NIL}
use Rattle.mw_model.specs.Terms.Term.{Term, Terms, Variable, Constant, If, Call, Lambda, NoTerms, More, is_among}
use Rattle.mw_model.specs.Terms.Reading.{term_of, terms_of, if_of, map2}
use Rattle.mw_model.specs.Values.Primitive.{is_symbol, is_pair, name_of}
use Rattle.mw_model.specs.Laws.Rules.{beta_object}
use Rattle.mw_model.specs.Terms.Substitution.{substitute, actuals_for}
use Rattle.mw_model.specs.Values.Definition.{Function, function_named}
use Rattle.mw_model.specs.Events.Obligation.{IsNotNil, IsNil, call_or, actuals_with}
use Rattle.mw_heap.specs.Objects.{object_at, IsIn, Grows}
use Rattle.mw_heap.proofs.Objects.{object_at-Grows, IsIn-Grows}
use Rattle.mw_define.specs.declared.item.Part.TheVariants as part
use Rattle.mw_define.specs.declared.item.Item.{Item}
use Rattle.mw_define.specs.declared.piece.Piece.{Piece}
use Rattle.mw_define.specs.declared.piece.Piece.TheVariants as piece
use Rattle.mw_define.specs.Collecting.{the_term, the_terms, tests_of, under_all, part_calls, Opens, AreThree, AreTests, HasTests, HasNames, IsPartOf}
use Rattle.mw_define.specs.Mentioning.{piece_part, piece_mentions}
use Rattle.mw_define.proofs.ReadTerms.{more-parts, constant-is, if-is, terms-end, term-leaf, lambda-is, lambda-arguments, lambda-body}
use Rattle.mw_define.proofs.Unmentioned.{no-calls, quiet-calls, quiet-actuals}
use Rattle.mw_define.proofs.Collected.{term-calls, terms-calls, if-calls, lambda-calls, more-calls, inside-calls, outside-calls}

-- one more item, after others
abbrev pub term_item : ℕ → ℕ → Item
term_item r tests = record { part = part.Term r; tests = tests }

abbrev pub terms_item : ℕ → ℕ → Item
terms_item r tests = record { part = part.Terms r; tests = tests }

abbrev pub call_item : ℕ → ℕ → ℕ → Item
call_item f r tests = record { part = part.Call f r; tests = tests }

pub pushed-two : (before one two : List Item) (i j : Item) → one ≡ before ++ i ∷ [] → two ≡ one ++ j ∷ [] → two ≡ before ++ i ∷ j ∷ []
pushed-two before one two i j d e = e ∙ (ap (λ l. l ++ j ∷ []) d ∙ append_assoc before (i ∷ []) (j ∷ []))

pub pushed-three : (before one two three : List Item) (i j k : Item) → one ≡ before ++ i ∷ [] → two ≡ one ++ j ∷ [] → three ≡ two ++ k ∷ [] → three ≡ before ++ i ∷ j ∷ k ∷ []
pushed-three before one two three i j k d e f = f ∙ (ap (λ l. l ++ k ∷ []) (pushed-two before one two i j d e) ∙ append_assoc before (i ∷ j ∷ []) (k ∷ []))

first_same : (t u : Term) (us vs : Terms) → More t us ≡ More u vs → t ≡ u
first_same t u us vs e = cc

rest_same : (t u : Term) (us vs : Terms) → More t us ≡ More u vs → us ≡ vs
rest_same t u us vs e = cc

part_one : (t u : Term) (us vs : Terms) → More t us ≡ More u vs → (t ≡ u) × (us ≡ vs)
part_one t u us vs e = (first_same t u us vs e, rest_same t u us vs e)

module _ (names : List Name) (os : List Object) (x tests : ℕ) (waiting : List Item) where
  -- nothing waits for what has no calls
  pub opens-constant : (r : Object) (t : Term) → object_at os x ≡ Pair (symbol "QUOTE") r → term_of (object_at os x) ≡ Some t → Opens names os os (part.Term x) tests waiting waiting
  opens-constant r t e h = record {
    more = [];
    pushed = sym (append-nil waiting);
    items = tt;
    calls = λ B n. let p = constant-is r t (sym (ap term_of e) ∙ h) in sym (term-calls B os x tests (Constant p.0) (tests_of (object_at os tests)) (h ∙ ap Some p.1) refl);
  }

  pub opens-leaf : (t : Term) → is_pair (object_at os x) ≡ false → term_of (object_at os x) ≡ Some t → Opens names os os (part.Term x) tests waiting waiting
  opens-leaf t i h = record {
    more = [];
    pushed = sym (append-nil waiting);
    items = tt;
    calls = λ B n. let p = term-leaf (object_at os x) t i h in sym (term-calls B os x tests (Variable p.0) (tests_of (object_at os tests)) (h ∙ ap Some p.1) refl);
  }

  pub opens-end : (ts : Terms) → is_pair (object_at os x) ≡ false → terms_of (object_at os x) ≡ Some ts → Opens names os os (part.Terms x) tests waiting waiting
  opens-end ts i h = record {
    more = [];
    pushed = sym (append-nil waiting);
    items = tt;
    calls = λ B n. sym (terms-calls B os x tests NoTerms (tests_of (object_at os tests)) (h ∙ ap Some (terms-end (object_at os x) ts i h)) refl);
  }

  -- nor for what mentions no function of the block
  pub opens-free : (q : Piece) → IsPartOf os names (piece_part q) → ((B : List Function) → HasNames B names → piece_mentions B os q ≡ false) → Opens names os os (piece_part q) tests waiting waiting
  opens-free q h free = record {
    more = [];
    pushed = sym (append-nil waiting);
    items = tt;
    calls = λ B n. ap (map (under_all (tests_of (object_at os tests)))) (sym (free-calls B q (free B n)));
  }
    where
      free-calls : (B : List Function) (q : Piece) → piece_mentions B os q ≡ false → part_calls B os (piece_part q) ≡ []
      free-calls B (piece.Term x) h = no-calls B [] tt (the_term (term_of (object_at os x))) h
      free-calls B (piece.Terms x) h = quiet-calls (actuals_with B [] ts) (quiet-actuals B [] tt ts h)
        where
          ts : Terms
          ts = the_terms (terms_of (object_at os x))

  module _ (tests_in : HasTests os tests) where
    -- the first of a list, and then the others
    pub opens-list : (first rest : ℕ) (ts : Terms) (after : List Item) → IsIn os first → IsIn os rest → object_at os x ≡ Pair (object_at os first) (object_at os rest) → terms_of (object_at os x) ≡ Some ts → after ≡ waiting ++ terms_item rest tests ∷ term_item first tests ∷ [] → Opens names os os (part.Terms x) tests waiting after
    opens-list first rest ts after i j e h pushed =
        let p = more-parts (term_of (object_at os first)) (terms_of (object_at os rest)) ts (sym (ap terms_of e) ∙ h) in
        let T = tests_of (object_at os tests) in
        record {
          more = terms_item rest tests ∷ term_item first tests ∷ [];
          pushed = pushed;
          items = ((j, p.1, p.3), tests_in, ((i, p.0, p.2), tests_in, tt));
          calls = λ B n.
              ap₂ ◌++◌ (term-calls B os first tests p.0 T p.2 refl) (terms-calls B os rest tests p.1 T p.3 refl)
              ∙ (more-calls B T p.0 p.1 ∙ sym (terms-calls B os x tests (More p.0 p.1) T (h ∙ ap Some p.4) refl));
        }

    -- a call of the block, and the actuals of another one
    module _ (f r : ℕ) (ts : Terms) (f_in : IsIn os f) (r_in : IsIn os r) (is_name : is_symbol (object_at os f) ≡ true) (actuals : terms_of (object_at os r) ≡ Some ts) (read : term_of (object_at os x) ≡ Some (Call (name_of (object_at os f)) ts)) where
      pub opens-inside : (after : List Item) → is_among (name_of (object_at os f)) names ≡ true → after ≡ waiting ++ call_item f r tests ∷ [] → Opens names os os (part.Term x) tests waiting after
      opens-inside after among pushed =
          let T = tests_of (object_at os tests) in
          let g = name_of (object_at os f) in
          record {
            more = call_item f r tests ∷ [];
            pushed = pushed;
            items = ((f_in, is_name, among, r_in, ts, actuals), tests_in, tt);
            calls = λ B n.
                ap (λ o. map (under_all T) (call_or (function_named B g) (the_terms o) [])) actuals
                ∙ (inside-calls B T g ts (ap (is_among g) n ∙ among) ∙ sym (term-calls B os x tests (Call g ts) T read refl));
          }

      pub opens-outside : (after : List Item) → is_among (name_of (object_at os f)) names ≡ false → after ≡ waiting ++ terms_item r tests ∷ [] → Opens names os os (part.Term x) tests waiting after
      opens-outside after among pushed =
          let T = tests_of (object_at os tests) in
          let g = name_of (object_at os f) in
          record {
            more = terms_item r tests ∷ [];
            pushed = pushed;
            items = ((r_in, ts, actuals), tests_in, tt);
            calls = λ B n. terms-calls B os r tests ts T actuals refl ∙ (outside-calls B T g ts (ap (is_among g) n ∙ among) ∙ sym (term-calls B os x tests (Call g ts) T read refl));
          }

module _ (names : List Name) (old new : List Object) (grows : Grows old new) (x tests : ℕ) (waiting : List Item) (tests_in : HasTests old tests) where
  kept : tests_of (object_at new tests) ≡ tests_of (object_at old tests)
  kept = ap tests_of (object_at-Grows old new grows tests tests_in.0)

  stays : HasTests new tests
  stays = (IsIn-Grows old new grows tests tests_in.0, subst AreTests (sym (object_at-Grows old new grows tests tests_in.0)) tests_in.1)

  -- the condition, and the branches under a test
  module _ (r a b c holds fails : ℕ) (ta tb tc : Term) (whole : object_at old x ≡ Pair (symbol "IF") (object_at old r)) (three : AreThree old r a b c) (read : terms_of (object_at old r) ≡ Some (More ta (More tb (More tc NoTerms)))) (holds_in : IsIn new holds) (fails_in : IsIn new fails) (holds_is : object_at new holds ≡ Pair (Pair (symbol "T") (object_at old a)) (object_at old tests)) (fails_is : object_at new fails ≡ Pair (Pair (symbol "NIL") (object_at old a)) (object_at old tests)) where
    reads : (term_of (object_at old a) ≡ Some ta) × (term_of (object_at old b) ≡ Some tb) × (term_of (object_at old c) ≡ Some tc)
    reads =
        let o = object_at old in
        let p = more-parts (term_of (o a)) (map2 More (term_of (o b)) (map2 More (term_of (o c)) (Some NoTerms))) (More ta (More tb (More tc NoTerms))) (sym (ap terms_of three.shape) ∙ read) in
        let d = part_one ta p.0 (More tb (More tc NoTerms)) p.1 p.4 in
        let q = more-parts (term_of (o b)) (map2 More (term_of (o c)) (Some NoTerms)) p.1 p.3 in
        let e = part_one tb q.0 (More tc NoTerms) q.1 (d.1 ∙ q.4) in
        let s = more-parts (term_of (o c)) (Some NoTerms) q.1 q.3 in
        let f = part_one tc s.0 NoTerms s.1 (e.1 ∙ s.4) in
        (p.2 ∙ ap Some (sym d.0), q.2 ∙ ap Some (sym e.0), s.2 ∙ ap Some (sym f.0))

    later : (y : ℕ) (t : Term) → IsIn old y → term_of (object_at old y) ≡ Some t → term_of (object_at new y) ≡ Some t
    later y t i h = ap term_of (object_at-Grows old new grows y i) ∙ h

    tests_hold : tests_of (object_at new holds) ≡ tests_of (object_at old tests) ++ IsNotNil ta ∷ []
    tests_hold = ap tests_of holds_is ∙ ap (λ o. tests_of (object_at old tests) ++ IsNotNil (read_or o) ∷ []) reads.0
      where
        read_or : Option Term → Term
        read_or None = Constant NIL
        read_or (Some t) = t

    tests_fail : tests_of (object_at new fails) ≡ tests_of (object_at old tests) ++ IsNil ta ∷ []
    tests_fail = ap tests_of fails_is ∙ ap (λ o. tests_of (object_at old tests) ++ IsNil (read_or o) ∷ []) reads.0
      where
        read_or : Option Term → Term
        read_or None = Constant NIL
        read_or (Some t) = t

    pub opens-if : (after : List Item) → after ≡ waiting ++ term_item c fails ∷ term_item b holds ∷ term_item a tests ∷ [] → Opens names old new (part.Term x) tests waiting after
    opens-if after pushed =
        let T = tests_of (object_at old tests) in
        let i = IsIn-Grows old new grows in
        let ra = later a ta three.first_in reads.0 in
        let rb = later b tb three.second_in reads.1 in
        let rc = later c tc three.third_in reads.2 in
        let term : term_of (object_at old x) ≡ Some (If ta tb tc) = ap term_of whole ∙ ap if_of read in
        record {
          more = term_item c fails ∷ term_item b holds ∷ term_item a tests ∷ [];
          pushed = pushed;
          items = ((i c three.third_in, tc, rc), (fails_in, subst AreTests (sym fails_is) ((ta, reads.0), tests_in.1)), ((i b three.second_in, tb, rb), (holds_in, subst AreTests (sym holds_is) ((ta, reads.0), tests_in.1)), ((i a three.first_in, ta, ra), stays, tt)));
          calls = λ B n.
              ap₂ ◌++◌ (ap₂ ◌++◌ (term-calls B new a tests ta T ra kept) (term-calls B new b holds tb (T ++ IsNotNil ta ∷ []) rb tests_hold)) (term-calls B new c fails tc (T ++ IsNil ta ∷ []) rc tests_fail)
              ∙ (if-calls B T ta tb tc ∙ sym (term-calls B old x tests (If ta tb tc) T term refl));
        }

  -- the actuals, and the body with the actuals for the formals
  pub opens-lambda : (f r body : ℕ) (t : Term) (after : List Item) → object_at old x ≡ Pair (object_at old f) (object_at old r) → is_symbol (object_at old f) ≡ false → term_of (object_at old x) ≡ Some t → IsIn old r → IsIn new body → object_at new body ≡ beta_object (Pair (object_at old f) (object_at old r)) → after ≡ waiting ++ term_item body tests ∷ terms_item r tests ∷ [] → Opens names old new (part.Term x) tests waiting after
  opens-lambda f r body t after whole pair read r_in body_in made pushed =
      let T = tests_of (object_at old tests) in
      let i = IsIn-Grows old new grows in
      let l = lambda-is (object_at old f) (object_at old r) t pair (sym (ap term_of whole) ∙ read) in
      let u = substitute (actuals_for l.formals l.actuals) l.body in
      let rr : terms_of (object_at new r) ≡ Some l.actuals = ap terms_of (object_at-Grows old new grows r r_in) ∙ lambda-arguments (object_at old f) (object_at old r) t l in
      let rb : term_of (object_at new body) ≡ Some u = ap term_of made ∙ lambda-body (object_at old f) (object_at old r) t l in
      record {
        more = term_item body tests ∷ terms_item r tests ∷ [];
        pushed = pushed;
        items = ((body_in, u, rb), stays, ((i r r_in, l.actuals, rr), stays, tt));
        calls = λ B n.
            ap₂ ◌++◌ (terms-calls B new r tests l.actuals T rr kept) (term-calls B new body tests u T rb kept)
            ∙ (lambda-calls B T l.formals l.body l.actuals ∙ sym (term-calls B old x tests (Lambda l.formals l.body l.actuals) T (read ∙ ap Some l.is) refl));
      }

-- a term that begins with a symbol, by the symbol
pub named-if : (f r : Object) (t : Term) → f ≡ symbol "IF" → term_of (Pair f r) ≡ Some t → (a : Term) × (b : Term) × (c : Term) × (terms_of r ≡ Some (More a (More b (More c NoTerms))))
named-if f r t e h = let p = if-is (terms_of r) t (ap (λ g. term_of (Pair g r)) (sym e) ∙ h) in (p.0, p.1, p.2, p.3)
