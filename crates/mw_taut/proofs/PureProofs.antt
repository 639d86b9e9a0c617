-- Each formula that is true whatever is chosen has a proof: by cases over its equations, and in each case part by part.
use Rattle.std.proofs.Common.{◌≡◌, ℕ, Bool, true, false, ◌||◌, not, ltb, cond, List, [], ◌∷◌, map, length, Option, Some, None, refl, sym, ap, ◌∙◌, subst}
use Rattle.std.specs.Prelude.{if◌then◌else◌}
use Rattle.mw_model.specs.Terms.Object.{Object}
use Rattle.mw_model.specs.Terms.Term.{Formula, Equal, Not, Or, formula_object, ArityTable, is_formula}
use Rattle.mw_model.specs.Terms.Same.{same_formula}
use Rattle.mw_model.specs.Values.Truth.{Each}
use Rattle.mw_model.proofs.SameTerms.{same_formula-eq, same_formula-refl}
use Rattle.std.proofs.lemmas.Bool.{both_ways, and_parts}
use Rattle.mw_commands.specs.Commands.Tautology.{Choice, Many, Holds, IsTautology, all_equations, equations, chosen, value_under, falsifying, decided, decision, most_equations}
use Rattle.mw_commands.specs.Commands.TautologyBook.{IsPureProof}
use Rattle.mw_commands.proofs.Tautologies.{tautology_exact}
use Rattle.mw_taut.proofs.Elements.{each_parts}
use Rattle.mw_taut.specs.declared.rule.TheConstants.{SCHEMA, RESOLVED, DOUBLED, LEFT, RIGHT, NEITHER}
use Rattle.mw_taut.specs.Reducing.{literal_law}
use Rattle.mw_taut.specs.Meaning.{literal, among}
use Rattle.mw_taut.proofs.FirstOccurrences.{each_append, all_among}
use Rattle.mw_taut.proofs.InRange.{Fits, GoodAndFits, FormedAndFits, fitting_closed}
use Rattle.mw_taut.proofs.Reduces.{law_proves}
use Rattle.mw_taut.proofs.Schemes.{AreClosed, letter, no, either, itself, proved, rule_means}

neither_is : (a b : Bool) → (a || b) ≡ false → (a ≡ false) × (b ≡ false)
neither_is true b e = cc
neither_is false b e = (refl, e)

each_from : {X : Type 0} (P Q : X → Type 0) (xs : List X) → ((x : X) → P x → Q x) → Each P xs → Each Q xs
each_from P Q [] f h = tt
each_from P Q (x ∷ xs) f h = (f x h.0, each_from P Q xs f h.1)

same_turned : (F E : Formula) → same_formula F E ≡ false → same_formula E F ≡ false
same_turned F E h = go (same_formula E F) refl
  where
    go : (b : Bool) → same_formula E F ≡ b → same_formula E F ≡ false
    go true e = absurd (both_ways (same_formula F E) h (ap (λ G. same_formula F G) (same_formula-eq E F e) ∙ same_formula-refl F))
    go false e = e

-- the rules for A or (B or C) of A or C, and of A or B
abbrev inserting : ℕ
inserting = 6

abbrev appending : ℕ
appending = 7

-- ---- formulas with proofs, which fit where X holds

module _ (A : ArityTable) (X : Type 0) where
  abbrev IsSound : Formula → Type 0
  IsSound F = FormedAndFits A X F

  closed : AreClosed A (GoodAndFits A X) IsSound
  closed = fitting_closed A X

  undenied : (F : Formula) → IsSound (Not F) → IsSound F
  undenied F h = (h.0, λ x. record { in_range = (neither_is _ _ (h.1 x).in_range).0 })

  parts : (F G : Formula) → IsSound (Or F G) → IsSound F × IsSound G
  parts F G h =
      let both = and_parts (is_formula A F) (is_formula A G) h.0 in
      ((both.0, λ x. record { in_range = (neither_is _ _ (h.1 x).in_range).0 }), (both.1, λ x. record { in_range = (neither_is _ _ (neither_is _ _ (h.1 x).in_range).1).0 }))

  equations_sound : (F : Formula) → IsSound F → Each IsSound (all_equations F)
  equations_sound (Equal a b) h = (h, tt)
  equations_sound (Not F) h = equations_sound F (undenied F h)
  equations_sound (Or F G) h = let k = parts F G h in each_append IsSound (all_equations F) (all_equations G) (equations_sound F k.0) (equations_sound G k.1)

  literal_sound : (b : Bool) (F : Formula) → IsSound F → IsSound (literal b F)
  literal_sound true F h = h
  literal_sound false F h = closed.denial F h

  record Has (F : Formula) : Type 0 where
    proof : Object
    good : GoodAndFits A X proof F
    sound : IsSound F

  abbrev Holds_in : Formula → Bool → Formula → Type 0
  Holds_in C b G = Has (Or (literal b G) C)

  -- the part itself
  plain : (C : Formula) (b : Bool) (G : Formula) → Holds_in C b G → IsSound G
  plain C true G h = (parts G C h.sound).0
  plain C false G h = undenied G (parts (Not G) C h.sound).0

  denied : (C : Formula) (b : Bool) (G : Formula) → Holds_in C b G → Holds_in C (not b) (Not G)
  denied C true G h =
      let of = parts G C h.sound in
      record {
        proof = _;
        good = rule_means A closed (G ∷ C ∷ []) DOUBLED (itself 0 of.0 ∷ itself 1 of.1 ∷ proved (either (letter 0) (letter 1)) h.proof h.good ∷ []);
        sound = closed.disjunction (Not (Not G)) C (closed.denial (Not G) (closed.denial G of.0)) of.1;
      }
  denied C false G h = h

  first_true : (C G K : Formula) → Has (Or G C) → IsSound K → Has (Or (Or G K) C)
  first_true C G K h k =
      let of = parts G C h.sound in
      record {
        proof = _;
        good = rule_means A closed (G ∷ K ∷ C ∷ []) LEFT (itself 0 of.0 ∷ itself 1 k ∷ itself 2 of.1 ∷ proved (either (letter 0) (letter 2)) h.proof h.good ∷ []);
        sound = closed.disjunction (Or G K) C (closed.disjunction G K of.0 k) of.1;
      }

  second_true : (C G K : Formula) → Has (Or K C) → IsSound G → Has (Or (Or G K) C)
  second_true C G K h g =
      let of = parts K C h.sound in
      record {
        proof = _;
        good = rule_means A closed (G ∷ K ∷ C ∷ []) RIGHT (itself 0 g ∷ itself 1 of.0 ∷ itself 2 of.1 ∷ proved (either (letter 1) (letter 2)) h.proof h.good ∷ []);
        sound = closed.disjunction (Or G K) C (closed.disjunction G K g of.0) of.1;
      }

  both_false : (C G K : Formula) → Holds_in C false G → Holds_in C false K → Holds_in C false (Or G K)
  both_false C G K h i =
      let g = plain C false G h in
      let k = plain C false K i in
      let c = (parts (Not G) C h.sound).1 in
      record {
        proof = _;
        good = rule_means A closed (G ∷ K ∷ C ∷ []) NEITHER
            (itself 0 g ∷ itself 1 k ∷ itself 2 c ∷ proved (either (no (letter 0)) (letter 2)) h.proof h.good ∷ proved (either (no (letter 1)) (letter 2)) i.proof i.good ∷ []);
        sound = closed.disjunction (Not (Or G K)) C (closed.denial (Or G K) (closed.disjunction G K g k)) c;
      }

  either_holds : (C : Formula) (b d : Bool) (G K : Formula) → Holds_in C b G → Holds_in C d K → Holds_in C (b || d) (Or G K)
  either_holds C true d G K h i = first_true C G K h (plain C d K i)
  either_holds C false true G K h i = second_true C G K i (plain C false G h)
  either_holds C false false G K h i = both_false C G K h i

  -- in a case in which each equation has a value, so has the formula
  valued : (c : Choice) (C G : Formula) → Each (λ E. Holds_in C (chosen c E) E) (all_equations G) → Holds_in C (value_under c G) G
  valued c C (Equal a b) h = h.0
  valued c C (Not G) h = denied C (value_under c G) G (valued c C G h)
  valued c C (Or G K) h =
      let parts = each_parts (λ E. Holds_in C (chosen c E) E) (all_equations G) (all_equations K) h in
      either_holds C (value_under c G) (value_under c K) G K (valued c C G parts.0) (valued c C K parts.1)

  -- ---- one equation more

  wider : (C D G : Formula) → IsSound D → Has (Or G C) → Has (Or G (Or D C))
  wider C D G d h =
      let of = parts G C h.sound in
      record {
        proof = _;
        good = rule_means A closed (G ∷ D ∷ C ∷ []) inserting (itself 0 of.0 ∷ itself 1 d ∷ itself 2 of.1 ∷ proved (either (letter 0) (letter 2)) h.proof h.good ∷ []);
        sound = closed.disjunction G (Or D C) of.0 (closed.disjunction D C d of.1);
      }

  newest : (C E : Formula) (b : Bool) → IsSound E → IsSound C → Holds_in (Or (literal (not b) E) C) b E
  newest C E b e c =
      let f = literal_sound b E e in
      let g = literal_sound (not b) E e in
      let law = law_proves A closed b E e in
      record {
        proof = _;
        good = rule_means A closed (literal b E ∷ literal (not b) E ∷ C ∷ []) appending (itself 0 f ∷ itself 1 g ∷ itself 2 c ∷ proved (either (letter 0) (letter 1)) (literal_law (formula_object E) b) law ∷ []);
        sound = closed.disjunction (literal b E) (Or (literal (not b) E) C) f (closed.disjunction (literal (not b) E) C g c);
      }

  resolves : (C G : Formula) → Has (Or G C) → Has (Or (Not G) C) → Has C
  resolves C G h i =
      let c = (parts G C h.sound).1 in
      record {
        proof = _;
        good = rule_means A closed (C ∷ G ∷ []) RESOLVED (itself 0 c ∷ proved (either (letter 1) (letter 0)) h.proof h.good ∷ proved (either (no (letter 1)) (letter 0)) i.proof i.good ∷ []);
        sound = c;
      }

  abbrev keys : Choice → List Formula
  keys c = map (λ p. p.0) c

  abbrev AreHeld : Formula → Choice → Type 0
  AreHeld C c = Each (λ p. Holds_in C p.1 p.0) c

  held_at : (C : Formula) (c : Choice) → AreHeld C c → (E : Formula) → among E (keys c) ≡ true → Holds_in C (chosen c E) E
  held_at C [] h E i = cc
  held_at C (p ∷ c) h E i = go (same_formula p.0 E) refl (held_at C c h.1 E)
    where
      go : (b : Bool) → same_formula p.0 E ≡ b → (among E (keys c) ≡ true → Holds_in C (chosen c E) E) → Holds_in C (chosen (p ∷ c) E) E
      go true e later = subst (λ b. Holds_in C (cond b p.1 (chosen c E)) E) (sym e) (subst (Holds_in C p.1) (same_formula-eq p.0 E e) h.0)
      go false e later = subst (λ b. Holds_in C (cond b p.1 (chosen c E)) E) (sym e) (later (ap (λ b. b || among E (keys c)) (sym (same_turned p.0 E e)) ∙ i))

  moved : (a s d : Bool) → (a || (s || d)) ≡ true → ((s || a) || d) ≡ true
  moved true true d e = refl
  moved true false d e = refl
  moved false true d e = refl
  moved false false d e = e

  or_none : (a : Bool) → (a || false) ≡ true → a ≡ true
  or_none true e = refl
  or_none false e = e

  module _ (F : Formula) (tautology : IsTautology F) where
    by_all : (rest : List Formula) (c : Choice) (C : Formula) → Each IsSound rest → Each (λ E. (among E (keys c) || among E rest) ≡ true) (all_equations F) → AreHeld C c → Has (Or (Not F) C) → Has C
    by_all [] c C sound cover held denial =
        let each = each_from (λ E. (among E (keys c) || false) ≡ true) (λ E. Holds_in C (chosen c E) E) (all_equations F) (λ E i. held_at C c held E (or_none (among E (keys c)) i)) cover in
        resolves C F (subst (λ b. Holds_in C b F) (tautology (chosen c)) (valued c C F each)) denial
    by_all (E ∷ rest) c C sound cover held denial =
        let of_c = (parts (Not F) C denial.sound).1 in
        let covers = each_from (λ G. (among G (keys c) || (same_formula G E || among G rest)) ≡ true) (λ G. ((same_formula G E || among G (keys c)) || among G rest) ≡ true) (all_equations F) (λ G i. moved (among G (keys c)) (same_formula G E) (among G rest) i) cover in
        let next : (b : Bool) → Has (Or (literal (not b) E) C) = λ b.
        let D = literal (not b) E in
        let d = literal_sound (not b) E sound.0 in
        by_all rest ((E, b) ∷ c) (Or D C) sound.1 covers
        (newest C E b sound.0 of_c, each_from (λ p. Holds_in C p.1 p.0) (λ p. Holds_in (Or D C) p.1 p.0) c (λ p h. wider C D (literal p.1 p.0) d h) held)
        (wider C D (Not F) d denial) in
        resolves C E (next false) (next true)

-- ---- the proof

no_choice : (F : Formula) → decision F ≡ Holds → falsifying F ≡ None
no_choice F e = go (ltb most_equations (length (equations F))) (falsifying F) e
  where
    go : (b : Bool) (o : Option Choice) → (if b then Many else decided o) ≡ Holds → o ≡ None
    go true o h = cc
    go false None h = refl
    go false (Some c) h = cc

pub has_pure_proof : (A : ArityTable) (F : Formula) → is_formula A F ≡ true → decision F ≡ Holds → (p : Object) × IsPureProof A p F
has_pure_proof A F formed holds =
    let X = Fits (formula_object F) in
    let sound : FormedAndFits A X F = (formed, λ x. x) in
    let closed = fitting_closed A X in
    let all = all_equations F in
    let denial : Has A X (Or (Not F) F) = record { proof = _; good = rule_means A closed (F ∷ []) SCHEMA (itself 0 sound ∷ []); sound = closed.disjunction (Not F) F (closed.denial F sound) sound } in
    let h = by_all A X F ((tautology_exact F).0 (no_choice F holds)) all [] F (equations_sound A X F sound) (all_among [] all) tt denial in
    (h.proof, record { proves = h.good.0; in_range = λ k. (h.good.1 (record { in_range = k })).in_range })
