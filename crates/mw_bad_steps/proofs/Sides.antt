-- The sides of a disjunction in a heap, and what is made of them.
use Rattle.std.proofs.Common.{◌≡◌, ℕ, false, List, Option, Some, None, MatchOption, refl, sym, ap, ap₂, ◌∙◌}
use Rattle.mw_model.specs.Terms.Object.{Object, symbol, same_object, car, second_of, third_of, list3}
use Rattle.mw_model.specs.Terms.Term.{Formula, Equal, Not, Or, formula_object}
use Rattle.mw_model.specs.Laws.Rules.{or_object, not_object}
use Rattle.mw_model.proofs.Names.{same_object-from}
use Rattle.mw_heap.specs.Objects.{object_at, IsIn}
use Rattle.mw_bad_steps.specs.Candidates.{IsCandidate, AreSides, sides, schema_of, expansion_of, contraction_of, associativity_of, cut_of}

differ : (x y : Object) → same_object x y ≡ false → x ≡ y → ⊥
differ x y h e = cc (h, same_object-from x y e)

module _ (os : List Object) where
  pub sides_found : (F : Formula) (x : Object) (p : ℕ × ℕ) → x ≡ formula_object F → x ≡ list3 (symbol "POR*") (object_at os p.0) (object_at os p.1) → AreSides os (sides F) (Some p)
  sides_found (Or G H) x p e f = (ap second_of (sym f ∙ e), ap third_of (sym f ∙ e))
  sides_found (Equal a b) x p e f = absurd (differ (symbol "PEQUAL*") (symbol "POR*") refl (ap car (sym e ∙ f)))
  sides_found (Not G) x p e f = absurd (differ (symbol "PNOT*") (symbol "POR*") refl (ap car (sym e ∙ f)))

  pub no_sides : (F : Formula) (x : Object) → x ≡ formula_object F → ((a b : Object) → same_object x (list3 (symbol "POR*") a b) ≡ false) → AreSides os (sides F) None
  no_sides (Or G H) x e n = absurd (differ x (or_object (formula_object G) (formula_object H)) (n (formula_object G) (formula_object H)) e)
  no_sides (Equal a b) x e n = tt
  no_sides (Not G) x e n = tt

  pub sides_answer : (F : Formula) (x : Object) (o : Option (ℕ × ℕ)) → x ≡ formula_object F → MatchOption o ((a b : Object) → same_object x (list3 (symbol "POR*") a b) ≡ false) (λ p. x ≡ list3 (symbol "POR*") (object_at os p.0) (object_at os p.1)) → AreSides os (sides F) o
  sides_answer F x None e m = no_sides F x e m
  sides_answer F x (Some p) e m = sides_found F x p e m

-- what is made in a heap that grew
module _ (os new : List Object) where
  pub schema_none : (F : Formula) → AreSides os (sides F) None → IsCandidate new (schema_of F) None
  schema_none (Or G H) h = absurd h
  schema_none (Equal a b) h = tt
  schema_none (Not G) h = tt

  pub schema_made : (F : Formula) (p : ℕ × ℕ) (r : ℕ) → AreSides os (sides F) (Some p) → IsIn new r → object_at new r ≡ or_object (not_object (object_at os p.1)) (object_at os p.1) → IsCandidate new (schema_of F) (Some r)
  schema_made (Or G H) p r h i e = (i, e ∙ ap (λ y. or_object (not_object y) y) h.1)
  schema_made (Equal a b) p r h i e = absurd h
  schema_made (Not G) p r h i e = absurd h

  pub expansion_none : (F G : Formula) → AreSides os (sides F) None → IsCandidate new (expansion_of F G) None
  expansion_none (Or F H) G h = absurd h
  expansion_none (Equal a b) G h = tt
  expansion_none (Not F) G h = tt

  pub expansion_made : (F G : Formula) (p : ℕ × ℕ) (q r : ℕ) → AreSides os (sides F) (Some p) → object_at os q ≡ formula_object G → IsIn new r → object_at new r ≡ or_object (object_at os p.0) (object_at os q) → IsCandidate new (expansion_of F G) (Some r)
  expansion_made (Or F H) G p q r h g i e = (i, e ∙ ap₂ or_object h.0 g)
  expansion_made (Equal a b) G p q r h g i e = absurd h
  expansion_made (Not F) G p q r h g i e = absurd h

  pub contraction_none : (G : Formula) → AreSides os (sides G) None → IsCandidate new (contraction_of G) None
  contraction_none (Or F H) h = absurd h
  contraction_none (Equal a b) h = tt
  contraction_none (Not F) h = tt

  pub contraction_made : (G : Formula) (p : ℕ × ℕ) → AreSides os (sides G) (Some p) → IsIn os p.0 → IsCandidate os (contraction_of G) (Some p.0)
  contraction_made (Or F H) p h i = (i, h.0)
  contraction_made (Equal a b) p h i = absurd h
  contraction_made (Not F) p h i = absurd h

  pub associativity_none : (G : Formula) → AreSides os (sides G) None → IsCandidate new (associativity_of G) None
  associativity_none (Or F H) h = absurd h
  associativity_none (Equal a b) h = tt
  associativity_none (Not F) h = tt

  pub associativity_inner : (G : Formula) (p : ℕ × ℕ) → AreSides os (sides G) (Some p) → ((H : Formula) → object_at os p.1 ≡ formula_object H → AreSides os (sides H) None) → IsCandidate new (associativity_of G) None
  associativity_inner (Or F H) p h n = go H (n H h.1)
    where
      go : (H : Formula) → AreSides os (sides H) None → IsCandidate new (associativity_of (Or F H)) None
      go (Or I J) k = absurd k
      go (Equal a b) k = tt
      go (Not I) k = tt
  associativity_inner (Equal a b) p h n = absurd h
  associativity_inner (Not F) p h n = absurd h

  pub associativity_made : (G : Formula) (p q : ℕ × ℕ) (r : ℕ) → AreSides os (sides G) (Some p) → ((H : Formula) → object_at os p.1 ≡ formula_object H → AreSides os (sides H) (Some q)) → IsIn new r → object_at new r ≡ or_object (or_object (object_at os p.0) (object_at os q.0)) (object_at os q.1) → IsCandidate new (associativity_of G) (Some r)
  associativity_made (Or F H) p q r h n i e = go H (n H h.1)
    where
      go : (H : Formula) → AreSides os (sides H) (Some q) → IsCandidate new (associativity_of (Or F H)) (Some r)
      go (Or I J) k = (i, e ∙ ap₂ or_object (ap₂ or_object h.0 k.0) k.1)
      go (Equal a b) k = absurd k
      go (Not I) k = absurd k
  associativity_made (Equal a b) p q r h n i e = absurd h
  associativity_made (Not F) p q r h n i e = absurd h

  pub cut_none : (F G : Formula) → AreSides os (sides F) None → IsCandidate new (cut_of F G) None
  cut_none (Or F H) G h = absurd h
  cut_none (Equal a b) G h = tt
  cut_none (Not F) G h = tt

  pub cut_none_second : (F G : Formula) (p : ℕ × ℕ) → AreSides os (sides F) (Some p) → AreSides os (sides G) None → IsCandidate new (cut_of F G) None
  cut_none_second (Or F H) (Or I J) p h k = absurd k
  cut_none_second (Or F H) (Equal a b) p h k = tt
  cut_none_second (Or F H) (Not I) p h k = tt
  cut_none_second (Equal a b) G p h k = absurd h
  cut_none_second (Not F) G p h k = absurd h

  pub cut_made : (F G : Formula) (p q : ℕ × ℕ) (r : ℕ) → AreSides os (sides F) (Some p) → AreSides os (sides G) (Some q) → IsIn new r → object_at new r ≡ or_object (object_at os p.1) (object_at os q.1) → IsCandidate new (cut_of F G) (Some r)
  cut_made (Or F H) (Or I J) p q r h k i e = (i, e ∙ ap₂ or_object h.1 k.1)
  cut_made (Or F H) (Equal a b) p q r h k i e = absurd k
  cut_made (Or F H) (Not I) p q r h k i e = absurd k
  cut_made (Equal a b) G p q r h k i e = absurd h
  cut_made (Not F) G p q r h k i e = absurd h
