-- The rules of the table make proofs of proofs.
use Rattle.std.proofs.Common.{◌≡◌, [], ◌∷◌, refl, sym, ap₂, ◌∙◌, subst}
use Rattle.mw_model.specs.Terms.Object.{Object}
use Rattle.mw_model.specs.Terms.Term.{Term, Formula, Equal, Not, Or, term_object, formula_object}
use Rattle.mw_proof.specs.Judging.{Basis}
use Rattle.mw_lower.specs.declared.rules.TheConstants.{COMMUTED, DETACHED, IMPLICATION, FUNCTIONAL, TURNED, CHAINED}
use Rattle.mw_lower.specs.Rules.{rule_made}
use Rattle.mw_lower.specs.Proofs.{IsProof, HasEquality}
use Rattle.mw_lower.proofs.ByMethods.{or_of, not_of, equal_of, commuted_of, detached_of, functional_of, reflexive_of, equals_of, formed, or_formed, sides_formed, commuted, detached, reflexive, equals}

abbrev implied_of : Object → Object → Object
implied_of f g = or_of (not_of f) g

-- g, of: not t = t or g
abbrev discharged_of : Object → Object → Object → Object
discharged_of t g p = detached_of (equal_of t t) g (reflexive_of t) p

abbrev turned_of : Object → Object → Object → Object
turned_of x y p =
    let last = implied_of (equal_of x x) (equal_of y x) in
    discharged_of x (equal_of y x) (discharged_of x last (detached_of (equal_of x y) (implied_of (equal_of x x) last) p (equals_of x y x x)))

abbrev chained_of : Object → Object → Object → Object → Object → Object
chained_of x y z p q =
    let last = implied_of (equal_of x y) (equal_of x z) in
    detached_of (equal_of x y) (equal_of x z) p (detached_of (equal_of y z) last q (discharged_of x (implied_of (equal_of y z) last) (equals_of x x y z)))

commuted_made : (f g p : Object) → rule_made COMMUTED (f ∷ g ∷ p ∷ []) ≡ commuted_of f g p
unfolding rule_made
commuted_made f g p = refl

detached_made : (f g p q : Object) → rule_made DETACHED (f ∷ g ∷ p ∷ q ∷ []) ≡ detached_of f g p q
unfolding rule_made
detached_made f g p q = refl

pub implied_made : (f g : Object) → rule_made IMPLICATION (f ∷ g ∷ []) ≡ implied_of f g
unfolding rule_made
implied_made f g = refl

pub functional_made : (f : Object) → rule_made FUNCTIONAL (f ∷ []) ≡ functional_of f
unfolding rule_made
functional_made f = refl

turned_made : (x y p : Object) → rule_made TURNED (x ∷ y ∷ p ∷ []) ≡ turned_of x y p
unfolding rule_made
turned_made x y p = refl

chained_made : (x y z p q : Object) → rule_made CHAINED (x ∷ y ∷ z ∷ p ∷ q ∷ []) ≡ chained_of x y z p q
unfolding rule_made
chained_made x y z p q = refl

module _ (b : Basis) where
  pub commutes : (F G : Formula) (f g p q : Object) → q ≡ rule_made COMMUTED (f ∷ g ∷ p ∷ []) → f ≡ formula_object F → g ≡ formula_object G → IsProof b p (Or F G) → IsProof b q (Or G F)
  commutes F G f g p q made e d h = subst (λ z. IsProof b z (Or G F)) (sym (made ∙ (commuted_made f g p ∙ ap₂ (λ x y. commuted_of x y p) e d))) (commuted b F G p h)

  pub detaches : (F G : Formula) (f g p q r : Object) → r ≡ rule_made DETACHED (f ∷ g ∷ p ∷ q ∷ []) → f ≡ formula_object F → g ≡ formula_object G → IsProof b p F → IsProof b q (Or (Not F) G) → IsProof b r G
  detaches F G f g p q r made e d h k = subst (λ z. IsProof b z G) (sym (made ∙ (detached_made f g p q ∙ ap₂ (λ x y. detached_of x y p q) e d))) (detached b F G p q h k)

  module _ (has : HasEquality b) where
    discharged : (t : Term) (G : Formula) (p : Object) → IsProof b p (Or (Not (Equal t t)) G) → IsProof b (discharged_of (term_object t) (formula_object G) p) G
    discharged t G p h =
        let whole = or_formed b (Not (Equal t t)) G (formed b p (Or (Not (Equal t t)) G) h) in
        detached b (Equal t t) G _ p (reflexive b has t (sides_formed b t t whole.0).0) h

    turned : (t u : Term) (p : Object) → IsProof b p (Equal t u) → IsProof b (turned_of (term_object t) (term_object u) p) (Equal u t)
    turned t u p h =
        let i = sides_formed b t u (formed b p (Equal t u) h) in
        let last = Or (Not (Equal t t)) (Equal u t) in
        discharged t (Equal u t) _ (discharged t last _ (detached b (Equal t u) (Or (Not (Equal t t)) last) p _ h (equals b has t u t t i.0 i.1 i.0 i.0)))

    chained : (t u v : Term) (p q : Object) → IsProof b p (Equal t u) → IsProof b q (Equal u v) → IsProof b (chained_of (term_object t) (term_object u) (term_object v) p q) (Equal t v)
    chained t u v p q h k =
        let i = sides_formed b t u (formed b p (Equal t u) h) in
        let j = sides_formed b u v (formed b q (Equal u v) k) in
        let last = Or (Not (Equal t u)) (Equal t v) in
        let rest = discharged t (Or (Not (Equal u v)) last) _ (equals b has t t u v i.0 i.0 i.1 j.1) in
        detached b (Equal t u) (Equal t v) p _ h (detached b (Equal u v) last q _ k rest)

  pub turns_round : (t u : Term) (x y p q : Object) → HasEquality b → q ≡ rule_made TURNED (x ∷ y ∷ p ∷ []) → x ≡ term_object t → y ≡ term_object u → IsProof b p (Equal t u) → IsProof b q (Equal u t)
  turns_round t u x y p q has made e d h = subst (λ z. IsProof b z (Equal u t)) (sym (made ∙ (turned_made x y p ∙ ap₂ (λ w z. turned_of w z p) e d))) (turned has t u p h)

  pub chains : (t u v : Term) (x y z p q r : Object) → HasEquality b → r ≡ rule_made CHAINED (x ∷ y ∷ z ∷ p ∷ q ∷ []) → x ≡ term_object t → y ≡ term_object u → z ≡ term_object v → IsProof b p (Equal t u) → IsProof b q (Equal u v) → IsProof b r (Equal t v)
  chains t u v x y z p q r has made e d c h k =
      subst (λ w. IsProof b w (Equal t v)) (sym (made ∙ (chained_made x y z p q ∙ (λ i. chained_of (e i) (d i) (c i) p q)))) (chained has t u v p q h k)
