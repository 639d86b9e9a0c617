-- Collecting the conclusions of a list.
use Rattle.std.proofs.Common.{◌≡◌, ℕ, ◌+◌, ◌<◌, ◌≤◌, true, false, ◌&&◌, eqb, eqb-true, Option, Some, None, List, [], ◌∷◌, ◌++◌, length, refl, sym, ap, ◌∙◌, subst, arith}
use Rattle.std.specs.List.{All}
use Rattle.std.proofs.lemmas.Bool.{and_left, eqb-false}
use Rattle.std.proofs.lemmas.List.{length_push}
use Rattle.std.specs.Option.{option_eq}
use Rattle.std.proofs.lemmas.List.Elements.{All-push}
use Rattle.mw_model.specs.Terms.Object.{Object, Natural, Symbol, Pair, same_object, NIL, second_of}
use Rattle.mw_model.specs.Terms.Term.{ArityTable}
use Rattle.mw_model.specs.Laws.Rules.{is_formula_object}
use Rattle.mw_model.specs.Laws.RulesInduction.{length_object}
use Rattle.mw_model.proofs.Names.{same_object-eq}
use Rattle.mw_heap.specs.Objects.{object_at, IsIn, Shows}
use Rattle.mw_heap.specs.declared.store.view.View.{View}
use Rattle.mw_term.specs.Marking.{ObjectMark, AreMarks}
use Rattle.mw_heap.specs.declared.store.view.View.TheVariants.{Nat, Symbol as Word, Pair as Parts}
use Rattle.mw_proof.specs.Step.{conclusions_object}
use Rattle.mw_heap.specs.Lists.{list_object}
use Rattle.mw_proof.specs.Judging.{have_conclusions, AreConclusions, IsWithin, IsOver}

-- the objects of references, before a list
abbrev known_before : List Object → List ℕ → Object → Object
known_before os [] t = t
known_before os (r ∷ rs) t = Pair (object_at os r) (known_before os rs t)

known_before-push : (os : List Object) (rs : List ℕ) (r : ℕ) (t : Object) → known_before os (rs ++ r ∷ []) t ≡ known_before os rs (Pair (object_at os r) t)
known_before-push os [] r t = refl
known_before-push os (q ∷ rs) r t = ap (Pair (object_at os q)) (known_before-push os rs r t)

known_before-nil : (os : List Object) (rs : List ℕ) → known_before os rs NIL ≡ list_object os rs
known_before-nil os [] = refl
known_before-nil os (q ∷ rs) = ap (Pair (object_at os q)) (known_before-nil os rs)

-- what the rest has still to show
pub record IsRest (A : ArityTable) (os : List Object) (list rest : Object) (rs : List ℕ) : Type 0 where
  pub formulas : have_conclusions A list ≡ have_conclusions A rest
  pub conclusions : known_before os rs (conclusions_object rest) ≡ conclusions_object list

-- the count of the conclusions so far
pub within_none : (most : Option ℕ) → IsWithin most 0
within_none None = tt
within_none (Some m) = omega arith

pub within_more : (most : Option ℕ) (n : ℕ) → option_eq eqb most (Some n) ≡ false → IsWithin most n → IsWithin most (n + 1)
within_more None n h w = tt
within_more (Some m) n h w = let other = eqb-false m n h in omega (arith, w, other)

pub over_from : (most : Option ℕ) (n k : ℕ) → option_eq eqb most (Some n) ≡ true → n < k → IsOver most k
over_from None n k h l = cc
over_from (Some m) n k h l = let same = eqb-true m n h in omega (arith, same, l)

pub record Collects (os : List Object) (marks : List ObjectMark) (most : Option ℕ) (list rest : ℕ) (rs : List ℕ) : Type 0 where
  pub within : IsIn os rest
  pub rest_before : rest ≤ list
  pub before : All (λ r. r < list) rs
  pub few : IsWithin most (length rs)
  pub counted : length rs + length_object (object_at os rest) ≡ length_object (object_at os list)
  pub holds : (A : ArityTable) → AreMarks A os marks → IsRest A os (object_at os list) (object_at os rest) rs

module _ (os : List Object) (marks : List ObjectMark) (most : Option ℕ) (list : ℕ) where
  pub collect_starts : IsIn os list → Collects os marks most list list []
  collect_starts i = record { within = i; rest_before = omega arith; before = λ k d l. absurd (omega arith); few = within_none most; counted = omega arith; holds = λ A k. record { formulas = refl; conclusions = refl } }

  module _ (rest : ℕ) (rs : List ℕ) (w : Collects os marks most list rest rs) where
    module _ (p more : ℕ) (shows : IsIn os p × IsIn os more × (object_at os rest ≡ Pair (object_at os p) (object_at os more))) where
      parts : (A : ArityTable) → have_conclusions A (object_at os rest) ≡ (is_formula_object A (second_of (object_at os p)) && have_conclusions A (object_at os more))
      parts A = ap (have_conclusions A) shows.2

      pub collects_more : (c : ℕ) → (p < rest) × (more < rest) → c < p → object_at os c ≡ second_of (object_at os p) → ((A : ArityTable) → AreMarks A os marks → is_formula_object A (object_at os c) ≡ true) → option_eq eqb most (Some (length rs)) ≡ false → Collects os marks most list more (rs ++ c ∷ [])
      collects_more c older before is formula some_left = record {
        within = shows.1;
        rest_before = omega (arith, older, w.rest_before);
        before = All-push (λ r. r < list) rs c w.before (omega (arith, older, w.rest_before, before));
        few = subst (IsWithin most) (sym (length_push rs c)) (within_more most (length rs) some_left w.few);
        counted = omega (arith, w.counted, length_push rs c, ap length_object shows.2);
        holds = λ A k.
            let r = w.holds A k in
            let good : is_formula_object A (second_of (object_at os p)) ≡ true = ap (is_formula_object A) (sym is) ∙ formula A k in
            record {
              formulas = r.formulas ∙ (parts A ∙ ap (λ t. t && have_conclusions A (object_at os more)) good);
              conclusions = known_before-push os rs c (conclusions_object (object_at os more)) ∙ (ap (λ z. known_before os rs (Pair z (conclusions_object (object_at os more)))) is ∙ (ap (λ z. known_before os rs (conclusions_object z)) (sym shows.2) ∙ r.conclusions));
            };
      }

      pub stops_at_most : option_eq eqb most (Some (length rs)) ≡ true → IsOver most (length_object (object_at os list))
      stops_at_most h = over_from most (length rs) (length_object (object_at os list)) h (omega (arith, w.counted, ap length_object shows.2))

      pub stops_at_no_formula : (A : ArityTable) → AreMarks A os marks → is_formula_object A (second_of (object_at os p)) ≡ false → have_conclusions A (object_at os list) ≡ false
      stops_at_no_formula A k bad = (w.holds A k).formulas ∙ (parts A ∙ and_left (is_formula_object A (second_of (object_at os p))) (have_conclusions A (object_at os more)) bad)

    pub collects_all : same_object (object_at os rest) NIL ≡ true → (A : ArityTable) → AreMarks A os marks → AreConclusions A os list rs × IsWithin most (length rs)
    collects_all nil A k =
        let r = w.holds A k in
        let e = same_object-eq (object_at os rest) NIL nil in (
          record {
            formulas = r.formulas ∙ ap (have_conclusions A) e;
            list_is = sym (known_before-nil os rs) ∙ (ap (λ t. known_before os rs (conclusions_object t)) (sym e) ∙ r.conclusions);
            before = w.before;
          },
          w.few,
        )

    not_list : (A : ArityTable) (x : Object) (v : View) → Shows os v x → ((q s : ℕ) → v ≡ Parts q s → ⊥) → same_object x NIL ≡ false → have_conclusions A x ≡ false
    not_list A x (Nat n) h bad nil = ap (have_conclusions A) h
    not_list A (Natural n) Word h bad nil = refl
    not_list A (Symbol s) Word h bad nil = nil
    not_list A (Pair y z) Word h bad nil = cc
    not_list A x (Parts q s) h bad nil = absurd (bad q s refl)

    pub stops_at_end : (v : View) → Shows os v (object_at os rest) → ((q s : ℕ) → v ≡ Parts q s → ⊥) → same_object (object_at os rest) NIL ≡ false → (A : ArityTable) → AreMarks A os marks → have_conclusions A (object_at os list) ≡ false
    stops_at_end v shows bad nil A k = (w.holds A k).formulas ∙ not_list A (object_at os rest) v shows bad nil
