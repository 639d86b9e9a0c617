-- The axioms of equality stay among the axioms as formulas are added in front.
use Rattle.std.proofs.Common.{◌≡◌, List, [], ◌∷◌, refl, sym, subst}
use Rattle.mw_model.specs.Terms.Object.{Object, Pair, NIL, Member, first, later}
use Rattle.mw_model.specs.Terms.Term.{Formula, formula_object}
use Rattle.mw_model.specs.Values.Primitive.{Profile}
use Rattle.mw_model.specs.Values.Definition.{Block, block_axioms}
use Rattle.mw_model.specs.Proofs.Axioms.{axiom_1, axiom_2, primitive_axioms}
use Rattle.mw_model.specs.Events.Theory.{add_formulas, axioms_of}
use Rattle.mw_theory.specs.Knowledge.{HasEquality}

member-added : (Fs : List Formula) (x list : Object) → Member x list → Member x (add_formulas Fs list)
member-added [] x list m = m
member-added (F ∷ Fs) x list m = member-added Fs x (Pair (formula_object F) list) (later (formula_object F) list m)

pub equality-added : (Fs : List Formula) (list : Object) → HasEquality list → HasEquality (add_formulas Fs list)
equality-added Fs list h = record {
  first = member-added Fs (formula_object axiom_1) list h.first;
  second = member-added Fs (formula_object axiom_2) list h.second;
}

-- a list of formulas that begins with the two axioms
equality-begun : (Fs rest : List Formula) → Fs ≡ axiom_1 ∷ axiom_2 ∷ rest → (list : Object) → HasEquality (add_formulas Fs list)
equality-begun Fs rest is list =
    let one = Pair (formula_object axiom_1) list in
    let two = Pair (formula_object axiom_2) one in
    subst (λ Gs. HasEquality (add_formulas Gs list)) (sym is) (equality-added rest two (record {
      first = later (formula_object axiom_2) one (first list);
      second = first one;
    }))

pub equality-first : (P : Profile) (D : List Block) → HasEquality (axioms_of P D)
equality-first P [] = equality-begun (primitive_axioms P) _ refl NIL
equality-first P (B ∷ D) = equality-added (block_axioms B) (axioms_of P D) (equality-first P D)
