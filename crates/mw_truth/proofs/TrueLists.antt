-- Lists of true formulas: adding to them, keeping them under a newer block, and the axioms of definitions that are total.
use Rattle.std.proofs.Common.{◌≡◌, true, List, [], ◌∷◌, refl}
use Rattle.mw_model.specs.Terms.Object.{Object, Pair, NIL, first, later}
use Rattle.mw_model.specs.Terms.Term.{Formula, formula_object, IsFormula}
use Rattle.mw_model.specs.Values.Primitive.{Profile}
use Rattle.mw_model.specs.Values.Definition.{Block, Definitions, definitions, arity_table, are_blocks, block_axioms}
use Rattle.mw_model.specs.Values.Value.{IsTotal}
use Rattle.mw_model.specs.Values.Truth.{Each, AreTrueIn}
use Rattle.mw_model.specs.Proofs.Axioms.{primitive_axioms}
use Rattle.mw_model.specs.Events.Theory.{add_formulas, axioms_of, AreTrueFormulas}
use Rattle.mw_model.proofs.Older.{older_made}
use Rattle.mw_truth.specs.Methods.{IsTrueFormula}
use Rattle.mw_truth.proofs.AxiomsTrue.{axioms_true}
use Rattle.mw_truth.proofs.AxiomFormulas.{axioms_formulas}
use Rattle.mw_truth.proofs.OlderTruth.{formula_stays, true_to}
use Rattle.mw_truth.proofs.Totals.{total_before}
use Rattle.mw_truth.proofs.NewAxioms.{block_axioms-good}

pub none_true : (D : Definitions) → AreTrueFormulas D NIL
none_true D x m = absurd (elim m [ ])

pub pair_true : (D : Definitions) (F : Formula) (list : Object) → IsTrueFormula D F → AreTrueFormulas D list → AreTrueFormulas D (Pair (formula_object F) list)
pair_true D F list t all x (first rest) = (F, refl, t.0, t.1)
pair_true D F list t all x (later y rest m) = all x m

pub add_true : (D : Definitions) (Fs : List Formula) (list : Object) → Each (IsTrueFormula D) Fs → AreTrueFormulas D list → AreTrueFormulas D (add_formulas Fs list)
add_true D [] list t all = all
add_true D (F ∷ Fs) list t all = add_true D Fs (Pair (formula_object F) list) t.1 (pair_true D F list t.0 all)

pub stay_true : (P : Profile) (B : Block) (D : List Block) → are_blocks P (B ∷ D) ≡ true → (list : Object) → AreTrueFormulas (definitions P D) list → AreTrueFormulas (definitions P (B ∷ D)) list
stay_true P B D w list all x m =
    let r = all x m in
    (r.0, r.1, formula_stays P B D w r.0 r.2, λ e. true_to P B D w e r.0 r.2 (r.3 e))

-- the axioms of total definitions
both_true : (D : Definitions) (Fs : List Formula) → Each (IsFormula (arity_table D)) Fs → AreTrueIn D Fs → Each (IsTrueFormula D) Fs
both_true D [] i t = tt
both_true D (F ∷ Fs) i t = ((i.0, t.0), both_true D Fs i.1 t.1)

pub axioms_of-true : (P : Profile) (D : List Block) → are_blocks P D ≡ true → IsTotal (definitions P D) → AreTrueFormulas (definitions P D) (axioms_of P D)
axioms_of-true P [] w t =
    add_true (definitions P []) (primitive_axioms P) NIL (both_true (definitions P []) (primitive_axioms P) (axioms_formulas (definitions P []) w) (axioms_true (definitions P []))) (none_true (definitions P []))
axioms_of-true P (B ∷ D) w t =
    add_true (definitions P (B ∷ D)) (block_axioms B) (axioms_of P D) (block_axioms-good P B D w t)
    (stay_true P B D w (axioms_of P D) (axioms_of-true P D (older_made P B D w) (total_before P B D w t)))
