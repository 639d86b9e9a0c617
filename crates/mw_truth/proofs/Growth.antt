-- A sound theory stays sound with a new theorem, a new block or a claimed checker.
use Rattle.std.proofs.Common.{◌≡◌, suc, true, List, ◌∷◌, length, Option, Some, None, refl, ap, subst, eqb-true}
use Rattle.mw_model.specs.Terms.Object.{Name, Object, Natural, Symbol, Pair, later, is_member}
use Rattle.mw_model.specs.Terms.Term.{Formula, formula_object}
use Rattle.mw_model.specs.Values.Definition.{Function, Block, IsWellMade, block_axioms}
use Rattle.mw_model.specs.Values.Value.{IsTotal}
use Rattle.mw_model.specs.Events.Evaluation.{code_of}
use Rattle.mw_model.specs.BuiltIns.BuiltIn.{built_in}
use Rattle.mw_model.specs.Events.Theory.{Theory, claim, BeginsWith, IsClaimed, IsSound}
use Rattle.mw_model.specs.Events.Admission.{add_to_theory}
use Rattle.mw_model.specs.Events.Fate.{has_four_formals, checker_named}
use Rattle.mw_model.proofs.ReadBack.{some_one, when_some}
use Rattle.mw_model.proofs.Follows.{member_true}
use Rattle.mw_model.proofs.CodeStays.{code_stays}
use Rattle.mw_truth.specs.Admitted.{with_block}
use Rattle.mw_truth.specs.Methods.{IsTrueFormula}
use Rattle.mw_truth.proofs.NewAxioms.{block_axioms-good}
use Rattle.mw_truth.proofs.TrueLists.{pair_true, add_true, stay_true}

-- a theorem more
claimed_later : (t : Theory) (F : Formula) (c : Option Name) → IsClaimed t c → IsClaimed (record t { theorems = Pair (formula_object F) t.theorems }) c
claimed_later t F None k = tt
claimed_later t F (Some f) k = (k.0, k.1, k.2, later (formula_object F) t.theorems k.3)

pub theorem_sound : (t : Theory) → IsSound t → (F : Formula) → IsTrueFormula t.definitions F → IsSound (record t { theorems = Pair (formula_object F) t.theorems })
theorem_sound t s F h = record {
  made = s.made;
  begun = s.begun;
  total = s.total;
  axioms_true = s.axioms_true;
  theorems_true = pair_true t.definitions F t.theorems h s.theorems_true;
  claimed = claimed_later t F t.checker s.claimed;
}

-- a block more
claimed_after : (t : Theory) (B : Block) → IsWellMade (with_block t.definitions B) → (c : Option Name) → IsClaimed t c → IsClaimed (add_to_theory t B) c
claimed_after t B w None k = tt
claimed_after t B w (Some f) k = (k.0, code_stays t.definitions.profile B t.definitions.blocks w f k.0 k.1, k.2, k.3)

begins_after : (old D : List Block) (B : Block) → BeginsWith old D → BeginsWith old (B ∷ D)
begins_after old D B b = (B ∷ b.0, ap (λ E. B ∷ E) b.1)

pub block_sound : (t : Theory) → IsSound t → (B : Block) → IsWellMade (with_block t.definitions B) → IsTotal (with_block t.definitions B) → IsSound (add_to_theory t B)
block_sound t s B w total =
    let P = t.definitions.profile in
    let D = t.definitions.blocks in
    record {
      made = w;
      begun = begins_after (built_in P) D B s.begun;
      total = total;
      axioms_true = add_true (with_block t.definitions B) (block_axioms B) t.axioms (block_axioms-good P B D w total) (stay_true P B D w t.axioms s.axioms_true);
      theorems_true = stay_true P B D w t.theorems s.theorems_true;
      claimed = claimed_after t B w t.checker s.claimed;
    }

-- another checker
four : (o : Option Function) → has_four_formals o ≡ true → (h : Function) × (o ≡ Some h) × (length h.formals ≡ 4)
four None h = cc
four (Some g) h = (g, refl, eqb-true (length g.formals) 4 h)

checker_code : (t : Theory) (x : Object) (f : Name) → checker_named t x ≡ Some f → (h : Function) × (code_of t.definitions.blocks f ≡ Some h) × (length h.formals ≡ 4)
checker_code t (Natural n) f h = cc
checker_code t (Pair a b) f h = cc
checker_code t (Symbol g) f h =
    let p = when_some (has_four_formals (code_of t.definitions.blocks g)) (Some g) f h in
    subst (λ z. (h : Function) × (code_of t.definitions.blocks z ≡ Some h) × (length h.formals ≡ 4)) (some_one p.1) (four (code_of t.definitions.blocks g) p.0)

pub switch_sound : (t : Theory) → IsSound t → (x : Object) (f : Name) → checker_named t x ≡ Some f → is_member (formula_object (claim f)) t.theorems ≡ true → IsSound (record t { checker = Some f; level = suc t.level })
switch_sound t s x f q m =
    let c = checker_code t x f q in
    record {
      made = s.made;
      begun = s.begun;
      total = s.total;
      axioms_true = s.axioms_true;
      theorems_true = s.theorems_true;
      claimed = (c.0, c.1, c.2, member_true (formula_object (claim f)) t.theorems m);
    }
