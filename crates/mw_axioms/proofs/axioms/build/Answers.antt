-- The machine makes what the table means, and this is the axioms.
use Rattle.std.proofs.Common.{sym, ap, ap₂, ◌∙◌, subst}
use Rattle.std.specs.Prelude.{map, reverse}
use Rattle.mw_model.specs.Terms.Term.{formula_object}
use Rattle.mw_model.specs.Proofs.Axioms.{primitive_axioms}
use Rattle.mw_heap.specs.Objects.{Grows}
use Rattle.mw_heap.specs.Variants.{profile_of}
use Rattle.mw_heap.specs.declared.vocabulary.profile.Profile.{Profile}
use Rattle.mw_heap.proofs.Objects.{Grows-trans}
use Rattle.mw_axioms.specs.declared.table.TheConstants.{SHARED, OF_TIMES}
use Rattle.mw_build.specs.Stacks.{stack_of, AreIn}
use Rattle.mw_build.proofs.OnStack.{map-stack_of}
use Rattle.mw_axioms.proofs.TableMeans.{all_made, run-shared, run-both}
use Rattle.mw_axioms.proofs.axioms.build.Goals as goal
use Rattle.mw_axioms.proofs.axioms.build.Goals.{in-One, in-Two+in_ok-make_all-in-Two}

pub returns-clause-axioms : goal.returns-clause-axioms
returns-clause-axioms c =
    let heap = c.match-profile.heap.objects in
    let axioms = λ (p : Profile). map formula_object (primitive_axioms (profile_of p)) in
    let empty = ap (stack_of c.args.heap.now.objects) c.new-formulas.ensures.items in
    let shared = c.in_ok-make_all.ensures.made ∙ ap (λ s. all_made s SHARED) empty in
    map-stack_of heap c.match-profile.formulas.items
    ∙ elim c.match-profile.branch [
      | in-One w ↦
          ap reverse (ap₂ (λ h v. stack_of h.objects v.items) w.heap-is w.formulas-is ∙ shared) ∙ (run-shared ∙ ap axioms (sym w.in-One.is))
      | in-Two+in_ok-make_all-in-Two w ↦
          ap reverse (ap₂ (λ h v. stack_of h.objects v.items) w.heap-is w.formulas-is ∙ (w.in_ok-make_all-in-Two.ensures.made ∙ ap (λ s. all_made s OF_TIMES) shared)) ∙ (run-both ∙ ap axioms (sym w.in-Two.is))
    ]

pub make_all-requires-in-Two : goal.make_all-requires-in-Two
make_all-requires-in-Two c = c.in_ok-make_all.ensures.within

pub returns-in_err-make_all-in-Two-clause-grows : goal.returns-in_err-make_all-in-Two-clause-grows
returns-in_err-make_all-in-Two-clause-grows c = Grows-trans _ _ _ c.in_ok-make_all.ensures.grows c.in_err-make_all-in-Two.ensures.grows

pub returns-clause-grows : goal.returns-clause-grows
returns-clause-grows c =
    let start = c.args.heap.now.objects in
    elim c.match-profile.branch [
      | in-One w ↦ subst (λ h. Grows start h.objects) (sym w.heap-is) c.in_ok-make_all.ensures.grows
      | in-Two+in_ok-make_all-in-Two w ↦ subst (λ h. Grows start h.objects) (sym w.heap-is) (Grows-trans _ _ _ c.in_ok-make_all.ensures.grows w.in_ok-make_all-in-Two.ensures.grows)
    ]

pub returns-clause-within : goal.returns-clause-within
returns-clause-within c =
    let formulas = c.match-profile.formulas.items in
    elim c.match-profile.branch [
      | in-One w ↦ subst (λ h. AreIn h.objects formulas) (sym w.heap-is) (subst (λ v. AreIn c.make_all.new.heap.objects v.items) (sym w.formulas-is) c.in_ok-make_all.ensures.within)
      | in-Two+in_ok-make_all-in-Two w ↦
          subst (λ h. AreIn h.objects formulas) (sym w.heap-is) (subst (λ v. AreIn w.make_all-in-Two.new.heap.objects v.items) (sym w.formulas-is) w.in_ok-make_all-in-Two.ensures.within)
    ]
