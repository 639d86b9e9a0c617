-- The heap grows, and is cut back to where it was.
use Rattle.std.proofs.Common.{◌≡◌, ℕ, ◌<◌, true, List, Option, Some, None, Result, Ok, Err, IfOk, IfSome, sym, ◌∙◌, subst, arith}
use Rattle.mw_model.specs.Terms.Object.{Object}
use Rattle.mw_model.specs.Terms.Term.{Formula, ArityTable}
use Rattle.mw_model.specs.Values.Primitive.{Profile}
use Rattle.mw_model.specs.Laws.Rules.{is_formula_object}
use Rattle.mw_commands.specs.Commands.Log.{conclusion}
use Rattle.mw_heap.specs.Objects.{object_at, IsIn}
use Rattle.mw_heap.proofs.Objects.{length-Grows, take-Grows-mark}
use Rattle.mw_theory.specs.Knowledge.{parts_of, meant}
use Rattle.mw_theory.proofs.CallerLemmas.{held, grown-marked}
use Rattle.mw_flat.specs.Steps.{IsConclusion}
use Rattle.mw_flat.proofs.Formulas.{formulas-named}
use Rattle.mw_flat.proofs.OneMore.{concluded-formula}
use Rattle.mw_flat.proofs.Premises.{same-length}
use Rattle.mw_flat.proofs.flat.conclude.Goals as goal

-- what is concluded stands before the step, and is a formula
one_concluded : (ax th : Object) (A : ArityTable) (P : Profile) (Fs : List Formula) (x : ℕ) (y : Object) (os : List Object) (o : Option ℕ) → IsIn os x → IfSome o (λ r. r < x) → IsConclusion os o (conclusion ax th A P Fs y) → IfSome o (λ r. IsIn os r × (is_formula_object A (object_at os r) ≡ true))
one_concluded ax th A P Fs x y os None i b h = tt
one_concluded ax th A P Fs x y os (Some r) i b h = (omega (arith, i, b), concluded-formula ax th A P Fs y os r h)

if_both : {X E : Type 0} (r : Result X E) (P Q R : X → Type 0) → ((x : X) → P x → Q x → R x) → IfOk r P → IfOk r Q → IfOk r R
if_both (Ok x) P Q R f p q = f x p q
if_both (Err e) P Q R f p q = tt

pub conclusion_of-conclusion-requires-clause-held : goal.conclusion_of-conclusion-requires-clause-held
conclusion_of-conclusion-requires-clause-held c = held _ _ _ _ c.requires.world

pub cut_to-requires-clause-world : goal.cut_to-requires-clause-world
cut_to-requires-clause-world c =
    let w = c.args.world.now in
    grown-marked w.heap.objects w.needed w.theory w.marks c.requires.world c.conclusion_of-conclusion.new.heap.objects c.conclusion_of-conclusion.ensures.grows c.conclusion_of-conclusion.new.marks c.conclusion_of-conclusion.ensures.marked

pub cut_to-requires-clause-within : goal.cut_to-requires-clause-within
cut_to-requires-clause-within c = omega (arith, c.mark-end.ensures, length-Grows c.args.world.now.heap.objects c.conclusion_of-conclusion.new.heap.objects c.conclusion_of-conclusion.ensures.grows)

pub returns-clause-objects : goal.returns-clause-objects
returns-clause-objects c = c.cut_to.ensures.objects ∙ take-Grows-mark c.args.world.now.heap.objects c.conclusion_of-conclusion.new.heap.objects _ c.mark-end.ensures c.conclusion_of-conclusion.ensures.grows

pub returns-clause-formula : goal.returns-clause-formula
returns-clause-formula c =
    let w = c.args.world.now in
    let os = w.heap.objects in
    let known = held _ _ _ _ c.requires.world in
    let t = meant os (parts_of w.theory) in
    let n = formulas-named w.theory.arity os c.args.conclusions.now c.requires.conclusions in
    let counted = same-length os c.args.conclusions.now n.0 n.2 in
    subst (λ A. IfOk c.conclusion_of-conclusion.result (λ o. IfSome o (λ r. IsIn os r × (is_formula_object A (object_at os r) ≡ true)))) (sym known.arities)
    (if_both c.conclusion_of-conclusion.result _ _ _ (λ o b h. one_concluded t.axioms t.theorems _ t.definitions.profile n.0 c.args.x (object_at os c.args.x) os o c.requires.within b h) c.conclusion_of-conclusion.ensures.before (c.conclusion_of-conclusion.ensures.conclusion n.0 n.1 n.2 (omega (arith, counted))))

pub returns-clause-conclusion : goal.returns-clause-conclusion
returns-clause-conclusion c = λ Fs formulas same. c.conclusion_of-conclusion.ensures.conclusion Fs formulas same (omega (arith, same-length c.args.world.now.heap.objects c.args.conclusions.now Fs same))
