-- The last arm: no row has the method with that number of subproofs.
use Rattle.std.proofs.Common.{◌≡◌, ◌<◌, ◌≤◌, ℕ, length, true, sym, ap, ◌∙◌, subst, rules, arith}
use Rattle.mw_model.specs.Terms.Term.{ArityTable}
use Rattle.mw_model.specs.Laws.Rules.{is_formula_object}
use Rattle.mw_heap.specs.Objects.{object_at}
use Rattle.mw_rules.specs.declared.method.Method.TheVariants.{Instantiation}
use Rattle.mw_rules.proofs.RuleLemmas.{no_row-of, no_row-extras}
use Rattle.mw_rules.proofs.rules.follows.Goals as goal
use Rattle.mw_rules.proofs.rules.follows.Goals.{in-Instantiation-len1, in-Instantiation-len1-2, in_default-via-in-Instantiation+then-conclusions-lt1, in_default-via-in-Instantiation+else-conclusions-lt1+else-conclusions-lt2, in_default-via-in-Axiom-1}

pub instantiation-requires-clause-formula : goal.instantiation-requires-clause-formula
instantiation-requires-clause-formula c =
    let a = c.args in
    let P : ℕ → Type 0 = λ r. (A : ArityTable) × (is_formula_object A (object_at a.heap.now.objects r) ≡ true) in
    elim c.in-Instantiation-len1-1.branch [
      | in-Instantiation-len1 w ↦ subst P (sym (ap (λ r. r.now) w.a-is ∙ w.a-item.is)) (c.requires.formulas 0 w.a-item.result w.in-Instantiation-len1.len_at_least)
      | in-Instantiation-len1-2 w ↦ subst P (sym (ap (λ r. r.now) w.a-is ∙ w.a-item-then-this-lt2.is)) (c.requires.formulas 0 w.a-item-then-this-lt2.result w.in-Instantiation-len1.len_at_least)
    ]

pub returns-in_default-clause-answer : goal.returns-in_default-clause-answer
returns-in_default-clause-answer c = λ A k.
    let a = c.args in
    elim c.in_default.branch [
      | in_default-via-in-Instantiation+then-conclusions-lt1 w ↦ let none : length a.conclusions.now < 1 = search rules in no_row-of a.heap.now.objects a.basis.now A a.conclusion a.conclusions.now a.extras a.method Instantiation (search rules) (λ e. omega arith)
      | in_default-via-in-Instantiation+else-conclusions-lt1+else-conclusions-lt2 w ↦ let two : 2 ≤ length a.conclusions.now = search rules in no_row-of a.heap.now.objects a.basis.now A a.conclusion a.conclusions.now a.extras a.method Instantiation (search rules) (λ e. omega arith)
      | in_default-via-in-Axiom-1 w ↦ no_row-extras a.heap.now.objects a.basis.now A a.conclusion a.conclusions.now a.extras a.method w.in_default.not-Instantiation-0 w.in_default.not-Induction-0 (sym c.is_nil.ensures ∙ c.if-not-is_nil.true)
    ]

pub returns-in_default-2-2-clause-answer : goal.returns-in_default-2-2-clause-answer
returns-in_default-2-2-clause-answer c = λ A k.
    let a = c.args in
    let d = c.in_default-2 in
    no_row-of a.heap.now.objects a.basis.now A a.conclusion a.conclusions.now a.extras a.method _ d.is-0 (λ e. omega arith)

pub returns-in_default-2-3-clause-answer : goal.returns-in_default-2-3-clause-answer
returns-in_default-2-3-clause-answer c = λ A k.
    let a = c.args in
    let d = c.in_default-2 in
    no_row-of a.heap.now.objects a.basis.now A a.conclusion a.conclusions.now a.extras a.method _ d.is-0 (λ e. omega arith)

pub returns-in_default-2-4-clause-answer : goal.returns-in_default-2-4-clause-answer
returns-in_default-2-4-clause-answer c = λ A k.
    let a = c.args in
    let d = c.in_default-2 in
    no_row-of a.heap.now.objects a.basis.now A a.conclusion a.conclusions.now a.extras a.method _ d.is-0 (λ e. omega arith)

pub returns-in_default-2-5-clause-answer : goal.returns-in_default-2-5-clause-answer
returns-in_default-2-5-clause-answer c = λ A k.
    let a = c.args in
    let d = c.in_default-2 in
    no_row-of a.heap.now.objects a.basis.now A a.conclusion a.conclusions.now a.extras a.method _ d.is-0 (λ e. omega arith)

pub returns-in_default-2-6-clause-answer : goal.returns-in_default-2-6-clause-answer
returns-in_default-2-6-clause-answer c = λ A k.
    let a = c.args in
    let d = c.in_default-2 in
    no_row-of a.heap.now.objects a.basis.now A a.conclusion a.conclusions.now a.extras a.method _ d.is-0 (λ e. omega arith)

pub returns-in_default-2-7-clause-answer : goal.returns-in_default-2-7-clause-answer
returns-in_default-2-7-clause-answer c = λ A k.
    let a = c.args in
    let d = c.in_default-2 in
    no_row-of a.heap.now.objects a.basis.now A a.conclusion a.conclusions.now a.extras a.method _ d.is-0 (λ e. omega arith)

pub returns-in_default-2-8-clause-answer : goal.returns-in_default-2-8-clause-answer
returns-in_default-2-8-clause-answer c = λ A k.
    let a = c.args in
    let d = c.in_default-2 in
    no_row-of a.heap.now.objects a.basis.now A a.conclusion a.conclusions.now a.extras a.method _ d.is-0 (λ e. omega arith)

pub returns-in_default-2-10-clause-answer : goal.returns-in_default-2-10-clause-answer
returns-in_default-2-10-clause-answer c = λ A k.
    let a = c.args in
    let d = c.in_default-2 in
    no_row-of a.heap.now.objects a.basis.now A a.conclusion a.conclusions.now a.extras a.method _ d.is-0 (λ e. omega arith)

pub returns-in_default-2-12-clause-answer : goal.returns-in_default-2-12-clause-answer
returns-in_default-2-12-clause-answer c = λ A k.
    let a = c.args in
    let d = c.in_default-2 in
    no_row-of a.heap.now.objects a.basis.now A a.conclusion a.conclusions.now a.extras a.method _ d.is-0 (λ e. omega arith)

pub returns-in_default-2-14-clause-answer : goal.returns-in_default-2-14-clause-answer
returns-in_default-2-14-clause-answer c = λ A k.
    let a = c.args in
    let d = c.in_default-2 in
    no_row-of a.heap.now.objects a.basis.now A a.conclusion a.conclusions.now a.extras a.method _ d.is-0 (λ e. omega arith)

pub returns-in_default-2-15-clause-answer : goal.returns-in_default-2-15-clause-answer
returns-in_default-2-15-clause-answer c = λ A k.
    let a = c.args in
    let d = c.in_default-2 in
    no_row-of a.heap.now.objects a.basis.now A a.conclusion a.conclusions.now a.extras a.method _ d.is-0 (λ e. omega arith)

pub returns-in_default-2-16-clause-answer : goal.returns-in_default-2-16-clause-answer
returns-in_default-2-16-clause-answer c = λ A k.
    let a = c.args in
    let d = c.in_default-2 in
    no_row-of a.heap.now.objects a.basis.now A a.conclusion a.conclusions.now a.extras a.method _ d.is-0 (λ e. omega arith)
