-- The term that the body expands to, and the last test of it.
use Rattle.std.proofs.Common.{◌≡◌, Some, refl, sym, ap, ◌∙◌}
use Rattle.mw_model.specs.Terms.Reading.{term_of}
use Rattle.mw_model.proofs.Formed.{formed}
use Rattle.mw_model.proofs.Read.{term_read}
use Rattle.mw_heap.specs.Objects.{object_at}
use Rattle.mw_heap.proofs.Objects.{Grows-refl}
use Rattle.mw_define.specs.Tests.{no_term, a_term}
use Rattle.mw_define.proofs.Witnessed.{expand-term, symbols-Grows}
use Rattle.mw_define.proofs.witness.formed_witness.Goals as goal
use Rattle.mw_define.proofs.witness.formed_witness.Goals.{In-Term}

-- the term is read back
read : (c : goal.In-Term) → term_of (object_at c.expand.new.heap.objects c.in-Term.term) ≡ Some c.in-Term.ensures.expanded.0
read c =
    let A = c.args.arity.now in
    let t = c.in-Term.ensures.expanded in
    ap term_of t.3 ∙ term_read A t.0 (formed A t.0 (expand-term A (object_at c.args.heap.now.objects c.args.body) t.0 t.1))

pub closes-requires-clause-symbols : goal.closes-requires-clause-symbols
closes-requires-clause-symbols c = symbols-Grows c.args.heap.now.objects c.expand.new.heap.objects c.args.formals.now c.in-Term.ensures.grows c.requires.formals

pub returns-in-NotTerm-clause-admitted : goal.returns-in-NotTerm-clause-admitted
returns-in-NotTerm-clause-admitted c = no_term c.in-NotTerm.ensures.expanded

pub returns-then-not-branch-clause-admitted : goal.returns-then-not-branch-clause-admitted
returns-then-not-branch-clause-admitted c =
    let t = c.in-Term.ensures.expanded in
    let os = c.expand.new.heap.objects in
    a_term os c.in-Term.term t.0 _ c.in-Term.ensures.grows (Grows-refl os) t.2 t.3 t.1
    (refl, sym (c.in_ok-closes-in-Term.ensures t.0 (read (goal.at.returns-then-not-branch-clause-admitted c).In-Term)) ∙ c.if-not-branch.true)

pub returns-in_ok-owed-in-Term-clause-admitted : goal.returns-in_ok-owed-in-Term-clause-admitted
returns-in_ok-owed-in-Term-clause-admitted c =
    let t = c.in-Term.ensures.expanded in
    a_term c.expand.new.heap.objects c.in-Term.term t.0 _ c.in-Term.ensures.grows c.in_ok-owed-in-Term.ensures.grows t.2 t.3 t.1
    (sym (c.in_ok-closes-in-Term.ensures t.0 (read (goal.at.returns-in_ok-owed-in-Term-clause-admitted c).In-Term)) ∙ c.if-not-branch.false, c.in_ok-owed-in-Term.ensures.owed)
