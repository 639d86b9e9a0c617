-- By the word of the event. The other members of a VERIFY mean in the end what they meant before.
use Rattle.std.proofs.Common.{arith, refl, sym, ap, ap₂, ◌∙◌, subst}
use Rattle.mw_model.specs.Terms.Object.{Pair, symbol}
use Rattle.mw_heap.specs.Objects.{object_at, IsIn}
use Rattle.mw_heap.proofs.Objects.{IsIn-Grows, object_at-Grows}
use Rattle.mw_theory.specs.Knowledge.{parts_of, name_read, meant}
use Rattle.mw_theory.specs.Words.{event_object, IsEvent}
use Rattle.mw_theory.proofs.CallerLemmas.{IfOk-map}
use Rattle.mw_kernel.proofs.Parts.{AreIn-three}
use Rattle.mw_kernel.proofs.Rewritten.{verify-rewritten}
use Rattle.mw_kernel.proofs.rewriting.rewritten.Goals as goal
use Rattle.mw_kernel.proofs.rewriting.rewritten.Goals.{In-Verify}

-- its name and its formula are in the heap
members_in : (g : _) (c : In-Verify g) → IsIn c.args.heap.now.objects c.in-Verify.name × IsIn c.args.heap.now.objects c.in-Verify.formula
members_in g c =
    let event = subst (IsEvent c.args.heap.now.objects c.args.event) c.in-Verify.is c.in-Some.ensures.event in
    (omega (arith, event.1.0, c.requires.within), omega (arith, event.1.1, c.requires.within))

pub form_of-requires : goal.form_of-requires
form_of-requires g c =
    let (name, formula) = members_in g (goal.at.form_of-requires g c).In-Verify in
    let later = IsIn-Grows _ _ c.in_ok-turned-in-Verify.ensures.kept.grows in
    AreIn-three _ c.in-Verify.name c.in-Verify.formula c.in_ok-turned-in-Verify.turned (later _ name) (later _ formula) c.in_ok-turned-in-Verify.ensures.within

pub returns-in_ok-turned-in-Verify-clause-within : goal.returns-in_ok-turned-in-Verify-clause-within
returns-in_ok-turned-in-Verify-clause-within g c = IfOk-map c.form_of.result _ _ (λ r made. made.0) c.form_of.ensures.made

pub returns-in_ok-turned-in-Verify-clause-rewritten : goal.returns-in_ok-turned-in-Verify-clause-rewritten
returns-in_ok-turned-in-Verify-clause-rewritten g c =
    let os = c.args.heap.now.objects in
    let t = meant os (parts_of c.args.theory.now) in
    let turned = c.in_ok-turned-in-Verify.ensures in
    let (name, formula) = members_in g (goal.at.returns-in_ok-turned-in-Verify-clause-rewritten g c).In-Verify in
    let built_in = ap (name_read os) (sym c.in-None.is) in
    let event = c.in-Some.ensures.event.0 ∙ ap (event_object os) c.in-Verify.is in
    let same = ap (Pair (symbol "VERIFY")) (ap₂ Pair (object_at-Grows _ _ turned.kept.grows c.in-Verify.name name) (ap₂ Pair (object_at-Grows _ _ turned.kept.grows c.in-Verify.formula formula) refl)) in
    IfOk-map c.form_of.result _ _ (λ r made. verify-rewritten g.R.Rewriter.turns t built_in (object_at c.form_of.new.heap.objects r) (object_at os c.args.event) _ _ _ (object_at c.rewritten_proof.new.heap.objects c.in_ok-turned-in-Verify.turned) event turned.turned (made.1 ∙ same)) c.form_of.ensures.made
