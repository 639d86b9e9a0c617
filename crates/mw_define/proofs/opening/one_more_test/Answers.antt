-- The test is made, and then the list.
use Rattle.std.proofs.Common.{ap₂, ◌∙◌}
use Rattle.std.proofs.lemmas.Result.{IfOk-weaker}
use Rattle.mw_model.specs.Terms.Object.{Pair}
use Rattle.mw_heap.proofs.Objects.{object_at-Grows, IsIn-Grows, Grows-trans}
use Rattle.mw_define.proofs.opening.one_more_test.Goals as goal

pub cons-requires-clause-second_in : goal.cons-requires-clause-second_in
cons-requires-clause-second_in c = IsIn-Grows c.args.heap.now.objects c.word.new.self.objects c.word.ensures.grows c.args.term c.requires.term_in

pub returns-in_err-test-clause-grows : goal.returns-in_err-test-clause-grows
returns-in_err-test-clause-grows c = Grows-trans c.args.heap.now.objects c.word.new.self.objects c.cons.new.self.objects c.word.ensures.grows c.cons.ensures.grows

pub cons-requires-2-clause-second_in : goal.cons-requires-2-clause-second_in
cons-requires-2-clause-second_in c =
    let h0 = c.args.heap.now.objects in
    let h1 = c.word.new.self.objects in
    let h2 = c.cons.new.self.objects in
    IsIn-Grows h0 h2 (Grows-trans h0 h1 h2 c.word.ensures.grows c.cons.ensures.grows) c.args.tests c.requires.tests_in

pub returns-clause-grows : goal.returns-clause-grows
returns-clause-grows c =
    let h0 = c.args.heap.now.objects in
    let h1 = c.word.new.self.objects in
    let h2 = c.cons.new.self.objects in
    Grows-trans h0 h2 c.cons-2.new.self.objects (Grows-trans h0 h1 h2 c.word.ensures.grows c.cons.ensures.grows) c.cons-2.ensures.grows

pub returns-clause-made : goal.returns-clause-made
returns-clause-made c =
    let h0 = c.args.heap.now.objects in
    let h1 = c.word.new.self.objects in
    let h2 = c.cons.new.self.objects in
    let test = c.in_ok-test.ensures.made.1 ∙ ap₂ Pair c.in_ok-kind.ensures.made.1 (object_at-Grows h0 h1 c.word.ensures.grows c.args.term c.requires.term_in) in
    let tests = object_at-Grows h0 h2 (Grows-trans h0 h1 h2 c.word.ensures.grows c.cons.ensures.grows) c.args.tests c.requires.tests_in in
    IfOk-weaker c.cons-2.result _ _ (λ r made. (made.0, made.1 ∙ ap₂ Pair test tests)) c.cons-2.ensures.made
