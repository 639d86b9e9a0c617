-- One more piece: it takes the newest of the stack, and what is made of them stands on the others.
use Rattle.std.proofs.Common.{◌≡◌, [], ◌∷◌, ◌++◌, ◌-◌, ◌<◌, ◌≤◌, map, get_or, length, drop, sym, ap, ◌∙◌, arith}
use Rattle.std.proofs.lemmas.List.{length-drop, take_all}
use Rattle.std.proofs.lemmas.Result.{IfOk-weaker}
use Rattle.mw_model.specs.Terms.Object.{Pair}
use Rattle.mw_heap.specs.Objects.{object_at}
use Rattle.mw_heap.specs.Words.{word_object}
use Rattle.mw_heap.proofs.Objects.{Grows-trans}
use Rattle.mw_build.specs.Pieces.{taken_by, object_of, run}
use Rattle.mw_build.specs.Rules.{made_by}
use Rattle.mw_build.specs.Stacks.{newest, stack_of}
use Rattle.mw_build.proofs.OnStack.{AreIn-grows, map-grows}
use Rattle.mw_build.proofs.OneMore.{one_more_piece, one_deeper}
use Rattle.mw_build.proofs.Taking.{list_object-is, one_step}
use Rattle.mw_build.proofs.machine.+run.Goals as goal

pub apply-returns-clause-made : goal.apply-returns-clause-made
apply-returns-clause-made t c =
    let os = c.args.heap.now.objects in
    let rules = map (λ x. x.now) c.args.rules.now in
    let given = map (object_at os) c.args.given.now in
    let more : 0 < c.args.depth = omega (arith, c.if-depth-eq0.false) in
    let made = made_by rules (c.args.depth - 1) in
    let start : run made given (stack_of os c.in_ok-stack.stack.items) c.pieces_at-pieces.result.now ≡ run made given [] (get_or rules c.args.number []) = λ i. run made given (stack_of os (c.in_ok-stack.ensures.items i)) (c.pieces_at-pieces.ensures i) in
    IfOk-weaker c.newest.result _ _ (λ r m. (m.0, m.1 ∙ (ap newest (c.in_ok-run.ensures.made ∙ start) ∙ one_deeper rules c.args.depth c.args.number given more))) c.newest.ensures.made

pub make_piece-returns-in-List-clause-made : goal.make_piece-returns-in-List-clause-made
make_piece-returns-in-List-clause-made t c =
    let at = object_at c.args.heap.now.objects in
    let of = object_of (made_by (map (λ x. x.now) c.args.rules.now) c.args.depth) (map at c.args.given.now) (map at c.args.parts.now) in
    IfOk-weaker c.list_of.result _ _ (λ r m. (m.0, m.1 ∙ (list_object-is _ _ ∙ ap of (sym c.in-List.is)))) c.list_of.ensures.made

pub make_piece-returns-in-Form-clause-made : goal.make_piece-returns-in-Form-clause-made
make_piece-returns-in-Form-clause-made t c =
    let at = object_at c.args.heap.now.objects in
    let of = object_of (made_by (map (λ x. x.now) c.args.rules.now) c.args.depth) (map at c.args.given.now) (map at c.args.parts.now) in
    IfOk-weaker c.form_of.result _ _ (λ r m. (m.0, m.1 ∙ (ap (Pair (word_object c.in-Form.word)) (list_object-is _ _) ∙ ap of (sym c.in-Form.is)))) c.form_of.ensures.made

pub run-loop-piece-preserved : goal.run-loop-piece-preserved
run-loop-piece-preserved t c =
    let before = c.loop-piece.invariant in
    let grows = c.take_step.ensures.grows in
    let made = made_by (map (λ x. x.now) c.args.rules.now) c.args.depth in
    let given = map (object_at c.args.heap.now.objects) c.args.given.now in
    let stack = stack_of c.loop-piece.heap.objects c.loop-piece.stack.items in
    record {
      within = c.in_ok-take_step.ensures.within;
      given = map-grows _ _ _ grows before.given_in ∙ before.given;
      given_in = AreIn-grows _ _ _ grows before.given_in;
      grows = Grows-trans _ _ _ before.grows grows;
      made = one_more_piece made given _ c.args.pieces.now c.loop-piece.piece-index _ stack _ before.given c.loop-piece-test.true c.in_ok-take_step.ensures.made ∙ before.made;
    }

pub take_step-returns-clause-made : goal.take_step-returns-clause-made
take_step-returns-clause-made t c =
    let os = c.args.heap.now.objects in
    let refs = c.args.stack.now.items in
    let made = made_by (map (λ x. x.now) c.args.rules.now) c.args.depth in
    let given = map (object_at os) c.args.given.now in
    let k = c.saturating_sub-left.result in
    let left : k ≡ length refs - taken_by c.args.piece = omega (arith, c.saturating_sub-left.ensures, c.len.ensures, c.taken.ensures, c.args.stack.now.ok.0) in
    let all : length (drop k c.deref.result.now) ≤ length c.deref.result.now - k = omega (arith, length-drop k c.deref.result.now) in
    let are = take_all _ _ all ∙ ap (drop k) c.deref.ensures.value in
    let items = c.in_ok-push.ensures.items ∙ ap (λ xs. xs ++ c.in_ok-made.made ∷ []) c.truncate.ensures.items in
    one_step made given c.args.piece os c.make_piece.new.heap.objects refs _ _ k c.in_ok-made.made left are c.requires.stack c.make_piece.ensures.grows c.in_ok-made.ensures.made.1 items
