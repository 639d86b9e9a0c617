-- A part by what it is.
use Rattle.std.proofs.Common.{◌∷◌, [], ◌++◌, refl, sym}
use Rattle.std.proofs.lemmas.Result.{on_ok_weaker}
use Rattle.mw_heap.specs.Objects.{object_at}
use Rattle.mw_heap.proofs.NoPair.{shown_no_pair}
use Rattle.mw_slice.specs.declared.part.Part.TheVariants.{Cell, Proof, Proofs}
use Rattle.mw_slice.proofs.Entering.{entered_cell_atom, entered_list_end, entered_proof_alone, entered_proof, entered_cell, entered_list, entered_as}
use Rattle.mw_slice.proofs.walk.enter.Goals as goal

pub returns-in-Pair : goal.returns-in-Pair
returns-in-Pair c =
    let os = c.args.heap.now.objects in
    let waited = c.args.waiting.now.items in
    let x = c.in-Cell.x in
    let a = c.in-Pair.first in
    let d = c.in-Pair.rest in
    let pair = c.in-Pair.ensures in
    on_ok_weaker c.push_two.result (λ e firsts.
    entered_as os firsts c.args.part (Cell x) waited c.push_two.new.waiting.items (waited ++ Cell d ∷ Cell a ∷ []) c.in-Cell.is e
    (entered_cell os firsts waited x a d pair.shows.2 pair.shows.0 pair.shows.1 pair.below.0 pair.below.1)) c.push_two.ensures

pub returns-in_default : goal.returns-in_default
returns-in_default c = λ firsts.
    let os = c.args.heap.now.objects in
    let waited = c.args.waiting.now.items in
    let x = c.in-Cell.x in
    entered_as os firsts c.args.part (Cell x) waited waited waited c.in-Cell.is refl (entered_cell_atom os firsts waited x (shown_no_pair os c.view.result (object_at os x) c.view.ensures.shows c.in_default.not-Pair))

pub returns-in_ok-push-in-Some : goal.returns-in_ok-push-in-Some
returns-in_ok-push-in-Some c = λ firsts.
    let os = c.args.heap.now.objects in
    let waited = c.args.waiting.now.items in
    let x = c.in-Proof.x in
    let ps = c.in-Some.subproofs in
    entered_as os firsts c.args.part (Proof x) waited c.push.new.self.items (waited ++ Proofs ps ∷ []) c.in-Proof.is c.in_ok-push-in-Some.ensures.items
    (entered_proof os firsts waited x ps (sym c.in-Some.ensures.value) c.in-Some.ensures.within c.in-Some.ensures.older)

pub returns-in-None : goal.returns-in-None
returns-in-None c = λ firsts.
    let os = c.args.heap.now.objects in
    let waited = c.args.waiting.now.items in
    let x = c.in-Proof.x in
    entered_as os firsts c.args.part (Proof x) waited waited waited c.in-Proof.is refl (entered_proof_alone os firsts waited x (sym c.in-None.ensures.value))

pub returns-in-Pair-view : goal.returns-in-Pair-view
returns-in-Pair-view c =
    let os = c.args.heap.now.objects in
    let waited = c.args.waiting.now.items in
    let x = c.in-Proofs.x in
    let a = c.in-Pair-view.first in
    let d = c.in-Pair-view.rest in
    let pair = c.in-Pair-view.ensures in
    let push = c.push_two-in-Pair-view in
    on_ok_weaker push.result (λ e firsts.
    entered_as os firsts c.args.part (Proofs x) waited push.new.waiting.items (waited ++ Proofs d ∷ Proof a ∷ []) c.in-Proofs.is e
    (entered_list os firsts waited x a d pair.shows.2 pair.shows.0 pair.shows.1 pair.below.0 pair.below.1)) push.ensures

pub returns-in_default-view : goal.returns-in_default-view
returns-in_default-view c = λ firsts.
    let os = c.args.heap.now.objects in
    let waited = c.args.waiting.now.items in
    let x = c.in-Proofs.x in
    entered_as os firsts c.args.part (Proofs x) waited waited waited c.in-Proofs.is refl (entered_list_end os firsts waited x (shown_no_pair os c.view-in-Proofs.result (object_at os x) c.view-in-Proofs.ensures.shows c.in_default-view.not-Pair))
