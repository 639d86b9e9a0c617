-- All parts have the block, or none has it.
use Rattle.std.proofs.Common.{◌≡◌, sym, ap, ◌∙◌, subst}
use Rattle.mw_model.specs.Values.Definition.{add_block, is_block, arity_table}
use Rattle.mw_model.specs.Events.Admission.{add_to_theory}
use Rattle.mw_term.specs.Settling.{IsWatch}
use Rattle.mw_term.proofs.CallerLemmas.{AreMarks-grows, IsWatch-grows}
use Rattle.mw_theory.specs.Knowledge.{parts_of, meant, IsWorldOf}
use Rattle.mw_theory.proofs.Held.{held, watched, held-watched, needs-all, grown-other, grown_theory}
use Rattle.mw_preamble.proofs.CallerLemmas.{block-grows}
use Rattle.mw_theory.proofs.Defining.{may_be_added}
use Rattle.mw_theory.proofs.Results.{OnErr-from}
use Rattle.mw_theory.proofs.world.World.add_definitions.Goals as goal

pub add_definitions-requires-clause-held : goal.add_definitions-requires-clause-held
add_definitions-requires-clause-held c = held _ _ _ _ c.cut_behind.ensures.world

pub add_definitions-requires-clause-block : goal.add_definitions-requires-clause-block
add_definitions-requires-clause-block c = let (B, n) = c.requires.block in (B, c.cut_behind.ensures.block _ B n)

pub returns-in_err-add_definitions-clause-world : goal.returns-in_err-add_definitions-clause-world
returns-in_err-add_definitions-clause-world c =
    grown-other _ _ _ _ c.cut_behind.ensures.world c.add_definitions.new.heap.objects c.add_definitions.ensures.grows c.add_definitions.new.self c.in_err-add_definitions.ensures.err

pub returns-in_err-add_definitions-clause-err : goal.returns-in_err-add_definitions-clause-err
returns-in_err-add_definitions-clause-err c =
    let new = c.add_definitions.new.heap.objects in
    OnErr-from _ _
    (ap (λ t. meant new (parts_of t)) c.in_err-add_definitions.ensures.err.rest
    ∙ (grown_theory _ _ _ _ c.cut_behind.ensures.world new c.add_definitions.ensures.grows ∙ c.cut_behind.ensures.theory))

pub settle-requires : goal.settle-requires
settle-requires c =
    let cut = c.cut_behind.new.self in
    let os = cut.heap.objects in
    let new = c.add_definitions.new.heap.objects in
    let t = c.add_definitions.new.self in
    let ds = c.args.block.now in
    let (B, whole) = c.requires.block in
    let n = c.cut_behind.ensures.block _ B whole in
    let h = held _ _ _ _ c.cut_behind.ensures.world in
    let grows = c.add_definitions.ensures.grows in
    let arities : t.arity ≡ add_block B cut.theory.arity =
    c.in_ok-add_definitions.ensures.held.arities ∙ (ap (λ u. arity_table u.definitions) (c.in_ok-add_definitions.ensures.theory B n) ∙ ap (add_block B) (sym h.arities)) in (
      cut.theory.arity,
      B,
      record {
        means = block-grows os new grows ds B n.means;
        made = ap (λ A. is_block A B) h.arities ∙ (may_be_added os cut.theory h B ds c.args.axioms n).made;
        arities = arities;
        marked = AreMarks-grows cut.theory.arity os new cut.marks grows c.cut_behind.ensures.world.marked;
        watched = subst (λ w. IsWatch cut.theory.arity new w) (sym c.in_ok-add_definitions.ensures.watch) (IsWatch-grows cut.theory.arity os new cut.theory.watch grows (watched _ _ _ _ c.cut_behind.ensures.world));
      },
    )

pub returns-clause-world : goal.returns-clause-world
returns-clause-world c =
    let new = c.add_definitions.new.heap.objects in
    let t = c.add_definitions.new.self in
    let w = c.settle.new.watch in
    let ms = c.settle.new.marks in
    subst (λ n. IsWorldOf new n (record t { watch = w }) ms) (sym c.mark-self.ensures) (needs-all new (record t { watch = w }) ms (held-watched new t w c.in_ok-add_definitions.ensures.held) c.settle.ensures.marked c.settle.ensures.watch)

pub returns-clause-theory : goal.returns-clause-theory
returns-clause-theory c = λ B n.
    c.in_ok-add_definitions.ensures.theory B (c.cut_behind.ensures.block _ B n) ∙ ap (λ t. add_to_theory t B) c.cut_behind.ensures.theory
