-- What the event came to, and what was put behind the text, stays as its time is noted and the heap is cut.
use Rattle.std.proofs.Common.{◌≡◌, IfOk, OnOk, OnErr, sym, ap, ◌∙◌, subst}
use Rattle.mw_model.specs.Events.Fate.{fate, next}
use Rattle.mw_heap.specs.Objects.{object_at}
use Rattle.mw_theory.proofs.CallerLemmas.{held}
use Rattle.mw_kernel.specs.Fates.{fate_of, KeepsRoom}
use Rattle.mw_kernel.specs.Explained.{PutsWhy}
use Rattle.mw_kernel.specs.Knowledge.{theory_of}
use Rattle.mw_kernel.proofs.Told.{looked}
use Rattle.mw_kernel.proofs.kernel.Kernel.explained.Goals as goal

pub returns-clause-fate : goal.returns-clause-fate
returns-clause-fate g c =
    let before = looked c.self.inside.world c.allow_looks-looks.new.self c.self.inside.checker.steps c.allow_looks-looks.ensures.objects c.allow_looks-looks.ensures.rest ∙ c.self.view_is in
    subst (λ k. IfOk c.happens_explained-fate.result (λ f. fate_of f ≡ fate (theory_of k) (object_at k.objects c.args.event) k.steps)) before c.happens_explained-fate.ensures.comes.fate

pub returns-clause-theory : goal.returns-clause-theory
returns-clause-theory g c =
    let before = looked c.self.inside.world c.allow_looks-looks.new.self c.self.inside.checker.steps c.allow_looks-looks.ensures.objects c.allow_looks-looks.ensures.rest ∙ c.self.view_is in
    let after = c.cut.ensures.theory ∙ ap theory_of (c.self-2.view_is ∙ c.note_time.ensures) in
    subst (λ t. OnOk c.happens_explained-fate.result (t ≡ next (theory_of c.args.self.now) (object_at c.args.self.now.objects c.args.event) c.args.self.now.steps)) (sym after)
    (subst (λ k. OnOk c.happens_explained-fate.result (theory_of c.happens_explained-fate.new.self ≡ next (theory_of k) (object_at k.objects c.args.event) k.steps)) before c.happens_explained-fate.ensures.comes.theory)

pub returns-clause-err : goal.returns-clause-err
returns-clause-err g c =
    let before = looked c.self.inside.world c.allow_looks-looks.new.self c.self.inside.checker.steps c.allow_looks-looks.ensures.objects c.allow_looks-looks.ensures.rest ∙ c.self.view_is in
    let after = c.cut.ensures.theory ∙ ap theory_of (c.self-2.view_is ∙ c.note_time.ensures) in
    subst (λ t. OnErr c.happens_explained-fate.result (t ≡ theory_of c.args.self.now)) (sym after)
    (subst (λ k. OnErr c.happens_explained-fate.result (theory_of c.happens_explained-fate.new.self ≡ theory_of k)) before c.happens_explained-fate.ensures.comes.err)

pub returns-clause-sound : goal.returns-clause-sound
returns-clause-sound g c = (held _ _ _ _ c.cut.ensures.world).sound

pub returns-clause-kept : goal.returns-clause-kept
returns-clause-kept g c =
    let before = looked c.self.inside.world c.allow_looks-looks.new.self c.self.inside.checker.steps c.allow_looks-looks.ensures.objects c.allow_looks-looks.ensures.rest ∙ c.self.view_is in
    let needed = c.cut.ensures.needed ∙ ap (λ k. k.needed) (c.self-2.view_is ∙ c.note_time.ensures) in
    subst (λ n. IfOk c.happens_explained-fate.result (λ f. KeepsRoom f c.args.self.now.needed n)) (sym needed)
    (subst (λ k. IfOk c.happens_explained-fate.result (λ f. KeepsRoom f k.needed c.happens_explained-fate.new.self.needed)) before c.happens_explained-fate.ensures.comes.kept)

pub returns-clause-why : goal.returns-clause-why
returns-clause-why g c =
    let before = looked c.self.inside.world c.allow_looks-looks.new.self c.self.inside.checker.steps c.allow_looks-looks.ensures.objects c.allow_looks-looks.ensures.rest ∙ c.self.view_is in
    subst (λ k. IfOk c.happens_explained-fate.result (λ f. PutsWhy c.args.number (fate_of f) (theory_of k) k.steps (object_at k.objects c.args.event) c.args.out.now.items c.happens_explained-fate.new.out.items)) before c.happens_explained-fate.ensures.why
