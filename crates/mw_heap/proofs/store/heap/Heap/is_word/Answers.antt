-- Where the words are kept a symbol is known by its place, and else by its name.
use Rattle.std.proofs.Common.{sym, ap, ap₂, ◌∙◌, subst, arith, length, eqb}
use Rattle.mw_model.specs.Terms.Object.{Symbol, name_of_bytes, same_object}
use Rattle.mw_heap.specs.Objects.{object_at}
use Rattle.mw_heap.specs.Parts.{part_at, IsPart}
use Rattle.mw_heap.specs.Words.{word_object, place_of}
use Rattle.mw_heap.proofs.Shown.{same-object}
use Rattle.mw_heap.proofs.Words.{nil_is_first}
use Rattle.mw_heap.proofs.store.heap.Heap.is_word.Goals as goal

pub returns-then-not-self : goal.returns-then-not-self
returns-then-not-self c = c.is_named.ensures ∙ ap (λ b. same_object (part_at c.args.self.now.objects c.args.x) (Symbol (name_of_bytes b))) c.name.ensures

pub returns-in-Some : goal.returns-in-Some
returns-in-Some c =
    let os = c.args.self.now.objects in
    let is = ap (λ v. v.objects) c.self.view_is in
    let stands = c.self.invariant.words c.if-not-self.false c.args.word in
    c.eq.ensures
    ∙ (same-object _ _ _ c.self.invariant.sound _ is _ _ (subst (IsPart os) c.in-Some.is c.requires) (omega (arith, stands.0, c.place.ensures, ap length is))
    ∙ ap₂ same_object (ap (part_at os) (sym c.in-Some.is)) (ap (object_at os) c.place.ensures ∙ (ap (λ l. object_at l (place_of c.args.word)) (sym is) ∙ stands.1)))

pub returns-in-None : goal.returns-in-None
returns-in-None c =
    ap (λ k. eqb k 0) (c.index.ensures ∙ c.place-in-None.ensures) ∙ (nil_is_first c.args.word ∙ ap (λ x. same_object (part_at c.args.self.now.objects x) (word_object c.args.word)) (sym c.in-None.is))
