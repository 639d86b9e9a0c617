-- Where the words are kept the place tells, and else each name was compared.
use Rattle.std.proofs.Common.{◌≡◌, false, get_or, sym, ap, ◌∙◌, subst, arith}
use Rattle.mw_model.specs.Terms.Object.{Symbol, name_of_bytes, same_object}
use Rattle.mw_model.proofs.Names.{same_object-eq}
use Rattle.mw_heap.specs.Objects.{object_at}
use Rattle.mw_heap.specs.Words.{word_object, KeepsWords}
use Rattle.mw_heap.specs.declared.vocabulary.word.Word.TheVariants as word
use Rattle.mw_heap.specs.declared.vocabulary.word.TheConstants.{WORDS}
use Rattle.mw_heap.proofs.Shown.{same-object}
use Rattle.mw_heap.proofs.Words.{word_told, all_words, one_below_more}
use Rattle.mw_heap.proofs.store.heap.Heap.word_at.Goals as goal

pub returns-then-self : goal.returns-then-self
returns-then-self c =
    let is = ap (λ v. v.objects) c.self.view_is in
    let keeps = subst (KeepsWords c.self.inside.has_words) is c.self.invariant.words in
    word_told c.args.self.now.objects c.args.x (keeps c.if-self.true) (λ y within. same-object _ _ _ c.self.invariant.sound _ is c.args.x y c.requires within) c.word_in.result c.word_in.ensures

pub returns-then-is_named : goal.returns-then-is_named
returns-then-is_named c = same_object-eq _ _ (sym c.is_named.ensures ∙ c.if-is_named.true) ∙ ap (λ b. Symbol (name_of_bytes b)) c.name.ensures

pub loop-word-preserved : goal.loop-word-preserved
loop-word-preserved c =
    let x = object_at c.args.self.now.objects c.args.x in
    one_below_more (λ i. same_object x (word_object (get_or WORDS i word.Nil)) ≡ false) c.loop-word.word-index c.loop-word.invariant
    (ap (λ b. same_object x (Symbol (name_of_bytes b))) (sym c.name.ensures) ∙ (sym c.is_named.ensures ∙ c.if-is_named.false))

pub returns : goal.returns
returns c =
    all_words (λ w. same_object (object_at c.args.self.now.objects c.args.x) (word_object w) ≡ false) word.Nil (λ i within. c.loop-word.invariant i (omega (arith, within, c.loop-word-test.false)))
