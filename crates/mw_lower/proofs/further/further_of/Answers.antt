-- By the names that it has not, and the one that it has.
use Rattle.std.proofs.Common.{[], ◌∷◌, sym, ◌∙◌}
use Rattle.mw_heap.specs.Objects.{object_at}
use Rattle.mw_lower.specs.declared.further.Further.TheVariants.{CommuteOr, ModusPonens, Symmetry, Transitivity, Replace}
use Rattle.mw_lower.proofs.RuleNames.{named, not_named}
use Rattle.mw_lower.proofs.further.further_of.Goals as goal

pub returns-then-is_word-2 : goal.returns-then-is_word-2
returns-then-is_word-2 c =
    let x = object_at c.args.heap.now.objects c.args.x in
    sym (not_named x CommuteOr (ModusPonens ∷ Symmetry ∷ Transitivity ∷ Replace ∷ []) _ c.is_word.ensures c.if-is_word.false
    ∙ named x ModusPonens (Symmetry ∷ Transitivity ∷ Replace ∷ []) _ c.is_word-else-is_word.ensures c.if-is_word-2.true)

pub returns-then-is_word-3 : goal.returns-then-is_word-3
returns-then-is_word-3 c =
    let x = object_at c.args.heap.now.objects c.args.x in
    sym (not_named x CommuteOr (ModusPonens ∷ Symmetry ∷ Transitivity ∷ Replace ∷ []) _ c.is_word.ensures c.if-is_word.false
    ∙ (not_named x ModusPonens (Symmetry ∷ Transitivity ∷ Replace ∷ []) _ c.is_word-else-is_word.ensures c.if-is_word-2.false
    ∙ named x Symmetry (Transitivity ∷ Replace ∷ []) _ c.is_word-else-is_word-2.ensures c.if-is_word-3.true))

pub returns-then-is_word-4 : goal.returns-then-is_word-4
returns-then-is_word-4 c =
    let x = object_at c.args.heap.now.objects c.args.x in
    sym (not_named x CommuteOr (ModusPonens ∷ Symmetry ∷ Transitivity ∷ Replace ∷ []) _ c.is_word.ensures c.if-is_word.false
    ∙ (not_named x ModusPonens (Symmetry ∷ Transitivity ∷ Replace ∷ []) _ c.is_word-else-is_word.ensures c.if-is_word-2.false
    ∙ (not_named x Symmetry (Transitivity ∷ Replace ∷ []) _ c.is_word-else-is_word-2.ensures c.if-is_word-3.false
    ∙ named x Transitivity (Replace ∷ []) _ c.is_word-else-is_word-3.ensures c.if-is_word-4.true)))

pub returns-then-is_word-5 : goal.returns-then-is_word-5
returns-then-is_word-5 c =
    let x = object_at c.args.heap.now.objects c.args.x in
    sym (not_named x CommuteOr (ModusPonens ∷ Symmetry ∷ Transitivity ∷ Replace ∷ []) _ c.is_word.ensures c.if-is_word.false
    ∙ (not_named x ModusPonens (Symmetry ∷ Transitivity ∷ Replace ∷ []) _ c.is_word-else-is_word.ensures c.if-is_word-2.false
    ∙ (not_named x Symmetry (Transitivity ∷ Replace ∷ []) _ c.is_word-else-is_word-2.ensures c.if-is_word-3.false
    ∙ (not_named x Transitivity (Replace ∷ []) _ c.is_word-else-is_word-3.ensures c.if-is_word-4.false
    ∙ named x Replace [] _ c.is_word-else-is_word-4.ensures c.if-is_word-5.true))))

pub returns-else-is_word-5 : goal.returns-else-is_word-5
returns-else-is_word-5 c =
    let x = object_at c.args.heap.now.objects c.args.x in
    sym (not_named x CommuteOr (ModusPonens ∷ Symmetry ∷ Transitivity ∷ Replace ∷ []) _ c.is_word.ensures c.if-is_word.false
    ∙ (not_named x ModusPonens (Symmetry ∷ Transitivity ∷ Replace ∷ []) _ c.is_word-else-is_word.ensures c.if-is_word-2.false
    ∙ (not_named x Symmetry (Transitivity ∷ Replace ∷ []) _ c.is_word-else-is_word-2.ensures c.if-is_word-3.false
    ∙ (not_named x Transitivity (Replace ∷ []) _ c.is_word-else-is_word-3.ensures c.if-is_word-4.false
    ∙ not_named x Replace [] _ c.is_word-else-is_word-4.ensures c.if-is_word-5.false))))
