-- The names with how many formals they have.
use Rattle.std.proofs.Common.{[], ◌++◌, inr, sym, ap, ◌∙◌, subst}
use Rattle.mw_model.specs.Terms.Term.{are_distinct}
use Rattle.mw_model.specs.Events.Admission.{formals_of}
use Rattle.mw_term.specs.Parts.{names_at}
use Rattle.mw_translate.specs.Expands.{ArePairsOfSymbols, pair_names, with_pairs}
use Rattle.mw_translate.proofs.Pairs.{pairs-front}
use Rattle.mw_define.specs.Blocks.{draft_names}
use Rattle.mw_define.proofs.BlockRead.{of-drafts, counted, pairs-symbols}
use Rattle.mw_define.proofs.newer.arities_of_named.Goals as goal

pub returns-in_default : goal.returns-in_default
returns-in_default c = inr (of-drafts formals_of (λ d. d.formals) c.args.heap.now.objects c.args.drafts.now ∙ (rw c.in_default.is at c.in_ok-pairs.ensures))

pub arities_of-requires-clause-symbols : goal.arities_of-requires-clause-symbols
arities_of-requires-clause-symbols c =
    let os = c.args.heap.now.objects in
    subst (ArePairsOfSymbols os) (sym c.as_slice.ensures.value) (pairs-symbols os c.args.drafts.now c.in-Some.pairs.items (rw c.in-Some.is at c.in_ok-pairs.ensures) c.requires.symbols)

pub arities_of-requires-clause-distinct : goal.arities_of-requires-clause-distinct
arities_of-requires-clause-distinct c =
    let os = c.args.heap.now.objects in
    let k = counted os c.args.drafts.now c.in-Some.pairs.items (rw c.in-Some.is at c.in_ok-pairs.ensures) in
    ap (λ ps. are_distinct (pair_names os ps)) c.as_slice.ensures.value ∙ (ap are_distinct k.names ∙ c.requires.distinct)

pub returns : goal.returns
returns c =
    let os = c.args.heap.now.objects in
    let A = c.args.arity.now in
    let ds = c.args.drafts.now in
    let k = counted os ds c.in-Some.pairs.items (rw c.in-Some.is at c.in_ok-pairs.ensures) in
    record {
      names = names_at os (draft_names ds);
      formals = k.formals;
      are_new = c.requires.named;
      are_formals = of-drafts formals_of (λ d. d.formals) os ds ∙ k.are;
      table = ap (λ t. t ++ A) (c.in_ok-newer.ensures ∙ ap (λ ps. with_pairs os ps []) c.as_slice.ensures.value) ∙ (pairs-front os c.in-Some.pairs.items A ∙ k.pairs A);
    }
