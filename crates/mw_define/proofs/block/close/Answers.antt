-- The entry of a closed draft.
use Rattle.std.proofs.Common.{refl, sym, ◌∙◌}
use Rattle.mw_model.proofs.ReadBack.{names_back, term_back}
use Rattle.mw_heap.specs.Objects.{object_at}
use Rattle.mw_define.specs.Blocks.{function_at}
use Rattle.mw_define.proofs.Witnessed.{formals-names}
use Rattle.mw_define.proofs.block.close.Goals as goal

pub returns : goal.returns
returns c =
    let os = c.args.heap.now.objects in
    let list = object_at os c.args.expanded.formals in
    let h = function_at os c.args.expanded in (
      sym c.in_ok-is_closed.ensures ∙ c.if-not-branch.false,
      record {
        name = refl;
        formals_in = c.requires.within.1;
        formals = sym (names_back list h.formals (formals-names list h.formals c.requires.formals));
        body_in = c.requires.within.2;
        body = sym (term_back (object_at os c.args.expanded.body) h.body c.requires.body);
      },
    )
