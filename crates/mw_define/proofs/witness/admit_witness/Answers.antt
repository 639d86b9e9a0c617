-- One test after another.
use Rattle.std.proofs.Common.{option_map, IfSome, sym, ap, ◌∙◌, subst}
use Rattle.mw_model.specs.Terms.Object.{Pair}
use Rattle.mw_model.specs.Values.Primitive.{name_of}
use Rattle.mw_heap.specs.Objects.{object_at}
use Rattle.mw_heap.proofs.Objects.{object_at-Grows, IsIn-Grows}
use Rattle.mw_term.specs.Parts.{names_at, AreSymbols}
use Rattle.mw_term.specs.Parts as parts
use Rattle.mw_define.specs.Tests.{by_name, by_formals}
use Rattle.mw_define.proofs.Witnessed.{formals-same, new_name-some, new_name-none, last-tests}
use Rattle.mw_define.proofs.witness.admit_witness.Goals as goal

pub returns-then-not-is_new_name-clause-admitted : goal.returns-then-not-is_new_name-clause-admitted
returns-then-not-is_new_name-clause-admitted c = by_name (new_name-none c.args.arity.now (object_at c.args.heap.now.objects c.args.name) (sym c.is_new_name.ensures ∙ c.if-not-is_new_name.true))

pub returns-in-Ok-None-clause-admitted : goal.returns-in-Ok-None-clause-admitted
returns-in-Ok-None-clause-admitted c =
    let os = c.args.heap.now.objects in
    let name = new_name-some c.args.arity.now (object_at os c.args.name) (sym c.is_new_name.ensures ∙ c.if-not-is_new_name.false) in
    by_formals (name_of (object_at os c.args.name)) name.0
    (formals-same (Pair (object_at os c.args.bound) (object_at os c.args.free))
    ∙ (ap parts.formals_of (sym c.in-Ok.ensures.made.1) ∙ (sym c.in-Ok-None.ensures.formals ∙ ap (option_map (names_at c.cons.new.self.objects)) c.in-Ok-None.field-0-is)))

pub returns-in-Ok-formed_witness-clause-admitted : goal.returns-in-Ok-formed_witness-clause-admitted
returns-in-Ok-formed_witness-clause-admitted c =
    let os = c.args.heap.now.objects in
    let h1 = c.cons.new.self.objects in
    let A = c.args.arity.now in
    let g = c.in-Ok.ensures.grows in
    let name = new_name-some A (object_at os c.args.name) (sym c.is_new_name.ensures ∙ c.if-not-is_new_name.false) in
    let symbols = subst (λ o. IfSome o (AreSymbols h1)) c.in-Ok-Some.field-0-is c.in-Ok-Some.ensures.symbols in
    let are = formals-same (Pair (object_at os c.args.bound) (object_at os c.args.free)) ∙ (ap parts.formals_of (sym c.in-Ok.ensures.made.1) ∙ (sym c.in-Ok-Some.ensures.formals ∙ ap (option_map (names_at h1)) c.in-Ok-Some.field-0-is)) in
    last-tests A (object_at os c.args.name) (object_at os c.args.bound) (object_at os c.args.free) (object_at os c.args.body) name.0 name.1 h1 c.formed_witness.new.heap.objects c.args.name c.in-Ok.list c.args.free c.args.body c.in-Ok-Some.formals symbols are
    (IsIn-Grows os h1 g c.args.name c.requires.name_in) c.in-Ok.ensures.made.0 (IsIn-Grows os h1 g c.args.free c.requires.free_in)
    (object_at-Grows os h1 g c.args.name c.requires.name_in) c.in-Ok.ensures.made.1 (object_at-Grows os h1 g c.args.free c.requires.free_in) (object_at-Grows os h1 g c.args.body c.requires.body_in)
    c.in-Ok-formed_witness.admitted c.in-Ok-formed_witness.ensures.admitted
