-- The name has an arity, or none.
use Rattle.std.proofs.Common.{◌≡◌, ◌++◌, OnOk, is_some, sym, ap, ◌∙◌, subst}
use Rattle.mw_model.specs.Terms.Object.{name_of_bytes}
use Rattle.mw_model.specs.Terms.Term.{arity_of}
use Rattle.mw_model.specs.Values.Primitive.{name_of}
use Rattle.mw_model.proofs.Names.{name_of_bytes-bytes}
use Rattle.mw_heap.specs.Objects.{object_at}
use Rattle.mw_explain.specs.RawParts.{called_members, PutsParts}
use Rattle.mw_explain.proofs.PuttingParts.{puts-none}
use Rattle.mw_explain.proofs.raw_parts.put_actuals.Goals as goal

pub returns-in-Some : goal.returns-in-Some
returns-in-Some c =
    let os = c.args.heap.now.objects in
    let A = c.args.newer.now ++ c.args.older.now in
    let f = name_of (object_at os c.args.name) in
    let name : name_of_bytes c.name_of.result.now ≡ f = ap name_of_bytes (sym c.name_of.ensures) ∙ name_of_bytes-bytes f in
    let known = ap (arity_of A) (sym name) ∙ (sym c.look_up.ensures ∙ c.in-Some.is) in
    subst (λ ps. OnOk c.put_members.result (PutsParts os c.args.actuals ps c.args.parts.now.refs.items c.put_members.new.parts.refs.items)) (sym (ap (λ o. called_members (is_some o) (object_at os c.args.actuals)) known)) c.put_members.ensures

pub returns-in-None : goal.returns-in-None
returns-in-None c =
    let os = c.args.heap.now.objects in
    let A = c.args.newer.now ++ c.args.older.now in
    let f = name_of (object_at os c.args.name) in
    let name : name_of_bytes c.name_of.result.now ≡ f = ap name_of_bytes (sym c.name_of.ensures) ∙ name_of_bytes-bytes f in
    let known = ap (arity_of A) (sym name) ∙ (sym c.look_up.ensures ∙ c.in-None.is) in
    puts-none os c.args.actuals (called_members (is_some (arity_of A f)) (object_at os c.args.actuals)) c.args.parts.now.refs.items (ap (λ o. called_members (is_some o) (object_at os c.args.actuals)) known)
