-- The variables of what was expanded.
use Rattle.std.proofs.Common.{◌≡◌, ◌++◌, [], map, unwrap_or, IfSome, sym, ap, ap₂, ◌∙◌, subst}
use Rattle.std.specs.Option.{option_map_or}
use Rattle.mw_model.specs.Terms.Object.{Symbol, same_name}
use Rattle.mw_model.specs.Terms.Term.{firsts, occurrences}
use Rattle.mw_model.specs.Events.Admission.{formals_of}
use Rattle.mw_model.specs.Events.Expansion.{expand, without}
use Rattle.mw_heap.specs.Objects.{object_at}
use Rattle.mw_heap.proofs.Objects.{Grows-trans, IsIn-Grows, object_at-Grows}
use Rattle.mw_term.specs.Parts.{AreSymbols}
use Rattle.mw_explain.specs.Drafts.{IsExpandedTo, formals_at}
use Rattle.mw_bad_steps.specs.Shown.{Shows}
use Rattle.mw_explain.proofs.DraftsShown.{expanded-to, expanded-in, expanded-Grows, formals-named}
use Rattle.mw_explain.proofs.one_draft.variables_shown.Goals as goal

pub read_formals-requires : goal.read_formals-requires
read_formals-requires c =
    let os = c.args.heap.now.objects in
    let mid = c.expanded_body-2.new.heap.objects in
    IsIn-Grows os mid (Grows-trans os c.expanded_body.new.heap.objects mid c.in_ok-body.ensures.grows c.in_ok-measure.ensures.grows) c.args.draft.formals c.requires.1

pub other_variables-requires-clause-body : goal.other_variables-requires-clause-body
other_variables-requires-clause-body c =
    let os = c.args.heap.now.objects in
    let one = c.expanded_body.new.heap.objects in
    let two = c.expanded_body-2.new.heap.objects in
    let B = c.args.newer.now ++ c.args.older.now in
    let x = object_at os c.args.draft.body in
    expanded-in c.read_formals.new.heap.objects (expand B x) c.in_ok-body.body
    (subst (λ h. IsExpandedTo h (expand B x) c.in_ok-body.body) (sym c.in_ok-formals.ensures.same) (expanded-Grows one two c.in_ok-measure.ensures.grows (expand B x) c.in_ok-body.body (expanded-to B one x c.in_ok-body.body c.in_ok-body.ensures.expanded)))

pub other_variables-requires-clause-measure : goal.other_variables-requires-clause-measure
other_variables-requires-clause-measure c =
    let one = c.expanded_body.new.heap.objects in
    let two = c.expanded_body-2.new.heap.objects in
    let N = c.new-none.result ++ c.args.older.now in
    let x = object_at one c.args.draft.measure in
    expanded-in c.read_formals.new.heap.objects (expand N x) c.in_ok-measure.measure
    (subst (λ h. IsExpandedTo h (expand N x) c.in_ok-measure.measure) (sym c.in_ok-formals.ensures.same) (expanded-to N two x c.in_ok-measure.measure c.in_ok-measure.ensures.expanded))

pub other_variables-requires-clause-formals : goal.other_variables-requires-clause-formals
other_variables-requires-clause-formals c = subst (λ h. IfSome c.in_ok-formals.formals (AreSymbols h)) (sym c.in_ok-formals.ensures.same) c.in_ok-formals.ensures.symbols

pub returns-clause-shown : goal.returns-clause-shown
returns-clause-shown c =
    let os = c.args.heap.now.objects in
    let one = c.expanded_body.new.heap.objects in
    let two = c.expanded_body-2.new.heap.objects in
    let three = c.read_formals.new.heap.objects in
    let four = c.take_searches.new.heap.objects in
    let A = c.args.older.now in
    let B = c.args.newer.now ++ A in
    let N = c.new-none.result ++ A in
    let first = c.in_ok-body.ensures.grows in
    let both = Grows-trans os one two first c.in_ok-measure.ensures.grows in
    let same = c.in_ok-formals.ensures.same in
    let body = expand B (object_at os c.args.draft.body) in
    let measure = expand A (object_at os c.args.draft.measure) in
    let body_is : IsExpandedTo three body c.in_ok-body.body =
    subst (λ h. IsExpandedTo h body c.in_ok-body.body) (sym same) (expanded-Grows one two c.in_ok-measure.ensures.grows body c.in_ok-body.body (expanded-to B one (object_at os c.args.draft.body) c.in_ok-body.body c.in_ok-body.ensures.expanded)) in
    let under : expand N (object_at one c.args.draft.measure) ≡ measure = ap₂ (λ M y. expand (M ++ A) y) c.new-none.ensures (object_at-Grows os one first c.args.draft.measure c.requires.3) in
    let measure_is : IsExpandedTo three measure c.in_ok-measure.measure =
    subst (λ h. IsExpandedTo h measure c.in_ok-measure.measure) (sym same) (subst (λ t. IsExpandedTo two t c.in_ok-measure.measure) under (expanded-to N two (object_at one c.args.draft.measure) c.in_ok-measure.measure c.in_ok-measure.ensures.expanded)) in
    let formals : formals_at three c.in_ok-formals.formals ≡ unwrap_or (formals_of (object_at os c.args.draft.formals)) [] =
    ap (λ h. formals_at h c.in_ok-formals.formals) same
    ∙ (formals-named two c.in_ok-formals.formals (formals_of (object_at two c.args.draft.formals)) c.in_ok-formals.ensures.formals
    ∙ ap (λ y. unwrap_or (formals_of y) []) (object_at-Grows os two both c.args.draft.formals c.requires.1)) in
    let all = firsts same_name (option_map_or occurrences body [] ++ option_map_or occurrences measure []) in
    subst (λ h. Shows h c.in_ok-others.others.items (map Symbol (without all (unwrap_or (formals_of (object_at os c.args.draft.formals)) [])))) (sym c.in_ok-take_searches.ensures)
    (subst (λ out. Shows three c.in_ok-others.others.items (map Symbol (without all out))) formals (c.in_ok-others.ensures body measure body_is measure_is))
