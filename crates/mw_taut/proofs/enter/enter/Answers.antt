-- What the formula of the table comes to is what is said of the case.
use Rattle.std.proofs.Common.{◌≡◌, ◌<◌, ◌≤◌, [], not, length, map, get_or, sym, ap, ap₂, ◌∙◌, subst, arith}
use Rattle.std.specs.Prelude.{All}
use Rattle.std.proofs.lemmas.List.{get_or-map}
use Rattle.mw_model.specs.Terms.Term.{formula_object}
use Rattle.mw_heap.specs.Objects.{object_at, IsIn}
use Rattle.mw_heap.proofs.Objects.{Grows-trans, object_at-Grows, IsIn-Grows}
use Rattle.mw_taut.specs.Reducing.{form_at, IsFormIn, nothing, literal_object, reduce_all}
use Rattle.mw_taut.specs.Nodes.{AreNodes}
use Rattle.mw_taut.specs.Meaning.{literal}
use Rattle.mw_taut.specs.Cases.{step_at}
use Rattle.mw_taut.proofs.Kept.{in_kept, map_kept}
use Rattle.mw_taut.proofs.Reduces.{literal_is}
use Rattle.mw_taut.proofs.Entering.{if_ok, next_equation, case_entered}
use Rattle.mw_taut.proofs.enter.enter.Goals as goal

pub reduce_all-requires : goal.reduce_all-requires
reduce_all-requires c =
    let old = c.args.heap.now.objects in
    let h1 = c.literal.new.heap.objects in
    let g1 = c.in_ok-context.ensures.grows in
    let e = get_or c.args.at.now.equations.now (length c.args.at.now.chosen.now) c.index-at-at.result in
    let table = c.args.table.now in
    let h = c.requires.table_in in
    let few : length c.as_slice.result.now ≤ length c.as_slice-formulas.result.now = omega (arith, h.parts, ap length c.as_slice.ensures.value, ap length c.as_slice-formulas.ensures.value) in
    record {
      at_in = record {
        formulas = subst (All (IsIn h1)) (sym c.as_slice-formulas.ensures.value) (in_kept old h1 g1 table.formulas.items h.formulas);
        equation = IsIn-Grows old h1 g1 e (c.requires.at_in.equations (length c.args.at.now.chosen.now) c.index-at-at.result c.requires.next);
        context = c.in_ok-context.ensures.within;
      };
      nodes = (length table.equations.items, subst (AreNodes (length table.equations.items) 0) (sym c.as_slice.ensures.value) h.nodes, few);
    }

pub entered-requires : goal.entered-requires
entered-requires c =
    let old = c.args.heap.now.objects in
    let h1 = c.literal.new.heap.objects in
    let h2 = c.reduce_all.new.heap.objects in
    let g2 = c.in_ok-reduced.ensures.grows in
    let to_here = Grows-trans old h1 h2 c.in_ok-context.ensures.grows g2 in
    let table = c.args.table.now in
    let inside : table.root < length c.in_ok-reduced.reduced.items = omega (arith, c.in_ok-reduced.ensures.within.1, c.requires.table_in.root, ap length c.as_slice.ensures.value) in
    record {
      d_in = IsIn-Grows h1 h2 g2 c.in_ok-context.context c.in_ok-context.ensures.within;
      at_in = record { formula = IsIn-Grows old h2 to_here c.args.at.now.formula c.requires.at_in.formula; equations = in_kept old h2 to_here c.args.at.now.equations.now c.requires.at_in.equations };
      r_in = subst (IsFormIn h2) (sym c.index.ensures) (c.in_ok-reduced.ensures.within.0 table.root c.index.result.now inside);
    }

pub returns-clause-entered : goal.returns-clause-entered
returns-clause-entered c =
    let old = c.args.heap.now.objects in
    let h1 = c.literal.new.heap.objects in
    let h2 = c.reduce_all.new.heap.objects in
    let h3 = c.entered.new.heap.objects in
    let g1 = c.in_ok-context.ensures.grows in
    let g2 = c.in_ok-reduced.ensures.grows in
    let equations = c.args.at.now.equations.now in
    let chosen = c.args.at.now.chosen.now in
    let table = c.args.table.now in
    let b = c.args.value in
    let here = c.index-at-at.result in
    let e = get_or equations (length chosen) here in
    let d = c.in_ok-context.context in
    let items = c.in_ok-reduced.reduced.items in
    let r = c.index.result.now in
    if_ok _ _ c.entered.result c.entered.ensures.made (λ o made A F before E rest p t.
    let e_in = c.requires.at_in.equations (length chosen) here c.requires.next in
    let at_e : object_at old e ≡ formula_object E = ap (λ k. object_at old (get_or equations k here)) p.many ∙ next_equation old before E rest equations here p.equations_are in
    let at_e1 : object_at h1 e ≡ formula_object E = object_at-Grows old h1 g1 e e_in ∙ at_e in
    let at_d : object_at h1 d ≡ formula_object (literal (not b) E) = c.in_ok-context.ensures.made ∙ (ap (λ x. literal_object x (not b)) at_e ∙ literal_is (not b) E) in
    let formulas : map (object_at h1) table.formulas.items ≡ map formula_object t.parts = map_kept old h1 g1 table.formulas.items c.requires.table_in.formulas ∙ t.formulas in
    let within : table.root < length items = omega (arith, c.in_ok-reduced.ensures.within.1, c.requires.table_in.root, ap length c.as_slice.ensures.value) in
    let whole : form_at h2 r ≡ get_or (reduce_all (formula_object (literal (not b) E)) (formula_object E) b (map formula_object t.parts) [] table.nodes.items) table.root nothing =
    ap (form_at h2) c.index.ensures
    ∙ (sym (get_or-map (form_at h2) items table.root r nothing within)
    ∙ ap (λ l. get_or l table.root nothing) (c.in_ok-reduced.ensures.made
    ∙ (ap (λ x. reduce_all x (object_at h1 e) b (map (object_at h1) c.as_slice-formulas.result.now) [] c.as_slice.result.now) at_d
    ∙ (ap (λ x. reduce_all (formula_object (literal (not b) E)) x b (map (object_at h1) c.as_slice-formulas.result.now) [] c.as_slice.result.now) at_e1
    ∙ ap₂ (λ x ns. reduce_all (formula_object (literal (not b) E)) (formula_object E) b x [] ns) (ap (map (object_at h1)) c.as_slice-formulas.ensures.value ∙ formulas) c.as_slice.ensures.value)))) in
    case_entered A F before E rest b chosen old equations c.args.at.now.formula table p t (object_at h2 d) (object_at h2 c.args.at.now.formula) (map (object_at h2) equations) c.as_slice-2.result.now (form_at h2 r) (step_at h3 o)
    (object_at-Grows h1 h2 g2 d c.in_ok-context.ensures.within ∙ at_d) (object_at-Grows old h2 (Grows-trans old h1 h2 g1 g2) c.args.at.now.formula c.requires.at_in.formula ∙ p.object) (map_kept old h2 (Grows-trans old h1 h2 g1 g2) equations c.requires.at_in.equations ∙ p.equations_are)
    (c.as_slice-2.ensures.value ∙ c.in_ok-longer.ensures) whole made)
