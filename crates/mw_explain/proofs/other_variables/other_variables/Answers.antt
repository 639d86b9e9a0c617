-- Those of the body, and then those of the measure.
use Rattle.std.proofs.Common.{◌≡◌, ◌++◌, [], map, sym, ap, ◌∙◌, subst}
use Rattle.std.specs.Option.{option_map_or}
use Rattle.mw_model.specs.Terms.Object.{Symbol, same_name}
use Rattle.mw_model.specs.Terms.Term.{firsts, occurrences, variables}
use Rattle.mw_model.specs.Events.Expansion.{without}
use Rattle.mw_term.specs.Parts.{names_at}
use Rattle.mw_explain.specs.Drafts.{formals_at}
use Rattle.mw_explain.specs.OtherVariables.{put_others}
use Rattle.mw_bad_steps.specs.Shown.{Shows}
use Rattle.mw_explain.proofs.PuttingOthers.{put-both}
use Rattle.mw_explain.proofs.VariablesPut.{symbols-none, shows-symbols, variables-firsts}
use Rattle.mw_explain.proofs.other_variables.other_variables.Goals as goal

pub put_variables-requires-clause-symbols : goal.put_variables-requires-clause-symbols
put_variables-requires-clause-symbols c = symbols-none c.args.heap.now.objects c.new-others.result.keys c.new-others.ensures.empty

pub returns : goal.returns
returns c = λ b m hb hm.
    let os = c.args.heap.now.objects in
    let out = formals_at os c.args.formals.now in
    let xs = option_map_or occurrences b [] in
    let ys = option_map_or occurrences m [] in
    let first = c.put_variables.new.others.keys in
    let keys = c.put_variables-2.new.others.keys in
    let one : names_at os first ≡ put_others out [] (firsts same_name xs) =
    c.in_ok-put_variables.ensures.put b hb ∙ (ap (λ l. put_others out (names_at os l) (option_map_or variables b [])) c.new-others.ensures.empty ∙ ap (put_others out []) (variables-firsts b)) in
    let two : names_at os keys ≡ put_others out (names_at os first) (firsts same_name ys) = c.in_ok-put_variables-2.ensures.put m hm ∙ ap (put_others out (names_at os first)) (variables-firsts m) in
    let is = put-both out xs ys (names_at os first) (names_at os keys) one two in
    let ns = without (firsts same_name (xs ++ ys)) out in
    subst (λ l. Shows os l (map Symbol ns)) (sym (c.in_ok-from_slice.ensures.items ∙ c.as_slice.ensures.keys)) (shows-symbols os keys ns c.in_ok-put_variables-2.ensures.symbols is)
