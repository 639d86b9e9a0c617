-- The table begins with no functions, and keeps its profile.
use Rattle.std.proofs.Common.{◌≡◌, List, [], sym, ap, subst, ◌∙◌}
use Rattle.mw_model.specs.Terms.Object.{Object}
use Rattle.mw_model.specs.Values.Definition.{definitions}
use Rattle.mw_heap.specs.Variants.{profile_of}
use Rattle.mw_heap.specs.declared.vocabulary.profile.Profile.{Profile}
use Rattle.mw_code.specs.declared.table.Table.{Table}
use Rattle.mw_code.specs.Tables.{StandsFor}
use Rattle.mw_preamble.specs.Admitted.{definitions_of}
use Rattle.mw_preamble.specs.Entries.{AreEntries}
use Rattle.mw_preamble.specs.Rows.{built_in_rows}
use Rattle.mw_preamble.proofs.preamble.define_all.Goals as goal

profile-same : (os : List Object) (t u : Table) (P : Profile) → t ≡ u → StandsFor os u (definitions (profile_of P) []) → profile_of t.profile ≡ profile_of P
profile-same os t u P e h = ap (λ v. profile_of v.profile) e ∙ h.profile

pub define_rows-requires-clause-rows : goal.define_rows-requires-clause-rows
define_rows-requires-clause-rows c =
    let e = c.deref_mut-table.ensures.value ∙ c.in_ok-boxed.ensures.ok in
    c.requires.rows ∙ ap built_in_rows (sym (profile-same c.args.heap.now.objects _ _ c.args.profile e (c.new.ensures c.args.heap.now.objects)))

pub define_rows-requires-clause-empty : goal.define_rows-requires-clause-empty
define_rows-requires-clause-empty c =
    let os = c.args.heap.now.objects in
    let e = c.deref_mut-table.ensures.value ∙ c.in_ok-boxed.ensures.ok in
    let empty = c.new.ensures os in
    subst (λ P. StandsFor os c.deref_mut-table.result.now (definitions P [])) (sym (profile-same os _ _ c.args.profile e empty))
    (subst (λ t. StandsFor os t (definitions (profile_of c.args.profile) [])) (sym e) empty)

pub returns : goal.returns
returns c =
    let os = c.args.heap.now.objects in
    let e = c.deref_mut-table.ensures.value ∙ c.in_ok-boxed.ensures.ok in
    let same = profile-same os _ _ c.args.profile e (c.new.ensures os) in
    record {
      definitions = subst (λ P. AreEntries os c.in_ok-definitions.definitions (definitions_of P).blocks) same c.in_ok-definitions.ensures.entries;
      table = subst (λ P. StandsFor os c.define_rows.new.table (definitions_of P)) same c.in_ok-definitions.ensures.table;
    }
