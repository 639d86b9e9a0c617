use Rattle.std.proofs.Common.{ℕ, ◌∙◌, ap, sym, Option, Some, is_some, nat_eq, eqb, if◌then◌else◌}
use Rattle.std.specs.Map.{lookup}
use Rattle.mw_heap.specs.Objects.{object_at}
use Rattle.indexmap.specs.IndexMap.{IndexMap}
use Rattle.mw_read.specs.Named.{seen, status}
use Rattle.mw_read.proofs.Named.{known, insert_is, listed_at, complete_is, complete_not}
use Rattle.mw_read.proofs.labels.end.Goals as goal

pub returns-in-Some-clause-agrees : goal.returns-in-Some-clause-agrees
returns-in-Some-clause-agrees c os ls h q =
    let some = sym (ap is_some c.in-Some.ensures.value) in
    insert_is os c.args.labels.now.entries _ c.args.n q (Some c.args.x) (((c.get_mut.follows.holds (Some c.args.x)).3 some).0 q)
    ∙ ap (λ s. if eqb q c.args.n then Some (Some (object_at os c.args.x)) else s) (h q)
    ∙ sym (complete_is c.args.n q (object_at os c.args.x) ls (known os c.args.labels.now.entries ls c.args.n h ∙ some))

pub returns-in-Some-clause-listed : goal.returns-in-Some-clause-listed
returns-in-Some-clause-listed c k l h q =
    let some = sym (ap is_some c.in-Some.ensures.value) in
    listed_at k c.args.x (nat_eq c.args.n q) (lookup (nat_eq q) c.args.labels.now.entries) _ (((c.get_mut.follows.holds (Some c.args.x)).3 some).0 q) l (h q)

pub returns-in_default-clause-agrees : goal.returns-in_default-clause-agrees
returns-in_default-clause-agrees c os ls h q =
    let none = sym (ap is_some c.in_default.ensures.value) in
    ap (λ (m : IndexMap ℕ (Option ℕ) _). seen os (lookup (nat_eq q) m.entries)) c.get_mut.follows.holds-at-none
    ∙ h q
    ∙ ap (status q) (sym (complete_not c.args.n (object_at os c.args.x) ls (known os c.args.labels.now.entries ls c.args.n h ∙ none)))
