-- All parts have the block, or the code alone is another.
use Rattle.std.proofs.Common.{◌≡◌, ◌++◌, reverse, map, false, refl, sym, ap, ap₂, ◌∙◌, subst}
use Rattle.std.specs.Box.{with_value}
use Rattle.mw_heap.specs.Objects.{object_at}
use Rattle.mw_heap.proofs.ListMembers.{proper_list-is}
use Rattle.mw_code.specs.Tables.{StandsFor}
use Rattle.mw_theory.specs.Adding.{MayBeAdded}
use Rattle.mw_theory.specs.Defining.{HasOtherCode}
use Rattle.mw_theory.specs.Knowledge.{parts_of, definitions_of, put_all}
use Rattle.mw_theory.proofs.Defining.{may_be_added, is-added, defined, defined_theory}
use Rattle.mw_theory.proofs.Results.{OnErr-from}
use Rattle.mw_theory.proofs.theory.Theory.add_definitions.Goals as goal

pub add_block-requires-clause-block : goal.add_block-requires-clause-block
add_block-requires-clause-block c =
    let os = c.args.heap.now.objects in
    let t = c.args.self.now in
    let (B, n) = c.requires.block in
    let D = definitions_of os (parts_of t) in
    (D, B, subst (λ T. MayBeAdded os T D c.args.block.now B) (sym c.deref_mut.ensures.value) (may_be_added os t c.requires.held B c.args.block.now c.args.axioms n), c.requires.held.arities)

pub returns-in_err-lists-clause-err : goal.returns-in_err-lists-clause-err
returns-in_err-lists-clause-err c =
    let e = c.in_err-lists.ensures in
    let t = c.args.self.now in
    let box = with_value t.table c.add_block.new.table in
    let other : HasOtherCode t (record t { known_axioms = c.add_block.new.known; arity = c.add_block.new.arity; entries = c.add_block.new.entries; table = box }) = record {
      rest = ap₂ (λ A es. record t { known_axioms = c.add_block.new.known; arity = A; entries = es; table = box }) e.err_arity e.err_entries ∙ ap (λ ks. record t { known_axioms = ks; table = box }) e.err_known;
      stands = λ os D h. e.err_table os D (subst (λ C. StandsFor os C D) (sym c.deref_mut.ensures.value) h);
    } in
    OnErr-from _ _ other

pub returns-clause-held : goal.returns-clause-held
returns-clause-held c =
    let os = c.args.heap.now.objects in
    let t = c.args.self.now in
    let h = c.requires.held in
    let ds = c.args.block.now in
    let (B, n) = c.requires.block in
    let l = c.in_ok-lists.lists in
    let e = c.in_ok-lists.ensures in
    let D = definitions_of os (parts_of t) in
    let may = subst (λ T. MayBeAdded os T D ds B) (sym c.deref_mut.ensures.value) (may_be_added os t h B ds c.args.axioms n) in
    let put = subst (λ xs. object_at c.add_block.new.heap.objects l.axioms ≡ put_all (map (object_at os) xs) (object_at os t.axioms)) c.as_slice.ensures.value e.axiom_list.1 in
    let listed = e.arity_list D B may h.arities in
    defined os t h B ds n.means c.add_block.new.heap.objects _
    (is-added os t h B ds c.args.axioms n c.in_ok-members.members.items c.in_ok-members.ensures.within (λ proper. c.in_ok-members.ensures.members ∙ proper_list-is _ proper) c.add_block.new.heap.objects c.add_block.ensures.grows l.axioms put _ refl refl e.axiom_list.0 refl listed.0 listed.1 (e.arity D B may h.arities) (e.known ∙ ap (λ xs. reverse xs ++ t.known_axioms) c.as_slice.ensures.value) refl e.entries (e.table D B may) refl refl refl)

pub returns-clause-theory : goal.returns-clause-theory
returns-clause-theory c = λ B n.
    let os = c.args.heap.now.objects in
    let t = c.args.self.now in
    let h = c.requires.held in
    let ds = c.args.block.now in
    let l = c.in_ok-lists.lists in
    let e = c.in_ok-lists.ensures in
    let D = definitions_of os (parts_of t) in
    let may = subst (λ T. MayBeAdded os T D ds B) (sym c.deref_mut.ensures.value) (may_be_added os t h B ds c.args.axioms n) in
    let put = subst (λ xs. object_at c.add_block.new.heap.objects l.axioms ≡ put_all (map (object_at os) xs) (object_at os t.axioms)) c.as_slice.ensures.value e.axiom_list.1 in
    let listed = e.arity_list D B may h.arities in
    let after = record t { known_axioms = c.add_block.new.known; arity = c.add_block.new.arity; axioms = l.axioms; arity_list = l.arity_list; entries = c.add_block.new.entries; table = with_value t.table c.add_block.new.table; is_initial = false } in
    defined_theory os t h B ds n.means c.add_block.new.heap.objects after
    (is-added os t h B ds c.args.axioms n c.in_ok-members.members.items c.in_ok-members.ensures.within (λ proper. c.in_ok-members.ensures.members ∙ proper_list-is _ proper) c.add_block.new.heap.objects c.add_block.ensures.grows l.axioms put after refl refl e.axiom_list.0 refl listed.0 listed.1 (e.arity D B may h.arities) (e.known ∙ ap (λ xs. reverse xs ++ t.known_axioms) c.as_slice.ensures.value) refl e.entries (e.table D B may) refl refl refl)
