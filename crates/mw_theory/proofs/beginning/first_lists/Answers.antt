-- The lists have the axioms of the initial theory.
use Rattle.std.proofs.Common.{◌++◌, reverse, map, sym, ap, ap₂, ◌∙◌, subst}
use Rattle.std.specs.List.{All}
use Rattle.mw_heap.specs.Objects.{object_at, IsIn, Grows}
use Rattle.mw_heap.specs.Variants.{profile_of}
use Rattle.mw_heap.proofs.Objects.{Grows-trans, IsIn-Grows, object_at-Grows}
use Rattle.mw_theory.specs.Knowledge.{put_all}
use Rattle.mw_theory.proofs.Held.{all-grow}
use Rattle.mw_theory.proofs.Initial.{Begins, second_axioms, nil_last, nil_kept, known_begun, known_last}
use Rattle.mw_theory.proofs.beginning.first_lists.Goals as goal

pub add_axioms-requires-clause-axioms : goal.add_axioms-requires-clause-axioms
add_axioms-requires-clause-axioms c =
    let n = c.nil.new.self.objects in
    let grows = Grows-trans _ _ _ c.list_arities.ensures.grows c.nil.ensures.grows in
    subst (All (IsIn n)) (sym c.as_slice.ensures) (all-grow c.build.new.heap.objects n grows c.in_ok-primitives.primitives c.in_ok-primitives.ensures.within)

pub add_axioms-requires-2-clause-axioms : goal.add_axioms-requires-2-clause-axioms
add_axioms-requires-2-clause-axioms c =
    let p = c.add_axioms.new.heap.objects in
    let grows = Grows-trans _ _ _ c.build.ensures.grows (Grows-trans _ _ _ c.list_arities.ensures.grows (Grows-trans _ _ _ c.nil.ensures.grows c.add_axioms.ensures.grows)) in
    subst (All (IsIn p)) (sym c.as_slice-2.ensures) (all-grow c.args.heap.now.objects p grows c.args.preamble.now.axioms c.requires.within)

start : (c : goal.After-drop-primitives-inside-2) → Begins (profile_of c.args.profile) c.args.heap.now.objects c.build.new.heap.objects c.nil.new.self.objects c.add_axioms.new.heap.objects c.add_axioms-2.new.heap.objects c.in_ok-primitives.primitives c.args.preamble.now.axioms c.in_ok-theorems.theorems c.in_ok-axioms.axioms c.in_ok-axioms-2.axioms c.add_axioms-2.new.known
start c =
    let n = c.nil.new.self.objects in
    let p = c.add_axioms.new.heap.objects in
    let first = c.in_ok-axioms.ensures in
    let second = c.in_ok-axioms-2.ensures in
    record {
      a_grows = c.build.ensures.grows;
      b_grows = Grows-trans _ _ _ c.list_arities.ensures.grows c.nil.ensures.grows;
      n_grows = c.add_axioms.ensures.grows;
      p_grows = c.add_axioms-2.ensures.grows;
      definitions_in = c.requires.within;
      definitions_are = c.requires.definitions;
      primitives_in = c.in_ok-primitives.ensures.within;
      primitives_are = c.in_ok-primitives.ensures.axioms;
      nil_in = c.in_ok-theorems.ensures.made.0;
      nil_is = c.in_ok-theorems.ensures.made.1;
      first_in = first.list.0;
      first_is = first.list.1 ∙ ap (λ xs. put_all (map (object_at n) xs) (object_at n c.in_ok-theorems.theorems)) c.as_slice.ensures;
      second_in = second.list.0;
      second_is = second.list.1 ∙ ap (λ xs. put_all (map (object_at p) xs) (object_at p c.in_ok-axioms.axioms)) c.as_slice-2.ensures;
      known_is = second.known ∙ ap₂ (λ xs k. reverse xs ++ k) c.as_slice-2.ensures (first.known ∙ ap₂ (λ xs k. reverse xs ++ k) c.as_slice.ensures c.requires.none);
    }

pub returns-in_err-axioms-clause-grows : goal.returns-in_err-axioms-clause-grows
returns-in_err-axioms-clause-grows c = Grows-trans _ _ _ c.build.ensures.grows (Grows-trans _ _ _ c.list_arities.ensures.grows (Grows-trans _ _ _ c.nil.ensures.grows c.add_axioms.ensures.grows))

pub returns-in_err-axioms-2-clause-grows : goal.returns-in_err-axioms-2-clause-grows
returns-in_err-axioms-2-clause-grows c =
    Grows-trans _ _ _ c.build.ensures.grows (Grows-trans _ _ _ c.list_arities.ensures.grows (Grows-trans _ _ _ c.nil.ensures.grows (Grows-trans _ _ _ c.add_axioms.ensures.grows c.add_axioms-2.ensures.grows)))

listed_grows : (c : goal.After-drop-primitives-inside-2) → Grows c.list_arities.new.heap.objects c.add_axioms-2.new.heap.objects
listed_grows c = Grows-trans _ _ _ c.nil.ensures.grows (Grows-trans _ _ _ c.add_axioms.ensures.grows c.add_axioms-2.ensures.grows)

pub returns-clause-grows : goal.returns-clause-grows
returns-clause-grows c = Grows-trans _ _ _ c.build.ensures.grows (Grows-trans _ _ _ c.list_arities.ensures.grows (listed_grows c))

pub returns-clause-axioms : goal.returns-clause-axioms
returns-clause-axioms c = (c.in_ok-axioms-2.ensures.list.0, second_axioms _ _ _ _ _ _ _ _ _ _ _ _ (start c))

pub returns-clause-theorems : goal.returns-clause-theorems
returns-clause-theorems c = (nil_kept _ _ _ _ _ _ _ _ _ _ _ _ (start c), nil_last _ _ _ _ _ _ _ _ _ _ _ _ (start c))

pub returns-clause-arity_list : goal.returns-clause-arity_list
returns-clause-arity_list c =
    let listed = c.in_ok-arity_list.ensures.list in
    (IsIn-Grows _ _ (listed_grows c) c.in_ok-arity_list.arity_list listed.0, object_at-Grows _ _ (listed_grows c) c.in_ok-arity_list.arity_list listed.0 ∙ listed.1)

pub returns-clause-each_axiom_in : goal.returns-clause-each_axiom_in
returns-clause-each_axiom_in c = known_begun _ _ _ _ _ _ _ _ _ _ _ _ (start c)

pub returns-clause-axioms_known : goal.returns-clause-axioms_known
returns-clause-axioms_known c = known_last _ _ _ _ _ _ _ _ _ _ _ _ (start c)

pub returns-in_err-arity_list-clause-grows : goal.returns-in_err-arity_list-clause-grows
returns-in_err-arity_list-clause-grows c = Grows-trans _ _ _ c.build.ensures.grows c.list_arities.ensures.grows

pub returns-in_err-theorems-clause-grows : goal.returns-in_err-theorems-clause-grows
returns-in_err-theorems-clause-grows c = Grows-trans _ _ _ c.build.ensures.grows (Grows-trans _ _ _ c.list_arities.ensures.grows c.nil.ensures.grows)
