-- A proof that uses no axiom and no theorem is a proof whatever the axioms and the theorems are.
use Rattle.std.proofs.Common.{List}
use Rattle.mw_model.specs.Terms.Object.{Object, NIL, Member}
use Rattle.mw_model.specs.Terms.Term.{Formula, ArityTable}
use Rattle.mw_model.specs.Values.Primitive.{Profile}
use Rattle.mw_model.specs.Proofs.Proof.{Method, Follows, by_axiom, by_theorem, by_schema, by_equality, by_if_equality, by_beta, by_base, by_base_if, by_expansion, by_contraction, by_associativity, by_cut, by_instantiation, by_induction, Proves, proof, ProveEach, no_proofs, more_proofs}

pub no_member : (x : Object) → Member x NIL → ⊥
no_member x h = elim h [ ]

module _ (ax th : Object) (A : ArityTable) (P : Profile) where
  row_from_nothing : (m : Method) (F : Formula) (Fs : List Formula) (x : Object) → Follows NIL NIL A P m F Fs x → Follows ax th A P m F Fs x
  row_from_nothing m F Fs x (by_axiom G h) = absurd (no_member _ h)
  row_from_nothing m F Fs x (by_theorem G h) = absurd (no_member _ h)
  row_from_nothing m F Fs x (by_schema G) = by_schema G
  row_from_nothing m F Fs x (by_equality f ts us h k) = by_equality f ts us h k
  row_from_nothing m F Fs x (by_if_equality a b c d e f) = by_if_equality a b c d e f
  row_from_nothing m F Fs x (by_beta xs b ts) = by_beta xs b ts
  row_from_nothing m F Fs x (by_base f p cs h) = by_base f p cs h
  row_from_nothing m F Fs x (by_base_if a b c) = by_base_if a b c
  row_from_nothing m F Fs x (by_expansion G H) = by_expansion G H
  row_from_nothing m F Fs x (by_contraction G) = by_contraction G
  row_from_nothing m F Fs x (by_associativity G H K) = by_associativity G H K
  row_from_nothing m F Fs x (by_cut G H K) = by_cut G H K
  row_from_nothing m F Fs x (by_instantiation G s h) = by_instantiation G s h
  row_from_nothing m F Fs x (by_induction G n cs h) = by_induction G n cs h

  mutual
    pub proved_from_nothing : (p : Object) (F : Formula) → Proves NIL NIL A P p F → Proves ax th A P p F
    proved_from_nothing p F (proof q ps x m G Fs mem i gs row) = proof q ps x m G Fs mem i (each_from_nothing ps Fs gs) (row_from_nothing m G Fs x row)

    each_from_nothing : (ps : Object) (Fs : List Formula) → ProveEach NIL NIL A P ps Fs → ProveEach ax th A P ps Fs
    each_from_nothing ps Fs no_proofs = no_proofs
    each_from_nothing ps Fs (more_proofs p qs F Gs g gs) = more_proofs p qs F Gs (proved_from_nothing p F g) (each_from_nothing qs Gs gs)
